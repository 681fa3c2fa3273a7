-- Calls that can be made: a line call on a composed packet and a key call, and what the panel then writes.
use Prim.Native.Nat.{ℕ, ◌+◌, ◌<◌, ◌≤◌}
use mathlib.Core.Path.{◌≡◌, refl, sym, ◌∙◌, ap}
use mathlib.Core.Bool.{Bool, true, false, not}
use mathlib.Core.List.{List, []}
use native.Mathlib.Omega.{arith}
use borrow.Author.Tests.{eq-eqb, le-leb}
use lib.ListN.{length, replicate, length-replicate}
use Rattle.std.specs.Prelude.{Ok}
use Rattle.lists.proofs.Laws.{when_true}
use Rattle.packets.specs.Packet.{content_most, reply_size, packet_bytes}
use Rattle.packets.specs.Hold.{held}
use Rattle.shapes.specs.Shape.{Bytes}
use Rattle.filing.specs.declared.Record.{Record}
use Rattle.filing.specs.Filing.{blank, register_records}
use Rattle.verdict.specs.declared.Reason.{Reason}
use Rattle.verdict.specs.Verdict.{refused, verdict_of}
use Rattle.picture.specs.Draw.{cell_count, picture_size, font_size}
use Rattle.panel.specs.declared.Panel.{Panel}
use Rattle.replies.specs.Replies.{reply_data}
use Rattle.events.specs.Keys.{as_told, report_bytes, reports, key_accepted, key_said}
use Rattle.events.proofs.KeyCalls.{key_checks}
use Rattle.answers.specs.declared.Answer.TheVariants.{Done}
use Rattle.answers.specs.declared.Said.{Said}
use Rattle.answers.proofs.Checks.{Pass, accepted_by}
use Rattle.linecall.specs.Line.{Lent, lent, line_said, line_picture, line_list, line_reply, files_after}
use Rattle.reading.specs.declared.Meaning.TheVariants.{Reply}
use Rattle.reading.specs.Reading.{reading_with}
use Rattle.exchange.specs.Writes.{Possible, reply_meant, error_meant, report_meant, CallsLine, Writes, in_reply, in_refusal, in_report}
use Rattle.exchange.proofs.AreBytes.{packet_bytes_lem}
use Rattle.exchange.specs.Heard.{RightSizes}
use Rattle.exchange.proofs.Heard.{said_on, line_made, composed_data, composed_done, composed_replied, composed_refused, composed_error}
use Rattle.exchange.proofs.Reported.{report_writes}

-- buffers of zeros, and a register whose records are free
unfoldable zeros : ℕ → List ℕ
zeros n = replicate n 0

length_zeros : (n : ℕ) → length (zeros n) ≡ n
unfolding zeros
length_zeros n = length-replicate {A = ℕ} n 0

unfoldable register : List Record
register = replicate register_records blank

length-register : length register ≡ register_records
unfolding register
length-register = length-replicate {A = Record} register_records blank

abbrev lent_for : List ℕ → Lent
lent_for piece = lent piece (zeros picture_size) (zeros font_size) (zeros cell_count) (zeros reply_size) register_records

right_sizes : (piece : List ℕ) → RightSizes (lent_for piece)
right_sizes piece =
    record { picture = length_zeros picture_size; font = length_zeros font_size; list = length_zeros cell_count; reply = length_zeros reply_size; records = refl }

module _ (p : Panel) (possible : Possible p) (empty : held p.line.hold ≡ []) (code : ℕ) (small : code < 64) (d : List ℕ) (few : length d ≤ content_most) (bytes : Bytes d) where
  abbrev l : Lent
  l = lent_for (packet_bytes code d)

  made : CallsLine p l register (said_on p l register) (line_picture p l) (line_list p l) (line_reply p l) (files_after (line_said p l) register).register
  made = record { possible = possible; piece = packet_bytes_lem code d (omega arith) few bytes; records = sym length-register; called = line_made p l register }

  -- a command that is allowed, and the data that it then replies
  pub some_reply : verdict_of code d ≡ Ok tt → (values : List ℕ) → reply_data code d p.body ≡ values → Writes (reading_with (Reply code) values) (packet_bytes (64 + code) values)
  some_reply v values e =
      in_reply p l register _ _ _ _ _ made code
      (composed_done p l code d possible.ranges empty (right_sizes (packet_bytes code d)) refl few small register _ _ _ _ _ (line_made p l register) v)
      (ap (λ (x : List ℕ). reply_meant code x p.body) (composed_data p l code d possible.ranges empty (right_sizes (packet_bytes code d)) refl few) ∙ ap (reading_with (Reply code)) e)
      (composed_replied p l code d possible.ranges empty (right_sizes (packet_bytes code d)) refl few small register _ _ _ _ _ (line_made p l register) possible.fits v ∙ ap (packet_bytes (64 + code)) e)

  -- a command that is refused
  pub some_error : (reason : Reason) (place : ℕ) → verdict_of code d ≡ refused reason place → Writes (error_meant code) (packet_bytes (192 + code) [])
  some_error reason place v =
      in_refusal p l register _ _ _ _ _ made code reason place
      (composed_refused p l code d possible.ranges empty (right_sizes (packet_bytes code d)) refl few small register _ _ _ _ _ (line_made p l register) reason place v)
      refl
      (composed_error p l code d possible.ranges empty (right_sizes (packet_bytes code d)) refl few small register _ _ _ _ _ (line_made p l register) reason place v)

-- a key call that is accepted and writes a report
module _ (p : Panel) (possible : Possible p) (number : ℕ) (down : Bool) (key : number < 6) (moves : as_told down number p.body.keys ≡ false) (on : reports p number down ≡ true) where
  abbrev buffer : List ℕ
  buffer = zeros reply_size

  passes : Pass (key_checks p number down buffer)
  passes = (possible.ranges, (eq-eqb _ _ (length_zeros reply_size), (le-leb number 5 (omega arith), (ap not moves, tt))))

  accepted : key_said p number down buffer ≡ key_accepted p number down
  accepted = accepted_by (key_checks p number down buffer) passes _ _

  five : (key_said p number down buffer).reply ≡ 5
  five = ap (λ (r : Said). r.reply) accepted ∙ when_true _ _ _ on

  pub some_report : Writes (report_meant number down) (report_bytes down number)
  some_report =
      let answer : (key_said p number down buffer).answer ≡ Done 0 = ap (λ (r : Said). r.answer) accepted in
      let some : (key_said p number down buffer).reply ≡ 0 → ⊥ = λ e. omega (arith, five) in
      in_report p number down buffer _ _ record { possible = possible; called = (refl, refl) } answer some refl (report_writes p number down buffer _ _ (refl, refl) answer some)

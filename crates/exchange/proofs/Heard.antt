-- A packet that was composed, heard by a panel that holds nothing: a line call finds it, whole and alone, and answers it.
use Prim.Native.Nat.{ℕ, ◌+◌, ◌<◌, ◌≤◌}
use mathlib.Core.Path.{◌≡◌, refl, ◌∙◌, ap}
use mathlib.Core.Logic.{dite}
use mathlib.Core.Bool.{true}
use mathlib.Core.List.{List, []}
use native.Mathlib.Nat.{add-zero, zero-add}
use native.Mathlib.Decide.{dec_lt}
use native.Mathlib.Omega.{arith}
use borrow.Author.Tests.{eq-eqb, le-leb, lt-ltb}
use lib.ListN.{length, take, drop, length-take, drop_of_length-le}
use lib.Seq.{take_all, get_or-take}
use Rattle.std.specs.Prelude.{Result, Ok}
use Rattle.lists.specs.Tests.{when◌then◌else◌}
use Rattle.lists.proofs.Laws.{when_true}
use Rattle.packets.specs.declared.Judgement.TheVariants.{Wait}
use Rattle.packets.specs.Packet.{content_most, packet_bytes, packet_of, content_of}
use Rattle.packets.specs.Hold.{held, hold_of}
use Rattle.packets.specs.Judge.{length_byte, judge}
use Rattle.packets.proofs.Bytes.{packet_length_lem, packet_content}
use Rattle.packets.proofs.Judgements.{shown, short, part}
use Rattle.packets.proofs.Composing.{composed_judged}
use Rattle.framing.specs.declared.Scanned.{Scanned}
use Rattle.framing.specs.Scan.{scan, scanned_of, piece_most, Scans}
use Rattle.framing.proofs.Steps.{takes, finds}
use Rattle.filing.specs.declared.Record.{Record}
use Rattle.verdict.specs.declared.Objection.{Objection}
use Rattle.verdict.specs.declared.Reason.{Reason}
use Rattle.verdict.specs.Verdict.{refused, verdict_of}
use Rattle.panel.specs.declared.Panel.{Panel}
use Rattle.panel.specs.State.{line_holding}
use Rattle.ranges.specs.Ranges.{in_ranges}
use Rattle.statebytes.specs.State.{PanelFits}
use Rattle.replies.specs.Replies.{reply_data}
use Rattle.answers.specs.declared.Answer.TheVariants.{Done, Refused}
use Rattle.answers.specs.declared.Said.{Said}
use Rattle.answers.specs.Answer.{with_unfiled}
use Rattle.answers.proofs.Checks.{Pass, accepted_by}
use Rattle.listen.specs.declared.Heard.{Heard}
use Rattle.listen.specs.Reply.{ruling, answer_to, refused_length}
use Rattle.listen.specs.Listen.{piece_size, answer_in, listened, heard_of}
use Rattle.linecall.specs.Line.{Lent, line_heard, line_said, line_picture, line_list, line_reply, files_after, LineCall}
use Rattle.theorems.specs.Story.{replied}
use Rattle.theorems.proofs.Outcomes.{tests_of, scan_of}
use Rattle.exchange.specs.Writes.{data_heard}
use Rattle.exchange.specs.Heard.{alone, RightSizes}
use Rattle.exchange.proofs.Replied.{content_back, done_writes, refused_writes}
use Rattle.exchange.proofs.Data.{reply_short}

module _ (kind : ℕ) (content : List ℕ) (few : length content ≤ content_most) where
  -- every part of a packet waits for the rest
  part_waits : (i : ℕ) → i < length content + 4 → judge (take i (packet_bytes kind content)) ≡ Wait
  part_waits i h =
      let s = packet_bytes kind content in
      let n : length (take i s) ≡ i = omega (arith, length-take i s, packet_length_lem kind content) in
      dite (dec_lt i 2) (λ p. shown (take i s) (short (omega arith)))
      (λ p.
      let b : length_byte (take i s) ≡ length content = get_or-take i s 1 0 (omega arith) in
      shown (take i s) (part (omega arith) (omega arith) (omega arith)))

  pub scan_composed : scan [] (packet_bytes kind content) ≡ alone kind content
  scan_composed =
      let s = packet_bytes kind content in
      let n : length s ≡ length content + 4 = packet_length_lem kind content in
      let d : drop (length content + 4) s ≡ [] = drop_of_length-le s {i = length content + 4} (omega arith) in
      takes (length content + 4) [] s (omega arith) part_waits
      ∙ rw (take_all (length content + 4) s (omega arith), d, finds s [] (composed_judged kind content few), packet_content kind content, d) (simp (add-zero, zero-add))

-- the same as a scan with nothing held promises it
pub scan_alone : (kind : ℕ) (content : List ℕ) → length content ≤ content_most → (s : Scanned) → Scans (hold_of []) (packet_bytes kind content) s → s ≡ scanned_of (alone kind content)
scan_alone kind content few s q =
    q ∙ ap (λ (bytes : List ℕ). scanned_of (scan [] bytes)) (take_all piece_most (packet_bytes kind content) (omega (arith, packet_length_lem kind content))) ∙ ap scanned_of (scan_composed kind content few)

-- Every line call can be made: what it then says, and that its promise allows it.
abbrev pub said_on : Panel → Lent → List Record → Said
said_on p l register = with_unfiled (line_said p l) (files_after (line_said p l) register).unfiled

pub line_made : (p : Panel) (l : Lent) (register : List Record) → LineCall p l register (said_on p l register) (line_picture p l) (line_list p l) (line_reply p l) (files_after (line_said p l) register).register
line_made p l register = (refl, refl, refl, refl, refl)

-- a panel in its ranges that holds nothing hears the bytes of a packet, whatever else is lent
module _ (p : Panel) (l : Lent) (kind : ℕ) (content : List ℕ) (ranges : in_ranges p ≡ true) (empty : held p.line.hold ≡ []) (sizes : RightSizes l)
    (piece : l.piece ≡ packet_bytes kind content) (few : length content ≤ content_most) where
  -- The call finds the packet, and takes exactly its bytes.
  pub composed_scanned : scan_of p l ≡ scanned_of (alone kind content)
  composed_scanned =
      let all : take piece_most l.piece ≡ packet_bytes kind content = ap (take piece_most) piece ∙ take_all piece_most (packet_bytes kind content) (omega (arith, packet_length_lem kind content)) in
      ap scanned_of ((λ i. scan (empty i) (all i)) ∙ scan_composed kind content few)

  checks_pass : Pass (tests_of p l)
  checks_pass =
      let n : length l.piece ≤ piece_size = omega (arith, packet_length_lem kind content, ap length piece) in
      (ranges, (le-leb _ _ n, (eq-eqb _ _ sizes.picture, (eq-eqb _ _ sizes.font, (eq-eqb _ _ sizes.list, (eq-eqb _ _ sizes.reply, (eq-eqb _ _ sizes.records, tt)))))))

  -- What is heard of it: its answer, and nothing held behind it.
  pub composed_heard : line_heard p l
      ≡ record {
        line = line_holding p.line (hold_of []);
        answer = answer_to (packet_of kind content);
        packet = packet_of kind content;
        counts = record { taken = length content + 4; dropped = 0; checked = length content + 2 };
        reply = refused_length (answer_to (packet_of kind content)) l.reply;
      }
  unfolding listened answer_in scanned_of when◌then◌else◌
  composed_heard =
      accepted_by (tests_of p l) checks_pass _ _ ∙ ap (λ (s : Scanned). heard_of p.line s l.reply) composed_scanned

  pub composed_data : data_heard p l ≡ content
  composed_data = ap (λ (h : Heard). content_of h.packet) composed_heard ∙ content_back kind content

  module _ (small : kind < 64) (register : List Record) (r : Said) (picture' list' reply' : List ℕ) (register' : List Record) (called : LineCall p l register r picture' list' reply' register') where
    -- A command is answered by the verdict on its data.
    pub composed_answer : {v : Result (Unit {0}) Objection} → verdict_of kind content ≡ v → r.answer ≡ ruling v kind
    unfolding answer_to
    composed_answer e =
        ap (λ (s : Said). s.answer) called.0 ∙ ap (λ (h : Heard). h.answer) composed_heard
        ∙ when_true _ _ _ (lt-ltb kind 64 small) ∙ ap (λ (d : List ℕ). ruling (verdict_of kind d) kind) (content_back kind content) ∙ ap (λ (v : Result (Unit {0}) Objection). ruling v kind) e

    -- A command that is allowed is done, and its reply written.
    pub composed_done : verdict_of kind content ≡ Ok tt → r.answer ≡ Done kind
    unfolding ruling
    composed_done v = composed_answer v

    pub composed_replied : PanelFits p → verdict_of kind content ≡ Ok tt → replied r reply' ≡ packet_bytes (64 + kind) (reply_data kind content p.body)
    composed_replied fits v =
        let same : reply_data kind (data_heard p l) p.body ≡ reply_data kind content p.body = ap (λ (d : List ℕ). reply_data kind d p.body) composed_data in
        done_writes p l register r picture' list' reply' register' called kind (composed_done v) (rw same (reply_short p ranges fits kind content v))
        ∙ ap (packet_bytes (64 + kind)) same

    -- A command that is not allowed is refused, and its error reply written.
    pub composed_refused : (reason : Reason) (place : ℕ) → verdict_of kind content ≡ refused reason place → r.answer ≡ Refused kind reason place
    unfolding ruling
    composed_refused reason place v = composed_answer v

    pub composed_error : (reason : Reason) (place : ℕ) → verdict_of kind content ≡ refused reason place → replied r reply' ≡ packet_bytes (192 + kind) []
    composed_error reason place v = refused_writes p l register r picture' list' reply' register' called kind reason place (composed_refused reason place v)

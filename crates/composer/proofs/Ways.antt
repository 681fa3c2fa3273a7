-- The ways that composing comes out, each by what is known of the buffer and of the verdict.
use Prim.Native.Nat.{ℕ, ◌+◌, ◌%◌, ◌<◌}
use mathlib.Core.Path.{◌≡◌, refl, sym, ◌∙◌, ap}
use mathlib.Core.Logic.{dite}
use mathlib.Core.Bool.{true}
use mathlib.Core.List.{List}
use native.Mathlib.Decide.{dec_le}
use native.Mathlib.Omega.{arith}
use lib.ListN.{length, take, drop, length-take}
use lib.Seq.{take_all, take_at}
use borrow.Author.Tests.{eq-eqb}
use Rattle.std.specs.Prelude.{Result, Ok, Err}
use Rattle.lists.specs.Tests.{when◌then◌else◌}
use Rattle.lists.specs.Runs.{front}
use Rattle.lists.proofs.Laws.{when_true}
use Rattle.packets.specs.Packet.{packet_bytes, composable, composed_length, composed, Composes}
use Rattle.packets.proofs.Bytes.{packet_length_lem}
use Rattle.packets.proofs.Composing.{fitting}
use Rattle.verdict.specs.declared.Objection.{Objection}
use Rattle.verdict.specs.Verdict.{verdict_of}
use Rattle.composer.specs.declared.Written.{Written}
use Rattle.composer.specs.declared.ComposeError.{ComposeError}
use Rattle.composer.specs.Compose.{outcome_by, composing, packet_by, ComposesFor}
use Rattle.composer.proofs.Verdicts.{too_long, allowed_short, allowed_code}

module _ (packet : List ℕ) (code : ℕ) (d : List ℕ) (size : length packet ≡ 26) (v : verdict_of code d ≡ Ok tt) where
  allowed : ComposesFor packet code d (Ok (record { command = code % 64; size = length d + 4 })) (front (packet_bytes code d) packet)
  unfolding composing packet_by outcome_by when◌then◌else◌
  allowed = rw (eq-eqb (length packet) 26 size, v) (refl, refl)

  -- the same by what composing any packet promises
  pub composed_for : (n : ℕ) (packet' : List ℕ) → Composes packet (code % 64) d n packet' → ComposesFor packet code d (Ok (record { command = code % 64; size = n })) packet'
  unfolding composed_length composed
  composed_for n packet' w =
      let fits : composable packet d ≡ true = fitting packet d size (allowed_short code d v) in
      let c : code % 64 ≡ code = omega (arith, allowed_code code d v) in
      let l : n ≡ length d + 4 = w.0 ∙ when_true _ _ _ fits in
      let b : packet' ≡ front (packet_bytes code d) packet = w.1 ∙ when_true _ _ _ fits ∙ ap (λ (k : ℕ). front (packet_bytes k d) packet) c in
      rw (l, b) allowed

-- Of more than 23 data bytes those behind the first 23 change nothing: so many are refused already.
module _ (packet : List ℕ) (code : ℕ) where
  refused_alike : (d d' : List ℕ) (o : Objection) → verdict_of code d ≡ Err o → verdict_of code d' ≡ Err o
      → (composing packet code d ≡ composing packet code d') × (packet_by (composing packet code d) code d packet ≡ packet_by (composing packet code d') code d' packet)
  unfolding composing outcome_by packet_by when◌then◌else◌
  refused_alike d d' o v v' = grind (arith, v, v')

  pub trimmed : (d : List ℕ) (r : Result Written ComposeError) (packet' : List ℕ) → ComposesFor packet code (take 23 d) r packet' → ComposesFor packet code d r packet'
  trimmed d r packet' w =
      dite (dec_le (length d) 23) (λ h. rw (take_all 23 d h) at w)
      (λ h. go (verdict_of code d) refl (omega arith))
    where
      go : (v : Result (Unit {0}) Objection) → verdict_of code d ≡ v → 23 < length d → ComposesFor packet code d r packet'
      go (Ok _) e l = absurd (omega (arith, allowed_short code d e))
      go (Err o) e l =
          let a = refused_alike (take 23 d) d o (too_long code (take 23 d) d (omega (arith, length-take 23 d)) (omega arith) ∙ e) e in
          (w.0 ∙ a.0, w.1 ∙ a.1)

-- What is written, the panel allows, and it is the packet of its code and data.
module _ (packet : List ℕ) (code : ℕ) (d : List ℕ) (r : Written) (packet' : List ℕ) (w : ComposesFor packet code d (Ok r) packet') where
  pub written_allowed : verdict_of code d ≡ Ok tt
  unfolding composing outcome_by when◌then◌else◌
  written_allowed = grind (arith, w.0)

  pub written_sized : length packet ≡ 26
  unfolding composing when◌then◌else◌
  written_sized = grind (arith, w.0)

  pub written_is : (r.command ≡ code) × (r.size ≡ length d + 4) × (take r.size packet' ≡ packet_bytes code d)
  written_is =
      let a = allowed packet code d written_sized written_allowed in
      let k : Written = record { command = code % 64; size = length d + 4 } in
      let e : r ≡ k = cc (w.0 ∙ sym a.0) in
      let m : code % 64 ≡ code = omega (arith, allowed_code code d written_allowed) in
      let n : r.size ≡ length d + 4 = ap (λ (x : Written). x.size) e in
      let b : packet' ≡ front (packet_bytes code d) packet = w.1 ∙ sym a.1 in
      (ap (λ (x : Written). x.command) e ∙ m, n, rw (b, n) (take_at (packet_bytes code d) (drop (length (packet_bytes code d)) packet) (length d + 4) (packet_length_lem code d)))

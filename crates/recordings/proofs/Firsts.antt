-- The first packet of a line, one byte at a time.
use mathlib.Core.Path.{◌≡◌, refl}
use mathlib.Core.List.{List, [], ◌∷◌}
use Prim.Native.Nat.{ℕ, ◌+◌, ◌<◌, ◌≤◌}
use native.Mathlib.Numerals.{add-one}
use native.Mathlib.Omega.{arith}
use lib.ListN.{length, drop, length-drop}
use lib.Seq.{drop-cons}
use Rattle.packets.specs.declared.Judgement.{Judgement}
use Rattle.packets.specs.declared.Judgement.TheVariants.{Wait, LongLength, WrongChecksum, Packet}
use Rattle.packets.specs.Judge.{judge}
use Rattle.packets.proofs.Judgements as seen
use Rattle.packets.proofs.Judgements.{Seen, see}
use Rattle.recordings.specs.Next.{before_at, before}

module _ (w : List ℕ) where
  pub before_wait : judge w ≡ Wait → before w ≡ length w
  unfolding before before_at
  before_wait = at w
    where
      at : (v : List ℕ) → judge v ≡ Wait → before v ≡ length v
      at [] e = refl
      at (b ∷ v) e = rw e

  pub before_packet : judge w ≡ Packet → before w ≡ 0
  unfolding before before_at
  before_packet = at w
    where
      at : (v : List ℕ) → judge v ≡ Packet → before v ≡ 0
      at [] e = refl
      at (b ∷ v) e = rw e

-- the byte at i is dropped: there is one behind it, and the packet stands one further on than from there
abbrev pub Passed : List ℕ → ℕ → Type 0
Passed w i = (i + 2 ≤ length w) × (before (drop i w) ≡ 1 + before (drop (i + 1) w))

module _ (w : List ℕ) (i : ℕ) where
  dropped_by : (j : Judgement) → judge (drop i w) ≡ j → 2 ≤ length (drop i w) → ((n m : ℕ) → before_at j n m ≡ m) → Passed w i
  unfolding before
  dropped_by j e two d =
      let h : i < length w = omega (arith, length-drop i w) in
      let f = rw (drop-cons w i 0 h) at e in
      (omega (arith, length-drop i w), rw (add-one, drop-cons w i 0 h, f, d) (omega arith))

  pub drop_long : judge (drop i w) ≡ LongLength → Passed w i
  unfolding before_at
  drop_long e = dropped_by LongLength e (go (see (drop i w) LongLength e)) (λ n m. refl)
    where
      go : Seen (drop i w) LongLength → 2 ≤ length (drop i w)
      go (seen.long a b) = a

  pub drop_wrong : judge (drop i w) ≡ WrongChecksum → Passed w i
  unfolding before_at
  drop_wrong e = dropped_by WrongChecksum e (go (see (drop i w) WrongChecksum e)) (λ n m. refl)
    where
      go : Seen (drop i w) WrongChecksum → 2 ≤ length (drop i w)
      go (seen.wrong a b f) = omega arith

-- The first packet of a line, and the line behind it.
use mathlib.Core.Path.{◌≡◌, refl, sym, ◌∙◌, ap}
use mathlib.Core.List.{List, [], ◌∷◌, append-nil}
use Prim.Native.Nat.{ℕ, ◌+◌, ◌-◌, ◌<◌, ◌≤◌}
use native.Mathlib.Omega.{arith}
use lib.ListN.{length, get_or, take, drop, drop_of_length-le}
use lib.Seq.{drop-drop}
use Rattle.lists.proofs.Laws.{part}
use Rattle.packets.specs.declared.Judgement.{Judgement}
use Rattle.packets.specs.declared.Judgement.TheVariants.{Wait, LongLength, WrongChecksum, Packet}
use Rattle.packets.specs.Packet.{packet_of}
use Rattle.packets.specs.Judge.{length_byte, judge}
use Rattle.packets.proofs.Judgements as seen
use Rattle.packets.proofs.Judgements.{Seen, see}
use Rattle.framing.specs.Line.{Tally, line_at, line_behind, line}
use Rattle.framing.proofs.Lines.{line_packet}
use Rattle.recordings.specs.Next.{before_at, before}

-- what stands before the first packet brings none
passed_at : (b : ℕ) (w : List ℕ) (j : Judgement) → judge (b ∷ w) ≡ j → (line w).packets ≡ (line (drop (before w) w)).packets
    → (line (b ∷ w)).packets ≡ (line (drop (before (b ∷ w)) (b ∷ w))).packets
unfolding line_behind line_at before before_at
passed_at b w Wait e ih = rw (e, drop_of_length-le w {i = length w} (omega arith))
passed_at b w LongLength e ih = rw e ih
passed_at b w WrongChecksum e ih = rw e ih
passed_at b w Packet e ih = rw e (rw e)

pub passed_over : (w : List ℕ) → (line w).packets ≡ (line (drop (before w) w)).packets
unfolding before
passed_over [] = refl
passed_over (b ∷ w) = passed_at b w (judge (b ∷ w)) refl (passed_over w)

stands_at : (b : ℕ) (w : List ℕ) (j : Judgement) → judge (b ∷ w) ≡ j → (before w < length w → judge (drop (before w) w) ≡ Packet)
    → before (b ∷ w) < length (b ∷ w) → judge (drop (before (b ∷ w)) (b ∷ w)) ≡ Packet
unfolding before before_at
stands_at b w Wait e ih h = absurd (omega (arith, (rw e at h)))
stands_at b w LongLength e ih h = rw e (ih (omega (arith, (rw e at h))))
stands_at b w WrongChecksum e ih h = rw e (ih (omega (arith, (rw e at h))))
stands_at b w Packet e ih h = rw e e

pub stands_there : (w : List ℕ) → before w < length w → judge (drop (before w) w) ≡ Packet
stands_there [] h = absurd (omega arith)
stands_there (b ∷ w) h = stands_at b w (judge (b ∷ w)) refl (stands_there w) h

-- the line of a packet
module _ (w : List ℕ) (j : judge w ≡ Packet) where
  pub whole_packet : length_byte w + 4 ≤ length w
  whole_packet = go (see w Packet j)
    where
      go : Seen w Packet → length_byte w + 4 ≤ length w
      go (seen.whole a b f) = b

  pub packet_first : (line w).packets ≡ packet_of (get_or w 0 0) (take (length_byte w) (drop 2 w)) ∷ (line (drop (length_byte w + 4) w)).packets
  packet_first =
      let a = line_packet w [] j (omega (arith, whole_packet)) in
      ap (λ (t : Tally). t.packets) (simp append-nil at a)

pub none_left : (w : List ℕ) → length w ≤ before w → (line w).packets ≡ []
unfolding line_behind
none_left w h = passed_over w ∙ rw (drop_of_length-le w {i = before w} h)

-- a part of a part
pub cut : (l : List ℕ) (f m k : ℕ) → k ≤ m → drop k (take m (drop f l)) ≡ take (m - k) (drop (f + k) l)
cut l f m k h = sym (part k m (drop f l) h) ∙ rw drop-drop

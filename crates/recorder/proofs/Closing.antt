-- A line behind bytes that leave nothing held.
use mathlib.Core.Path.{◌≡◌, refl, ap}
use mathlib.Core.List.{List, [], ◌∷◌, ◌++◌}
use Prim.Native.Nat.{ℕ, zero, suc, ◌+◌, ◌≤◌}
use native.Mathlib.Omega.{arith}
use lib.ListN.{length, take, drop}
use Rattle.packets.specs.declared.Judgement.{Judgement}
use Rattle.packets.specs.declared.Judgement.TheVariants.{Wait, LongLength, WrongChecksum, Packet}
use Rattle.packets.specs.declared.Packet as packets
use Rattle.packets.specs.Packet.{packet_of}
use Rattle.packets.specs.Judge.{length_byte, judge}
use Rattle.packets.proofs.Judgements.{more_long, more_wrong, more_packet}
use Rattle.framing.specs.Line.{line_at, line_behind, line}
use Rattle.recordings.proofs.Lines.{whole_packet}

-- what is said of the bytes w, of which the first k are passed over
abbrev Apart : ℕ → List ℕ → List ℕ → Type 0
Apart k w s = k ≤ length w → (line_behind k w).hold.count ≡ 0 → (line_behind k (w ++ s)).packets ≡ (line_behind k w).packets ++ (line s).packets

judged : (b : ℕ) (w s : List ℕ) (j : Judgement) → judge (b ∷ w) ≡ j → ((k : ℕ) → Apart k w s) → Apart 0 (b ∷ w) s
unfolding line_behind line_at
judged b w s Wait e ih k h = absurd (omega (arith, rw e at h))
judged b w s LongLength e ih k h = rw (more_long (b ∷ w) s e, e) (ih 0 (omega arith) (rw e at h))
judged b w s WrongChecksum e ih k h = rw ((more_wrong (b ∷ w) s e).0, e) (ih 0 (omega arith) (rw e at h))
judged b w s Packet e ih k h =
    let m = more_packet (b ∷ w) s e in
    let n = length_byte (b ∷ w) in
    rw (m.judged, m.sized, m.content, e)
    (ap (λ (l : List packets.Packet). packet_of b (take n (drop 2 (b ∷ w))) ∷ l) (ih (n + 3) (omega (arith, whole_packet (b ∷ w) e)) (rw e at h)))

pub apart : (k : ℕ) (w s : List ℕ) → Apart k w s
unfolding line_behind
apart zero [] s k h = refl
apart (suc k) [] s l h = absurd (omega arith)
apart zero (b ∷ w) s l h = judged b w s (judge (b ∷ w)) refl (λ k. apart k w s) l h
apart (suc k) (b ∷ w) s l h = apart k w s (omega arith) h

-- What the code makes of the end of a call: held bytes and a packet in arrays, and the counts.
use mathlib.Core.Path.{◌≡◌, ◌∙◌}
use mathlib.Core.List.{List}
use Prim.Native.Nat.{ℕ, ◌+◌, ◌-◌, ◌≤◌}
use native.Mathlib.Nat.{add-zero}
use native.Mathlib.Omega.{arith}
use lib.ListN.{length, take, drop, get_or, replicate, length-drop}
use lib.Seq.{length-take-le}
use Rattle.std.specs.Prelude.{Some, None}
use Rattle.lists.specs.Runs.{pasted}
use Rattle.lists.proofs.Laws.{all_behind}
use Rattle.packets.specs.declared.Hold.{Hold}
use Rattle.packets.specs.Packet.{padded}
use Rattle.packets.specs.Hold.{hold_of}
use Rattle.packets.specs.declared.Judgement.TheVariants.{Packet}
use Rattle.packets.specs.Judge.{length_byte, judge}
use Rattle.packets.proofs.Judgements.{Seen, whole, see}
use Rattle.packets.proofs.Bytes.{padding}
use Rattle.framing.specs.Scan.{still, after, found, scanned_of}

-- what the code makes of a call that ends waiting
pub scanned_waiting : (w : List ℕ) (t d k : ℕ) (g : Hold) → g ≡ hold_of w
    → record { hold = g; packet = None; counts = record { taken = t; dropped = d; checked = k } } ≡ scanned_of (after t d k (still w))
unfolding scanned_of
scanned_waiting w t d k g e = rw (e, add-zero, add-zero, add-zero)

-- what the code makes of a packet at the front of w
pub scanned_packet : (w : List ℕ) (t d k n : ℕ) (g : Hold) (content : List ℕ) → n ≡ length_byte w → n ≤ 22 → n + 4 ≤ length w
    → g ≡ hold_of (take (length w - (n + 4)) (drop (n + 4) w)) → content ≡ pasted (replicate 22 0) 0 (take (n + 2 - 2) (drop 2 w))
    → record { hold = g; packet = Some (record { kind = get_or w 0 0; length = n; content = content }); counts = record { taken = t; dropped = d; checked = k + (n + 2) } } ≡ scanned_of (after t d k (found w))
unfolding scanned_of
scanned_packet w t d k n g content e h l p q =
    let x : n + 2 - 2 ≡ n = omega arith in
    let y : length (take n (drop 2 w)) ≡ n = length-take-le n (drop 2 w) (omega (arith, length-drop 2 w)) in
    let z : content ≡ padded 22 (take n (drop 2 w)) = q ∙ rw x (padding 22 (take n (drop 2 w)) (omega arith)) in
    rw (p, all_behind, z, ← e, y, add-zero, add-zero)

-- what is known of a packet at the front
pub front_packet : (w : List ℕ) → judge w ≡ Packet → (length_byte w ≤ 22) × (length_byte w + 4 ≤ length w)
front_packet w j = go (see w Packet j)
  where
    go : Seen w Packet → (length_byte w ≤ 22) × (length_byte w + 4 ≤ length w)
    go (whole a b f) = (a, b)

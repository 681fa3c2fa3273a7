-- The packet that an entry holds, and what the entry holds behind it.
use mathlib.Core.Path.{◌≡◌, refl, sym, ◌∙◌, ap}
use mathlib.Core.List.{List, [], ◌∷◌}
use Prim.Native.Nat.{ℕ, ◌+◌, ◌-◌, ◌<◌, ◌≤◌}
use native.Mathlib.Nat.{add-zero}
use native.Mathlib.Omega.{arith}
use borrow.Author.Tests.{eq-eqb, ne_eqb}
use lib.ListN.{length, get_or, take, drop, length-take}
use lib.Seq.{get_or-take, get_or-drop, take-take}
use Rattle.lists.proofs.Laws.{when_true, when_false}
use Rattle.packets.specs.declared.Judgement.TheVariants.{Packet}
use Rattle.packets.specs.declared.Packet as packets
use Rattle.packets.specs.Judge.{length_byte, judge}
use Rattle.framing.specs.Line.{line}
use Rattle.recordings.specs.Recording.{direction, entry_end}
use Rattle.recordings.specs.Next.{before, from_of, rest_of, packet_from}
use Rattle.recordings.specs.Asking.{packet_found, entry_packets}
use Rattle.recordings.proofs.Lines.{passed_over, stands_there, whole_packet, packet_first, cut}

-- a packet at the front of a part of the recording
module _ (r : List ℕ) (p c : ℕ) (j : judge (take c (drop p r)) ≡ Packet) where
  fits : length_byte (take c (drop p r)) + 4 ≤ c
  fits = omega (arith, whole_packet (take c (drop p r)) j, length-take c (drop p r))

  kind_is : get_or (take c (drop p r)) 0 0 ≡ get_or r p 0
  kind_is = get_or-take c (drop p r) 0 0 (omega (arith, fits)) ∙ get_or-drop p r 0 0 ∙ rw add-zero

  size_is : length_byte (take c (drop p r)) ≡ get_or r (p + 1) 0
  size_is = get_or-take c (drop p r) 1 0 (omega (arith, fits)) ∙ get_or-drop p r 1 0

  -- the line there: the packet of the answer, and then what stands from its next place on
  pub line_there : (line (take c (drop p r))).packets
      ≡ packet_found r (packet_from r p) ∷ (line (take (c - (get_or r (p + 1) 0 + 4)) (drop (p + (get_or r (p + 1) 0 + 4)) r))).packets
  line_there =
      packet_first (take c (drop p r)) j
      ∙ rw (kind_is, size_is, cut r p c 2 (omega (arith, fits)), take-take (get_or r (p + 1) 0) (c - 2) (drop (p + 2) r) (omega (arith, fits, size_is)), cut r p c (get_or r (p + 1) 0 + 4) (omega (arith, fits, size_is)))

  pub room_there : get_or r (p + 1) 0 + 4 ≤ c
  room_there = omega (arith, fits, size_is)

-- the first packet of an entry's rest from place f on, which is m bytes, with k bytes before it
module _ (r : List ℕ) (f m k : ℕ) (e : k ≡ before (take m (drop f r))) (h : k < length (take m (drop f r))) where
  there : drop k (take m (drop f r)) ≡ take (m - k) (drop (f + k) r)
  there = cut r f m k (omega (arith, length-take m (drop f r)))

  judged : judge (take (m - k) (drop (f + k) r)) ≡ Packet
  judged = rw there at (rw (sym e) at (stands_there (take m (drop f r)) (omega arith)))

  pub line_from_lem : (line (take m (drop f r))).packets
      ≡ packet_found r (packet_from r (f + k))
      ∷ (line (take (m - k - (get_or r (f + k + 1) 0 + 4)) (drop (f + k + (get_or r (f + k + 1) 0 + 4)) r))).packets
  line_from_lem = passed_over (take m (drop f r)) ∙ rw (sym e, there) (line_there r (f + k) (m - k) judged)

  pub room_from : k + (get_or r (f + k + 1) 0 + 4) ≤ m
  room_from = omega (arith, room_there r (f + k) (m - k) judged, length-take m (drop f r))

module _ (r : List ℕ) (place at : ℕ) where
  pub host : direction r at ≡ 0 → entry_packets r place at ≡ (line (rest_of r place at)).packets
  unfolding entry_packets
  host d = when_true _ _ _ (eq-eqb (direction r at) 0 d)

  pub not_host : (direction r at ≡ 0 → ⊥) → entry_packets r place at ≡ []
  unfolding entry_packets
  not_host d = when_false _ _ _ (ne_eqb (direction r at) 0 d)

-- the entry's packets are the one that is found and those from its next place on
module _ (r : List ℕ) (place at : ℕ) where
  module _ (d : direction r at ≡ 0) (h : before (rest_of r place at) < length (rest_of r place at)) where
    pub next_bounds : ((packet_from r (from_of place at + before (rest_of r place at))).next ≤ entry_end r at)
        × (place < (packet_from r (from_of place at + before (rest_of r place at))).next)
        × (at + 3 ≤ (packet_from r (from_of place at + before (rest_of r place at))).next)
        × (place ≤ entry_end r at)
    next_bounds =
        let a = room_from r (from_of place at) (entry_end r at - from_of place at) (before (rest_of r place at)) refl h in
        (omega arith, omega arith, omega arith, omega arith)

    pub packets_step : entry_packets r place at
        ≡ packet_found r (packet_from r (from_of place at + before (rest_of r place at)))
        ∷ entry_packets r (packet_from r (from_of place at + before (rest_of r place at))).next at
    packets_step =
        let f = from_of place at in
        let k = before (rest_of r place at) in
        let n = get_or r (f + k + 1) 0 in
        let b = next_bounds in
        let a : from_of (f + k + 2 + n + 2) at ≡ f + k + (n + 4) = omega arith in
        let g : entry_end r at - (f + k + (n + 4)) ≡ entry_end r at - f - k - (n + 4) = omega arith in
        host r place at d ∙ line_from_lem r f (entry_end r at - f) k refl h
        ∙ ap (λ (l : List packets.Packet). packet_found r (packet_from r (f + k)) ∷ l)
        (sym (host r (f + k + 2 + n + 2) at d ∙ rw (a, g)))

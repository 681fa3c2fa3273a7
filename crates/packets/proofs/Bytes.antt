-- Held bytes and packets as the code has them, arrays with a count, and how long a packet is.
use mathlib.Core.Path.{◌≡◌}
use mathlib.Core.List.{List}
use Prim.Native.Nat.{ℕ, ◌+◌, ◌≤◌}
use native.Mathlib.Omega.{arith}
use lib.ListN.{length, take, drop, replicate, length-replicate, length-append}
use lib.Seq.{take-append_seam}
use Rattle.lists.specs.Runs.{pasted}
use Rattle.lists.proofs.Laws.{pasted_front}
use Rattle.fcs.specs.Fcs.{checksum}
use Rattle.packets.specs.Packet.{covered, low_first, packet_bytes, padded}
use Rattle.packets.specs.Hold.{held, hold_of}

-- what is held again is what was kept
pub held_hold_of : (h : List ℕ) → held (hold_of h) ≡ h
held_hold_of h = take-append_seam h (drop (length h) (replicate 25 0))

-- a run laid at the front of n zeros
pub padding : (n : ℕ) (run : List ℕ) → length run ≤ n → pasted (replicate n 0) 0 run ≡ padded n run
padding n run h = pasted_front run (replicate n 0) (omega (arith, length-replicate {A = ℕ} n 0))

-- a packet has four bytes besides its data
pub packet_length_lem : (kind : ℕ) (content : List ℕ) → length (packet_bytes kind content) ≡ length content + 4
packet_length_lem kind content = omega (arith, length-append (covered kind content) (low_first (checksum (covered kind content))))

-- and its data stand from the third byte on
pub packet_content : (kind : ℕ) (content : List ℕ) → take (length content) (drop 2 (packet_bytes kind content)) ≡ content
packet_content kind content = take-append_seam content (low_first (checksum (covered kind content)))

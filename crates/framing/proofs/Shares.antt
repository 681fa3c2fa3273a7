-- What each packet that is found takes off the line, in one call and over calls.
use mathlib.Core.Path.{◌≡◌, refl}
use mathlib.Core.List.{List, [], ◌++◌}
use Prim.Native.Nat.{ℕ, ◌+◌, ◌-◌, ◌*◌, ◌≤◌}
use native.Mathlib.Omega.{arith}
use lib.ListN.{length, take, length-append, length-drop, length-take}
use Rattle.std.specs.Prelude.{Option, Some, None, option_to_list}
use Rattle.packets.specs.declared.Hold.{Hold}
use Rattle.packets.specs.declared.Packet as packets
use Rattle.packets.specs.Hold.{held}
use Rattle.packets.proofs.Bytes.{held_hold_of}
use Rattle.framing.specs.declared.Scanned.{Scanned}
use Rattle.framing.specs.Scan.{Ending, waiting, packet, packet_at, scan, scanned_of, piece_most, Scans}
use Rattle.framing.specs.Line.{Tally, packets_in, packet_bytes_in, Calls, last, next}
use Rattle.framing.proofs.Bounds.{removed, call, taken_at_most}

share_removed : (e : Ending) → packet_bytes_in (packet_at e) ≡ removed e
share_removed waiting = refl
share_removed (packet k d) = refl

module _ (hold : Hold) (piece : List ℕ) (r : Scanned) (scanned : Scans hold piece r) where
  pub add_up : length (held hold) + r.counts.taken ≡ r.counts.dropped + packet_bytes_in r.packet + length (held r.hold)
  unfolding scanned_of
  add_up =
      let o = scan (held hold) (take piece_most piece) in
      rw (scanned, held_hold_of o.hold, share_removed o.ending) (call (held hold) (take piece_most piece)).adds_up

  pub taken_of_piece : r.counts.taken ≤ length piece
  unfolding scanned_of
  taken_of_piece = rw scanned (omega (arith, taken_at_most (held hold) (take piece_most piece), length-take piece_most piece))

  pub found_takes_four : {p : packets.Packet} → r.packet ≡ Some p → length (held r.hold) + (length piece - r.counts.taken) + 4 ≤ length (held hold) + length piece
  found_takes_four f = omega (arith, rw f at add_up, taken_of_piece)

four_each : (o : Option packets.Packet) → 4 * length (option_to_list o) ≤ packet_bytes_in o
four_each None = omega arith
four_each (Some p) = omega arith

four : (r : Scanned) → 4 * length (packets_in r) ≤ packet_bytes_in r.packet
four r = four_each r.packet

pub calls_take_four : {most : ℕ} {hold : Hold} {bytes : List ℕ} {t : Tally} → Calls most hold bytes t → 4 * length t.packets ≤ length (held hold) + length bytes
calls_take_four (last {hold = hold} {bytes = bytes} {r = r} n e t f) =
    omega (arith, length-append (packets_in r) [], four r, add_up hold bytes r e)
calls_take_four (next {hold = hold} piece more {r = r} {t = t} n e c) =
    omega (arith, length-append (packets_in r) t.packets, four r, add_up hold piece r e, taken_of_piece hold piece r e, length-append piece more, length-drop r.counts.taken (piece ++ more), calls_take_four c)

-- What holds of packets on the line over and above the functions' own promises.
use mathlib.Core.Path.{◌≡◌, sym, ◌∙◌}
use mathlib.Core.List.{List, [], ◌∷◌, ◌++◌}
use Prim.Native.Nat.{ℕ, ◌+◌, ◌-◌, ◌*◌, ◌≤◌}
use native.Mathlib.Omega.{arith}
use lib.ListN.{length, take, length-take}
use Rattle.std.specs.Prelude.{Some}
use Rattle.lists.specs.Promise.{Determined}
use Rattle.lists.proofs.Theorems.{one}
use Rattle.packets.specs.declared.Hold.{Hold}
use Rattle.packets.specs.declared.Packet.{Packet}
use Rattle.packets.specs.Packet.{packet_bytes, packet_of}
use Rattle.packets.specs.Hold.{held}
use Rattle.framing.specs.declared.Scanned.{Scanned}
use Rattle.framing.specs.Scan.{scanned_of, piece_most, Scans}
use Rattle.framing.specs.Line.{Tally, packet_bytes_in, Calls, onto, line}
use Rattle.framing.proofs.Bounds as bounds
use Rattle.framing.proofs.Composed as composed
use Rattle.framing.proofs.Cuts as cuts
use Rattle.framing.proofs.Shares as shares

module _ (hold : Hold) (piece : List ℕ) (r : Scanned) (scanned : Scans hold piece r) where
  -- After any call at most 25 bytes are held: the hold's array has 25, whatever its count says.
  pub held_at_most_25 : length hold.bytes ≤ 25 → r.hold.count ≤ 25
  unfolding scanned_of
  held_at_most_25 n = rw scanned (bounds.at_most_25 (held hold) (take piece_most piece) (omega (arith, length-take hold.count hold.bytes)))

  -- The bytes run through the checksum are at most 24 for each byte held before or taken.
  pub checked_bound : r.counts.checked ≤ 24 * (length (held hold) + r.counts.taken)
  unfolding scanned_of
  checked_bound = rw scanned (let i = bounds.call (held hold) (take piece_most piece) in omega arith)

  -- A call takes no more than its piece.
  pub taken_at_most_the_piece : r.counts.taken ≤ length piece
  taken_at_most_the_piece = shares.taken_of_piece hold piece r scanned

  -- Each byte that was held before the call or is taken by it is dropped, is one of the n + 4 of the packet found, or is held
  -- after it: the counts add up.
  pub bytes_add_up : length (held hold) + r.counts.taken ≡ r.counts.dropped + packet_bytes_in r.packet + length (held r.hold)
  bytes_add_up = shares.add_up hold piece r scanned

  -- A call that finds a packet leaves at least four bytes less than there were before it, those held and those of the piece
  -- that are not yet taken together.
  pub found_takes_four : {p : Packet} → r.packet ≡ Some p → length (held r.hold) + (length piece - r.counts.taken) + 4 ≤ length (held hold) + length piece
  found_takes_four = shares.found_takes_four hold piece r scanned

-- Calls over any bytes find at most one packet for each four of them, the bytes held before among them.
pub four_bytes_a_packet : {most : ℕ} {hold : Hold} {bytes : List ℕ} {t : Tally} → Calls most hold bytes t → 4 * length t.packets ≤ length (held hold) + length bytes
four_bytes_a_packet = shares.calls_take_four

-- The same bytes cut into calls in any two ways, repeated until all is taken and the answer is waiting, come to the same
-- packets, the same hold and the same sums of dropped and checked bytes.
pub cut_anywhere : {most most' : ℕ} {hold : Hold} {bytes : List ℕ} {t t' : Tally} → Calls most hold bytes t → Calls most' hold bytes t' → t ≡ t'
cut_anywhere c c' = cuts.whole_line c ∙ sym (cuts.whole_line c')

-- Such calls come to an end, and to what the whole line says, also with pieces of one byte.
pub calls_end : (most : ℕ) → 1 ≤ most → (hold : Hold) (bytes : List ℕ) → Calls most hold bytes (line (held hold ++ bytes))
calls_end most room hold bytes = cuts.ends most room hold bytes

-- A packet that was composed is found again, with nothing dropped, whatever follows it on the line.
pub composed_is_found : (kind : ℕ) (content s : List ℕ) → length content ≤ 22
    → line (packet_bytes kind content ++ s) ≡ onto (packet_of kind content ∷ []) 0 (length content + 2) (line s)
composed_is_found kind content s l = composed.composed_line kind content l s

-- Any two results that the promise of `scan` allows are equal.
pub scan_determined : (hold : Hold) (piece : List ℕ) → Determined (Scans hold piece)
scan_determined hold piece = one _

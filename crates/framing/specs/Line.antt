-- Calls repeated until all is taken and the answer is waiting; and the same line read whole, without calls.
use Rattle.std.specs.Prelude.{ℕ, zero, suc, ◌+◌, ◌≤◌, ◌≡◌, Option, Some, None, option_to_list, List, [], ◌∷◌, ◌++◌, length, get_or, take, drop}
use Rattle.packets.specs.declared.Hold.{Hold}
use Rattle.packets.specs.declared.Judgement.{Judgement}
use Rattle.packets.specs.declared.Judgement.TheVariants.{Wait, LongLength, WrongChecksum, Packet}
use Rattle.packets.specs.declared.Packet as packets
use Rattle.packets.specs.Packet.{packet_of}
use Rattle.packets.specs.Hold.{hold_of}
use Rattle.packets.specs.Judge.{length_byte, judge}
use Rattle.framing.specs.declared.Scanned.{Scanned}
use Rattle.framing.specs.Scan.{Scans}

-- what calls come to: their packets in order, the hold at the end, the sums of the bytes dropped and checked
pub record Tally : Type 0 where
  pub packets : List packets.Packet
  pub hold : Hold
  pub dropped : ℕ
  pub checked : ℕ

abbrev pub nothing_more : Hold → Tally
nothing_more hold = record { packets = []; hold = hold; dropped = 0; checked = 0 }

-- t, with these packets, d bytes dropped and c checked before it
abbrev pub onto : List packets.Packet → ℕ → ℕ → Tally → Tally
onto found d c t =
    record { packets = found ++ t.packets; hold = t.hold; dropped = d + t.dropped; checked = c + t.checked }

abbrev pub packets_in : Scanned → List packets.Packet
packets_in r = option_to_list r.packet

-- the n + 4 bytes of the packet that a call found
abbrev pub packet_bytes_in : Option packets.Packet → ℕ
packet_bytes_in None = 0
packet_bytes_in (Some p) = p.length + 4

abbrev pub counted : Scanned → Tally → Tally
counted r t = onto (packets_in r) r.counts.dropped r.counts.checked t

-- Calls most hold bytes t: the bytes, cut anywhere into pieces of at most that many and given to calls that begin with the
-- hold, come to t
pub data Calls (most : ℕ) : Hold → List ℕ → Tally → Type 0 where
  -- the last call: all is taken and the answer is waiting
  last : {hold : Hold} {bytes : List ℕ} {r : Scanned} → length bytes ≤ most → Scans hold bytes r → r.counts.taken ≡ length bytes → r.packet ≡ None
      → Calls most hold bytes (counted r (nothing_more r.hold))
  -- a call on a piece, and then calls on what it has not taken and what comes behind
  next : {hold : Hold} (piece more : List ℕ) {r : Scanned} {t : Tally} → length piece ≤ most → Scans hold piece r
      → Calls most r.hold (drop r.counts.taken (piece ++ more)) t → Calls most hold (piece ++ more) (counted r t)

-- what becomes of the line w by the judgement at its oldest byte, where d is the tally of the line without that byte and
-- p the tally of the line without the packet that it begins with
unfoldable pub line_at : Judgement → List ℕ → Tally → Tally → Tally
line_at Wait w d p = nothing_more (hold_of w)
line_at LongLength w d p = onto [] 1 0 d
line_at WrongChecksum w d p = onto [] 1 (length_byte w + 2) d
line_at Packet w d p = onto (packet_of (get_or w 0 0) (take (length_byte w) (drop 2 w)) ∷ []) 0 (length_byte w + 2) p

-- the line w, whole, without its first k bytes
unfoldable pub line_behind : ℕ → List ℕ → Tally
line_behind k [] = nothing_more (hold_of [])
line_behind zero (b ∷ w) =
    let d = line_behind 0 w in
    let p = line_behind (length_byte (b ∷ w) + 3) w in
    line_at (judge (b ∷ w)) (b ∷ w) d p
line_behind (suc k) (b ∷ w) = line_behind k w

abbrev pub line : List ℕ → Tally
line w = line_behind 0 w

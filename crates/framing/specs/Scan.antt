-- One call: it judges; on a wait it takes one more byte; it ends at the first packet, or when the piece is used up.
use Rattle.std.specs.Prelude.{ℕ, ◌+◌, ◌≡◌, Option, Some, None, List, [], ◌∷◌, ◌++◌, get_or, take, drop}
use Rattle.packets.specs.declared.Hold.{Hold}
use Rattle.packets.specs.declared.Judgement.{Judgement}
use Rattle.packets.specs.declared.Judgement.TheVariants.{Wait, LongLength, WrongChecksum, Packet}
use Rattle.packets.specs.declared.Packet as packets
use Rattle.packets.specs.Packet.{packet_of}
use Rattle.packets.specs.Hold.{held, hold_of}
use Rattle.packets.specs.Judge.{length_byte, judge}
use Rattle.framing.specs.declared.Scanned.{Scanned}

-- how a call ends: waiting, the piece used up, or with a packet of a type and data bytes
pub data Ending : Type 0 where
  waiting : Ending
  packet : ℕ → List ℕ → Ending

-- what a call comes to
pub record Outcome : Type 0 where
  pub ending : Ending
  pub hold : List ℕ
  pub taken : ℕ
  pub dropped : ℕ
  pub checked : ℕ

abbrev pub still : List ℕ → Outcome
still h = record { ending = waiting; hold = h; taken = 0; dropped = 0; checked = 0 }

-- o, with t bytes taken, d dropped and c run through the checksum before it
abbrev pub after : ℕ → ℕ → ℕ → Outcome → Outcome
after t d c o =
    record { ending = o.ending; hold = o.hold; taken = t + o.taken; dropped = d + o.dropped; checked = c + o.checked }

-- "else a packet: remove its n + 4 bytes"; "n + 2 for every whole candidate judged, right or wrong"
abbrev pub found : List ℕ → Outcome
found h =
    record {
      ending = packet (get_or h 0 0) (take (length_byte h) (drop 2 h));
      hold = drop (length_byte h + 4) h;
      taken = 0;
      dropped = 0;
      checked = length_byte h + 2;
    }

-- what becomes of the held bytes h as they are judged, where o is what becomes of all but the oldest
unfoldable pub settle_at : Judgement → List ℕ → Outcome → Outcome
settle_at Wait h o = still h
settle_at LongLength h o = after 0 1 0 o
settle_at WrongChecksum h o = after 0 1 (length_byte h + 2) o
settle_at Packet h o = found h

-- judge, and drop, until a wait or a packet
unfoldable pub settle : List ℕ → Outcome
settle [] = still []
settle (b ∷ h) = settle_at (judge (b ∷ h)) (b ∷ h) (settle h)

-- o, and where it waits, next: what comes of one more byte
unfoldable pub go_on : Ending → Outcome → Outcome → Outcome
go_on waiting o next = after 1 o.dropped o.checked next
go_on (packet k d) o next = o

-- a call on a piece, with the bytes h held before it
unfoldable pub scan : List ℕ → List ℕ → Outcome
scan h [] = settle h
scan h (b ∷ piece) = go_on (settle h).ending (settle h) (scan ((settle h).hold ++ b ∷ []) piece)

-- the same as the code has it
abbrev pub packet_at : Ending → Option packets.Packet
packet_at waiting = None
packet_at (packet k d) = Some (packet_of k d)

unfoldable pub scanned_of : Outcome → Scanned
scanned_of o =
    record {
      hold = hold_of o.hold;
      packet = packet_at o.ending;
      counts = record { taken = o.taken; dropped = o.dropped; checked = o.checked };
    }

-- of a longer piece a call sees so many bytes
abbrev pub piece_most : ℕ
piece_most = 65535

-- what `scan` promises
abbrev pub Scans : Hold → List ℕ → Scanned → Type 0
Scans hold piece r = r ≡ scanned_of (scan (held hold) (take piece_most piece))

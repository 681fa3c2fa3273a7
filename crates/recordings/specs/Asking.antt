-- Asking from a place on until there is no more, and what line calls find in the host entries.
use Rattle.std.specs.Prelude.{ℕ, ◌+◌, ◌-◌, ◌≡◌, Option, Some, Result, Ok, Err, List, [], ◌∷◌, ◌++◌, take, drop}
use Rattle.lists.specs.Tests.{when◌then◌else◌, ◌=?◌}
use Rattle.packets.specs.declared.Packet as packets
use Rattle.packets.specs.Packet.{packet_of}
use Rattle.packets.specs.Hold.{hold_of}
use Rattle.framing.specs.Line.{Tally, Calls, line}
use Rattle.recordings.specs.declared.Fault.{Fault}
use Rattle.recordings.specs.declared.Flaw.{Flaw}
use Rattle.recordings.specs.declared.Found.{Found}
use Rattle.recordings.specs.Recording.{entries_start, entry_head, direction, entry_end, entries_of, recording_fault, faulty_place}
use Rattle.recordings.specs.Next.{rest_of, no_packet, no_more, in_entry, next_packet}

-- the packet of an answer
abbrev pub packet_found : List ℕ → Found → packets.Packet
packet_found r f = packet_of f.kind (take f.length (drop f.start r))

-- Asked ask r place found: asking from the place on, each time from the answer's next, until there is no more, finds these
pub data Asked (ask : ℕ → Result (Option Found) Fault) (r : List ℕ) : ℕ → List packets.Packet → Type 0 where
  over : {place : ℕ} → ask place ≡ no_more → Asked ask r place []
  one : {place : ℕ} {f : Found} {more : List packets.Packet} → ask place ≡ Ok (Some f) → Asked ask r f.next more → Asked ask r place (packet_found r f ∷ more)

-- the reader asked, and one entry alone
abbrev pub AskedReader : List ℕ → ℕ → List packets.Packet → Type 0
AskedReader r = Asked (next_packet r) r

abbrev pub AskedEntry : List ℕ → ℕ → ℕ → List packets.Packet → Type 0
AskedEntry r at = Asked (λ place. Ok (in_entry r place at)) r

-- the bytes of an entry
abbrev pub entry_bytes : List ℕ → ℕ → List ℕ
entry_bytes r at = take (entry_end r at - (at + entry_head)) (drop (at + entry_head) r)

-- the packets of a host entry from a place on: those of the whole line that begins there with nothing held
unfoldable pub entry_packets : List ℕ → ℕ → ℕ → List packets.Packet
entry_packets r place at = when direction r at =? 0 then (line (rest_of r place at)).packets else []

-- "It restarts at each entry"
unfoldable pub packets_of : List ℕ → ℕ → List ℕ → List packets.Packet
packets_of r place [] = []
packets_of r place (at ∷ more) = entry_packets r place at ++ packets_of r place more

-- CalledOn r entries called: line calls on the bytes of each host entry in turn, from an empty hold and cut in any way, find these
pub data CalledOn (r : List ℕ) : List ℕ → List packets.Packet → Type 0 where
  none : CalledOn r [] []
  host : {at most : ℕ} {more : List ℕ} {called : List packets.Packet} {t : Tally} → direction r at ≡ 0 → Calls most (hold_of []) (entry_bytes r at) t → CalledOn r more called
      → CalledOn r (at ∷ more) (t.packets ++ called)
  panel : {at : ℕ} {more : List ℕ} {called : List packets.Packet} → (direction r at ≡ 0 → ⊥) → CalledOn r more called → CalledOn r (at ∷ more) called

-- "The whole recording is checked before any packet is handed back": a faulty one hands back nothing, whatever the place; of one
-- that is fine, asking from the start until there is no more comes to an end with the packets of all host entries, in order,
-- and to nothing else
pub record AllOrNone (r : List ℕ) : Type 0 where
  pub none : (flaw : Flaw) → recording_fault r ≡ Err flaw → (place : ℕ) → next_packet r place ≡ no_packet flaw (faulty_place r)
  pub all : recording_fault r ≡ Ok tt → AskedReader r 0 (packets_of r 0 (entries_of r entries_start))
  pub only : recording_fault r ≡ Ok tt → (found : List packets.Packet) → AskedReader r 0 found → found ≡ packets_of r 0 (entries_of r entries_start)

-- A recording as it is written, entry by entry.
use Rattle.std.specs.Prelude.{ℕ, ◌-◌, ◌/◌, ◌%◌, ◌≡◌, List, [], ◌∷◌, ◌++◌, length}
use Rattle.packets.specs.declared.Packet as packets
use Rattle.framing.specs.Line.{line}
use Rattle.recordings.specs.Recording.{recording_most, entry_head}

-- "the mark PLR, a 16-bit version (low byte first, now 1)"
abbrev pub recording_start : List ℕ
recording_start = 80 ∷ 76 ∷ 82 ∷ 1 ∷ 0 ∷ []

-- "a direction byte (0 host, 1 panel), a 16-bit length low byte first"
abbrev pub header_of : ℕ → ℕ → List ℕ
header_of direction n = direction ∷ n % 256 ∷ n / 256 % 256 ∷ []

-- what one side sent
pub data Sent : Type 0 where
  by_host : List ℕ → Sent
  by_panel : List ℕ → Sent

unfoldable pub direction_of : Sent → ℕ
direction_of (by_host bytes) = 0
direction_of (by_panel bytes) = 1

unfoldable pub sent_bytes : Sent → List ℕ
sent_bytes (by_host bytes) = bytes
sent_bytes (by_panel bytes) = bytes

-- "and that many bytes"
abbrev pub entry_of : Sent → List ℕ
entry_of e = header_of (direction_of e) (length (sent_bytes e)) ++ sent_bytes e

unfoldable pub all_entries : List Sent → List ℕ
all_entries [] = []
all_entries (e ∷ more) = entry_of e ++ all_entries more

abbrev pub recording_of : List Sent → List ℕ
recording_of entries = recording_start ++ all_entries entries

-- the packets that line calls find in an entry of the host, from an empty hold; in one of the panel none is looked for
unfoldable pub packets_sent : Sent → List packets.Packet
packets_sent (by_host bytes) = (line bytes).packets
packets_sent (by_panel bytes) = []

unfoldable pub host_packets : List Sent → List packets.Packet
host_packets [] = []
host_packets (e ∷ more) = packets_sent e ++ host_packets more

-- what the host sent, without the cuts
unfoldable pub host_bytes : List Sent → List ℕ
host_bytes [] = []
host_bytes (by_host bytes ∷ more) = bytes ++ host_bytes more
host_bytes (by_panel bytes ∷ more) = host_bytes more

-- each host entry ends where nothing is held
pub data Closed : List Sent → Type 0 where
  none : Closed []
  host : {bytes : List ℕ} {more : List Sent} → (line bytes).hold.count ≡ 0 → Closed more → Closed (by_host bytes ∷ more)
  panel : {bytes : List ℕ} {more : List Sent} → Closed more → Closed (by_panel bytes ∷ more)

-- "up to 65,535 bytes"
abbrev pub room_behind : ℕ → ℕ
room_behind size = recording_most - entry_head - size

-- what `start`, `header` and `room` promise
abbrev pub StartsRecording : List ℕ → Type 0
StartsRecording r = r ≡ recording_start

abbrev pub HeadsEntry : ℕ → ℕ → List ℕ → Type 0
HeadsEntry direction n r = r ≡ header_of direction n

abbrev pub RoomBehind : ℕ → ℕ → Type 0
RoomBehind size r = r ≡ room_behind size

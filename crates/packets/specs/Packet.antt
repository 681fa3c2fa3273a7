-- A packet, as values and as bytes.
use Rattle.std.specs.Prelude.{ℕ, ◌+◌, ◌/◌, ◌%◌, ◌≡◌, Bool, ◌&&◌, List, [], ◌∷◌, ◌++◌, length, replicate, take}
use Rattle.lists.specs.Tests.{when◌then◌else◌, ◌=?◌, ◌≤?◌}
use Rattle.lists.specs.Runs.{front}
use Rattle.packets.specs.declared.Packet.{Packet}
use Rattle.fcs.specs.Fcs.{checksum}

-- "length n (0 to 22)"
abbrev pub content_most : ℕ
content_most = 22

-- a buffer of so many bytes holds any packet
abbrev pub reply_size : ℕ
reply_size = content_most + 4

-- what the checksum is over: "type, length and data"
abbrev pub covered : ℕ → List ℕ → List ℕ
covered kind content = kind ∷ length content ∷ content

-- "A packet is type, length n (0 to 22), n data bytes, checksum with its low byte first."
abbrev pub low_first : ℕ → List ℕ
low_first sum = sum % 256 ∷ sum / 256 ∷ []

abbrev pub packet_bytes : ℕ → List ℕ → List ℕ
packet_bytes kind content = covered kind content ++ low_first (checksum (covered kind content))

-- n bytes that begin with the run, zeros behind it
abbrev pub padded : ℕ → List ℕ → List ℕ
padded n run = front run (replicate n 0)

-- the packet as the code has it
abbrev pub packet_of : ℕ → List ℕ → Packet
packet_of kind content = record { kind = kind; length = length content; content = padded content_most content }

-- the data bytes of a packet as the code has it
abbrev pub content_of : Packet → List ℕ
content_of p = take p.length p.content

-- a packet can be composed of at most 22 data bytes, into a buffer of 26
abbrev pub composable : List ℕ → List ℕ → Bool
composable out content = (length out =? reply_size) && (length content ≤? content_most)

-- the length that is written, 0 where nothing is
unfoldable pub composed_length : List ℕ → List ℕ → ℕ
composed_length out content = when composable out content then length content + 4 else 0

-- the buffer afterwards
unfoldable pub composed : List ℕ → ℕ → List ℕ → List ℕ
composed out kind content = when composable out content then front (packet_bytes kind content) out else out

-- what `compose` promises of the length that it returns and of the buffer
abbrev pub Composes : List ℕ → ℕ → List ℕ → ℕ → List ℕ → Type 0
Composes out kind content r out' = (r ≡ composed_length out content) × (out' ≡ composed out kind content)

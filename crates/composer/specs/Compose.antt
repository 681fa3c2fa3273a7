-- A command's packet, composed for a host: "Values that the panel would refuse with reasons 1 to 5 (a code above 63 is unknown)
-- are refused by the composer, with the same reason and place."
use Rattle.std.specs.Prelude.{ℕ, ◌+◌, ◌%◌, ◌≡◌, List, length, Result, Ok, Err}
use Rattle.lists.specs.Tests.{when◌then◌else◌, ◌=?◌}
use Rattle.lists.specs.Runs.{front}
use Rattle.packets.specs.Packet.{reply_size, packet_bytes}
use Rattle.verdict.specs.declared.Objection.{Objection}
use Rattle.verdict.specs.Verdict.{verdict_of}
use Rattle.composer.specs.declared.Written.{Written}
use Rattle.composer.specs.declared.ComposeError.{ComposeError}
use Rattle.composer.specs.declared.ComposeError.TheVariants.{BufferSize, Refused}

-- how composing comes out by the panel's verdict: the packet's length is n + 4; the command is the code's low six bits
unfoldable pub outcome_by : Result (Unit {0}) Objection → ℕ → List ℕ → Result Written ComposeError
outcome_by (Ok _) code d = Ok (record { command = code % 64; size = length d + 4 })
outcome_by (Err o) code d = Err (Refused (code % 64) o.reason o.place)

-- "21, the composer's buffer not 26 bytes, before any value is looked at"; then the verdict. No row of the table has a code above
-- 63 or more than 22 data bytes, so that the first is unknown and the second a length that is not allowed.
unfoldable pub composing : List ℕ → ℕ → List ℕ → Result Written ComposeError
composing packet code d = when length packet =? reply_size then outcome_by (verdict_of code d) code d else Err BufferSize

-- the buffer afterwards: the packet at its front, or as it came
unfoldable pub packet_by : Result Written ComposeError → ℕ → List ℕ → List ℕ → List ℕ
packet_by (Ok w) code d packet = front (packet_bytes code d) packet
packet_by (Err e) code d packet = packet

-- what `compose` promises of its answer and of the buffer
abbrev pub ComposesFor : List ℕ → ℕ → List ℕ → Result Written ComposeError → List ℕ → Type 0
ComposesFor packet code d r packet' = (r ≡ composing packet code d) × (packet' ≡ packet_by (composing packet code d) code d packet)

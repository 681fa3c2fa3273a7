-- A reading as 26 bytes, and what the reader for C promises: the table of include/naupelys_host.h.
use Rattle.std.specs.Prelude.{ℕ, ◌≡◌, List, [], ◌∷◌, Option, None, Some}
use Rattle.packets.specs.Packet.{padded}
use Rattle.replies.specs.Replies.{bit}
use Rattle.reading.specs.declared.Meaning.{Meaning}
use Rattle.reading.specs.declared.Meaning.TheVariants.{Reply, ErrorReply, Report}
use Rattle.reading.specs.declared.Reading.{Reading}
use Rattle.reading.specs.Reading.{read_of}

-- the size of a reading
abbrev pub reading_size : ℕ
reading_size = 26

-- kind, command, how many values, the values; zeros behind
unfoldable pub reading_parts : Meaning → Reading → List ℕ
reading_parts (Reply command) r = 1 ∷ command ∷ r.count ∷ r.values
reading_parts (ErrorReply command) r = 2 ∷ command ∷ []
reading_parts (Report number down) r = 3 ∷ 0 ∷ 2 ∷ number ∷ bit down ∷ []

abbrev pub reading_bytes : Reading → List ℕ
reading_bytes r = padded reading_size (reading_parts r.meaning r)

-- "29, bytes given to the reader that are not exactly one reply, error reply or report"
abbrev pub read_number : Option Reading → ℕ
read_number None = 29
read_number (Some r) = 3

-- of such bytes there is nothing to say
abbrev pub bytes_read : Option Reading → List ℕ
bytes_read None = padded reading_size []
bytes_read (Some r) = reading_bytes r

-- what `naupelys_read_reply` promises of the number that it returns and of the 26 bytes
abbrev pub ReadBytes : List ℕ → ℕ → List ℕ → Type 0
ReadBytes bytes n out' = (n ≡ read_number (read_of bytes)) × (out' ≡ bytes_read (read_of bytes))

-- The register of faults as bytes, the last table of include/naupelys.h.
use Rattle.std.specs.Prelude.{ℕ, ◌≡◌, Bool, List, [], map, length, replicate}
use Rattle.lists.specs.Tests.{when◌then◌else◌, ◌=?◌}
use Rattle.shapes.specs.Shape.{Shape, byte, word, ◌▸◌, times, ◌&◌, Value, size, bytes, value}
use Rattle.filing.specs.declared.Record.{Record}
use Rattle.filing.specs.Filing.{register_records, blank}

-- command, reason, place, count
abbrev pub record_shape : Shape
record_shape = byte ▸ byte ▸ byte ▸ word

abbrev pub record_parts : Record → Value record_shape
record_parts r = r.command & r.reason & r.place & r.count

abbrev pub record_from : Value record_shape → Record
record_from (command & reason & place & count) = record { command = command; reason = reason; place = place; count = count }

-- the record whose bytes stand from k on
abbrev pub record_at : List ℕ → ℕ → Record
record_at b k = record_from (value record_shape b k)

-- "a run of 64 records"
abbrev pub register_shape : Shape
register_shape = times register_records record_shape

abbrev pub register_size : ℕ
register_size = size register_shape

abbrev pub is_register : List ℕ → Bool
is_register b = length b =? register_size

unfoldable pub register_bytes : List Record → List ℕ
register_bytes records = bytes register_shape (map record_parts records)

-- the records that lent bytes are: none where they are no register
unfoldable pub records_lent : List ℕ → List Record
records_lent b = when is_register b then map record_from (value register_shape b 0) else []

-- free records where the bytes are no register
unfoldable pub register_of : List ℕ → List Record
register_of b = when is_register b then map record_from (value register_shape b 0) else replicate register_records blank

-- the bytes with the records written; left alone where they are no register
unfoldable pub register_with : List ℕ → List Record → List ℕ
register_with faults records = when is_register faults then register_bytes records else faults

-- what `read` promises
abbrev pub ReadsRegister : List ℕ → List Record → Type 0
ReadsRegister faults r = r ≡ register_of faults

-- what `write` promises of the bytes
abbrev pub WritesRegister : List ℕ → List Record → List ℕ → Type 0
WritesRegister faults records faults' = faults' ≡ register_with faults records

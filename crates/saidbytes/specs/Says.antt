-- What a call says, as 16 bytes: the table "What the call says" of include/naupelys.h.
use Rattle.std.specs.Prelude.{ℕ, ◌<◌, ◌≡◌, List, [], ◌∷◌}
use Rattle.shapes.specs.Shape.{Shape, byte, counter, half, word, run, ◌▸◌, ◌&◌, Value, bytes}
use Rattle.framing.specs.declared.Counts.{Counts}
use Rattle.answers.specs.declared.Check.{Check}
use Rattle.answers.specs.declared.Check.TheVariants.{StateRange}
use Rattle.answers.specs.declared.Answer.{Answer}
use Rattle.answers.specs.declared.Answer.TheVariants.{CallRefused}
use Rattle.answers.specs.declared.Numbers.{Numbers}
use Rattle.answers.specs.declared.Said.{Said}
use Rattle.answers.specs.Answer.{numbers_of, no_counts}

-- number, command, reason, place
abbrev pub numbers_shape : Shape
numbers_shape = byte ▸ byte ▸ byte ▸ byte

abbrev pub numbers_parts : Numbers → Value numbers_shape
numbers_parts n = n.number & n.command & n.reason & n.place

-- bytes taken, dropped, run through the checksum
abbrev pub counts_shape : Shape
counts_shape = half ▸ half ▸ word

abbrev pub counts_parts : Counts → Value counts_shape
counts_parts c = c.taken & c.dropped & c.checked

-- the numbers, the counts, the reply's length, how many cells are listed, and two bytes to spare
abbrev pub said_shape : Shape
said_shape = numbers_shape ▸ counts_shape ▸ counter ▸ counter ▸ run 2

abbrev pub said_parts : Numbers → Counts → ℕ → ℕ → Value said_shape
said_parts n c reply listed = numbers_parts n & counts_parts c & reply & listed & 0 ∷ 0 ∷ []

unfoldable pub said_bytes : Numbers → Counts → ℕ → ℕ → List ℕ
said_bytes n c reply listed = bytes said_shape (said_parts n c reply listed)

-- each count is small enough for its bytes
pub record SaidFits (c : Counts) (r l : ℕ) : Type 0 where
  pub taken : c.taken < 65536
  pub dropped : c.dropped < 65536
  pub checked : c.checked < 4294967296
  pub reply : r < 256
  pub listed : l < 256

-- the number that a call gives, and its 16 bytes
abbrev pub number_of : Said → ℕ
number_of s = (numbers_of s.answer).number

abbrev pub bytes_said : Said → List ℕ
bytes_said s = said_bytes (numbers_of s.answer) s.counts s.reply s.listed

-- a call refused by number, with all counts 0
abbrev pub refused_bytes : Check → List ℕ
refused_bytes check = said_bytes (numbers_of (CallRefused check)) no_counts 0 0

-- "state out of its ranges"
abbrev pub no_state : List ℕ
no_state = refused_bytes StateRange

-- what `write` promises of the number that it returns, and of the 16 bytes, whatever they were
abbrev pub Says : Answer → Counts → ℕ → ℕ → ℕ → List ℕ → Type 0
Says a c reply listed number said' = (number ≡ (numbers_of a).number) × (said' ≡ said_bytes (numbers_of a) c reply listed)

-- what `refused` promises: the number, and all counts 0
abbrev pub SaysRefused : Check → ℕ → List ℕ → Type 0
SaysRefused check = Says (CallRefused check) no_counts 0 0

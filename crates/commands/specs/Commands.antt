-- The commands as values: one definition gives each its code and its data.
use Rattle.std.specs.Prelude.{ℕ, ◌≡◌, List, [], ◌∷◌, ◌++◌, length, drop, Result}
use Rattle.composer.specs.declared.Written.{Written}
use Rattle.composer.specs.declared.ComposeError.{ComposeError}
use Rattle.composer.specs.Compose.{ComposesFor}
use Rattle.commands.specs.declared.Command.{Command}
use Rattle.commands.specs.declared.Command.TheVariants.{Ping, Version, WriteFlash, ReadFlash, StoreBoot, Reboot, Clear, SetGlyph, ReadMemory, SetCursor, SetStyle, SetContrast, SetBacklight, SetMasks, Poll, WriteText, SetPin, ConfigurePin, ReadPin}

-- the most values that stand in front of the bytes that follow
abbrev pub values_most : ℕ
values_most = 3

-- how a command stands in a packet: its code, and the values that its data begins with; they are all of it, or bytes follow
pub data Form : Type 0 where
  exactly : (code : ℕ) (values : List ℕ) → Form
  followed : (code : ℕ) (values : List ℕ) → Form

-- document 01's table, read as values
unfoldable pub form_of : Command → Form
form_of Ping = followed 0 []
form_of Version = exactly 1 []
form_of WriteFlash = followed 2 []
form_of ReadFlash = exactly 3 []
form_of StoreBoot = exactly 4 []
form_of Reboot = exactly 5 (8 ∷ 18 ∷ 99 ∷ [])
form_of Clear = exactly 6 []
form_of (SetGlyph index) = followed 9 (index ∷ [])
form_of (ReadMemory address) = exactly 10 (address ∷ [])
form_of (SetCursor column row) = exactly 11 (column ∷ row ∷ [])
form_of (SetStyle style) = exactly 12 (style ∷ [])
form_of (SetContrast contrast) = exactly 13 (contrast ∷ [])
form_of (SetBacklight backlight) = exactly 14 (backlight ∷ [])
form_of (SetMasks press release) = exactly 23 (press ∷ release ∷ [])
form_of Poll = exactly 24 []
form_of (WriteText column row) = followed 31 (column ∷ row ∷ [])
form_of (SetPin pin level) = exactly 34 (pin ∷ level ∷ [])
form_of (ConfigurePin pin level config) = exactly 34 (pin ∷ level ∷ config ∷ [])
form_of (ReadPin pin) = exactly 35 (pin ∷ [])

abbrev pub form_code : Form → ℕ
form_code (exactly code values) = code
form_code (followed code values) = code

abbrev pub form_data : Form → List ℕ → List ℕ
form_data (exactly code values) bytes = values
form_data (followed code values) bytes = values ++ bytes

-- the code and the data of a command; of the bytes lent beside it only a ping, the flash, a glyph and a text take some
abbrev pub code_of : Command → ℕ
code_of c = form_code (form_of c)

abbrev pub data_of : Command → List ℕ → List ℕ
data_of c bytes = form_data (form_of c) bytes

-- backwards: the bytes that follow a command's values in its data
abbrev pub form_bytes : Form → List ℕ → List ℕ
form_bytes (exactly code values) d = []
form_bytes (followed code values) d = drop (length values) d

abbrev pub bytes_in : Command → List ℕ → List ℕ
bytes_in c d = form_bytes (form_of c) d

-- what `compose` promises of its answer and of the buffer
abbrev pub ComposesCommand : List ℕ → Command → List ℕ → Result Written ComposeError → List ℕ → Type 0
ComposesCommand packet c bytes = ComposesFor packet (code_of c) (data_of c bytes)

-- what `bytes_of` promises of the part that it returns
abbrev pub ReadsBytes : Command → List ℕ → List ℕ → Type 0
ReadsBytes c d r = r ≡ bytes_in c d

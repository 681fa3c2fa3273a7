-- The calls that are not on the line, and what each promises: a new call is a constructor, and a row of each relation.
use Rattle.std.specs.Prelude.{ℕ, Bool, List}
use Rattle.packets.specs.Packet.{reply_size}
use Rattle.panel.specs.declared.Panel.{Panel}
use Rattle.panel.specs.State.{code_count}
use Rattle.answers.specs.declared.Said.{Said}
use Rattle.events.specs.Keys.{Presses}
use Rattle.events.specs.Pins.{Moves}
use Rattle.symbols.specs.Symbols.{TellsCells}
use Rattle.naupelys.specs.Calls.{KeyBytes, PinBytes, CellsBytes}

pub data Other : Type 0 where
  key : (number : ℕ) (down : Bool) → Other
  pin : (number : ℕ) (high : Bool) → Other
  cells : (glyph : ℕ) → Other

-- the size of the buffer that a call wants: a reply buffer for a key, a list for the cells; a pin call leaves any as it is
abbrev pub room_for : Other → ℕ
room_for (key number down) = reply_size
room_for (pin number high) = reply_size
room_for (cells glyph) = code_count

-- Answers c p out r out': on the panel p the call c, lent the buffer out, may say r and leave the buffer as out'; a pin call is lent
-- none
pub data Answers : Other → Panel → List ℕ → Said → List ℕ → Type 0 where
  presses : {number : ℕ} {down : Bool} {p : Panel} {out : List ℕ} {r : Said} {out' : List ℕ} → Presses p number down out r out' → Answers (key number down) p out r out'
  moves : {number : ℕ} {high : Bool} {p : Panel} {out : List ℕ} {r : Said} → Moves p number high r → Answers (pin number high) p out r out
  tells : {glyph : ℕ} {p : Panel} {out : List ℕ} {r : Said} {out' : List ℕ} → TellsCells p glyph out r out' → Answers (cells glyph) p out r out'

-- the same of the C library's call on a state's bytes, which returns n and says said'
pub data AnswersBytes : Other → List ℕ → List ℕ → ℕ → List ℕ → List ℕ → List ℕ → Type 0 where
  presses : {number : ℕ} {down : Bool} {state out : List ℕ} {n : ℕ} {state' out' said' : List ℕ} → KeyBytes state number down out n state' out' said'
      → AnswersBytes (key number down) state out n state' out' said'
  moves : {number : ℕ} {high : Bool} {state out : List ℕ} {n : ℕ} {state' said' : List ℕ} → PinBytes state number high n state' said'
      → AnswersBytes (pin number high) state out n state' out said'
  tells : {glyph : ℕ} {state out : List ℕ} {n : ℕ} {out' said' : List ℕ} → CellsBytes state glyph out n out' said' → AnswersBytes (cells glyph) state out n state out' said'

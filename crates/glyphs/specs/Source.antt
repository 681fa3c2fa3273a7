-- What a code draws from: the one definition that drawing, the repaint and the sets of cells ask.
use Rattle.std.specs.Prelude.{ℕ, ◌%◌, ◌≡◌, Bool}
use Rattle.lists.specs.Tests.{when◌then◌else◌, ◌<?◌}

-- the special glyph of a number, or the font at a code
pub data Source : Type 0 where
  special : ℕ → Source
  font : ℕ → Source

-- "code c from 0 to 15"
abbrev pub is_special : ℕ → Bool
is_special code = code <? 16

-- "code c from 0 to 15 draws glyph c mod 8" (document 02, order 2); "any other code c draws font bytes 8c to 8c + 7"
unfoldable pub source_of : ℕ → Source
source_of code = when is_special code then special (code % 8) else font code

-- what `is_special` promises
abbrev pub TellsSpecial : ℕ → Bool → Type 0
TellsSpecial code r = r ≡ is_special code

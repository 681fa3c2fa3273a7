-- Document 01's table of the commands, row by row, with its columns code, length and data allowed.
use Rattle.std.specs.Prelude.{ℕ, ◌%◌, ◌≡◌, Bool, not, ◌&&◌, List, [], ◌∷◌, Option, Some, None}
use Rattle.lists.specs.Tests.{when◌then◌else◌, ◌<?◌, ◌=?◌}
use Rattle.table.specs.declared.Row.{Row}
use Rattle.table.specs.declared.Rule.{Rule}
use Rattle.table.specs.declared.Rule.TheVariants.{Free, UpTo, Glyph, Address, Place, Reboot, Pin}

-- a row: the code, the shortest and the longest length allowed, the data allowed
pub data TableRow : Type 0 where
  row : (code shortest longest : ℕ) → Rule → TableRow

abbrev pub table : List TableRow
table =
    row 0 0 22 Free
    ∷ row 1 0 0 Free
    ∷ row 2 16 16 Free
    ∷ row 3 0 0 Free
    ∷ row 4 0 0 Free
    ∷ row 5 3 3 Reboot
    ∷ row 6 0 0 Free
    ∷ row 9 9 9 Glyph
    ∷ row 10 1 1 Address
    ∷ row 11 2 2 Place
    ∷ row 12 1 1 (UpTo 4)
    ∷ row 13 1 1 (UpTo 254)
    ∷ row 14 1 1 (UpTo 100)
    ∷ row 23 2 2 (UpTo 63)
    ∷ row 24 0 0 Free
    ∷ row 31 3 22 Place
    ∷ row 34 2 3 Pin
    ∷ row 35 1 1 (UpTo 12)
    ∷ []

-- the row of a code, or none
unfoldable pub look_up : ℕ → List TableRow → Option Row
look_up code [] = None
look_up code (row c shortest longest rule ∷ rows) =
    when code =? c then Some (record { shortest = shortest; longest = longest; rule = rule }) else look_up code rows

-- "0 to 15 with its low three bits not 6"
unfoldable pub config_allowed : ℕ → Bool
config_allowed config = (config <? 16) && not (config % 8 =? 6)

-- what `look` promises
abbrev pub Looks : ℕ → Option Row → Type 0
Looks code r = r ≡ look_up code table

-- what `config_allowed` promises
abbrev pub Allows : ℕ → Bool → Type 0
Allows config r = r ≡ config_allowed config

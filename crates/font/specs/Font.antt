-- The programs' font.
use Rattle.std.specs.Prelude.{ℕ, ◌+◌, ◌*◌, ◌%◌, ◌<◌, ◌≡◌, List, length, get_or}
use Rattle.picture.specs.Draw.{font_size}

-- what `program_font` promises: "a font whose rows for code c all equal c mod 64", eight rows for each of 256 codes
abbrev pub IsFont : List ℕ → Type 0
IsFont font = (length font ≡ font_size) × ((code row : ℕ) → code < 256 → row < 8 → get_or font (8 * code + row) 0 ≡ code % 64)

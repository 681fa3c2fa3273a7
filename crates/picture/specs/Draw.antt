-- What each cell draws, where its bytes stand, and the picture drawn afresh.
use Rattle.std.specs.Prelude.{ℕ, zero, suc, ◌+◌, ◌*◌, ◌%◌, Bool, false, List, [], ◌∷◌, get_or, set, replicate}
use Rattle.lists.specs.Tests.{when◌then◌else◌}
use Rattle.panel.specs.declared.Shown.{Shown}
use Rattle.panel.specs.State.{code_count}
use Rattle.glyphs.specs.Glyphs.{eight_from, nested_of}
use Rattle.glyphs.specs.Source.{Source, special, font, source_of}

-- each code has a cell, a cell eight bytes, and a font eight for each of 256 codes
abbrev pub cell_count : ℕ
cell_count = code_count

abbrev pub picture_size : ℕ
picture_size = 8 * cell_count

abbrev pub font_size : ℕ
font_size = 8 * 256

-- the screen: the 80 codes, and the eight special glyphs of eight rows each
pub record Screen : Type 0 where
  pub codes : List ℕ
  pub glyphs : List (List ℕ)

abbrev pub screen : List ℕ → List (List ℕ) → Screen
screen codes glyphs = record { codes = codes; glyphs = glyphs }

-- the codes are the text, and the glyphs stand flat in the state
abbrev pub screen_of : Shown → Screen
screen_of s = screen s.text (nested_of s.glyphs)

-- "low six bits"
abbrev pub low_six : List ℕ → List ℕ
low_six rows =
    get_or rows 0 0 % 64
    ∷ get_or rows 1 0 % 64
    ∷ get_or rows 2 0 % 64
    ∷ get_or rows 3 0 % 64
    ∷ get_or rows 4 0 % 64
    ∷ get_or rows 5 0 % 64
    ∷ get_or rows 6 0 % 64
    ∷ get_or rows 7 0 % 64
    ∷ []

-- the eight bytes that a source draws, top line first
unfoldable pub drawn_from : Source → List (List ℕ) → List ℕ → List ℕ
drawn_from (special number) glyphs bytes = eight_from (get_or glyphs number []) 0
drawn_from (font code) glyphs bytes = low_six (eight_from bytes (8 * code))

unfoldable pub code_drawn : List (List ℕ) → List ℕ → ℕ → List ℕ
code_drawn glyphs bytes code = drawn_from (source_of code) glyphs bytes

-- the eight bytes that a cell draws
abbrev pub cell_drawn : Screen → List ℕ → ℕ → List ℕ
cell_drawn s bytes cell = code_drawn s.glyphs bytes (get_or s.codes cell 0)

-- "Cell 20 × row + column has bytes 8 × cell to 8 × cell + 7, top line first"
unfoldable pub place_of : ℕ → ℕ → ℕ
place_of cell k = 8 * cell + k

-- the picture with the first n bytes of a cell written
unfoldable pub put : ℕ → List ℕ → List ℕ → ℕ → List ℕ
put cell bytes picture zero = picture
put cell bytes picture (suc k) = set (put cell bytes picture k) (place_of cell k) (get_or bytes k 0)

-- the picture with each of the first n cells written, but those to keep
unfoldable pub paint : (ℕ → Bool) → (ℕ → List ℕ) → List ℕ → ℕ → List ℕ
paint keep bytes picture zero = picture
paint keep bytes picture (suc cell) =
    when keep cell then paint keep bytes picture cell
    else put cell (bytes cell) (paint keep bytes picture cell) 8

-- the picture drawn afresh: all 80 cells
unfoldable pub drawn : Screen → List ℕ → List ℕ
drawn s bytes = paint (λ cell. false) (cell_drawn s bytes) (replicate picture_size 0) cell_count

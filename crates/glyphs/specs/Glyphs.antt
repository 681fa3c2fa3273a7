-- The eight special glyphs, as arrays of eight rows and flat.
use Rattle.std.specs.Prelude.{ℕ, zero, suc, ◌+◌, ◌≡◌, List, [], ◌∷◌, ◌++◌, get_or, set}

-- the eight numbers of a list from k on, zeros past its end
abbrev pub eight_from : List ℕ → ℕ → List ℕ
eight_from xs k =
    get_or xs k 0
    ∷ get_or xs (k + 1) 0
    ∷ get_or xs (k + 2) 0
    ∷ get_or xs (k + 3) 0
    ∷ get_or xs (k + 4) 0
    ∷ get_or xs (k + 5) 0
    ∷ get_or xs (k + 6) 0
    ∷ get_or xs (k + 7) 0
    ∷ []

-- "Eight special glyphs of eight rows": glyph g has the eight rows from 8g on
unfoldable pub nested_of : List ℕ → List (List ℕ)
nested_of flat =
    eight_from flat 0
    ∷ eight_from flat 8
    ∷ eight_from flat 16
    ∷ eight_from flat 24
    ∷ eight_from flat 32
    ∷ eight_from flat 40
    ∷ eight_from flat 48
    ∷ eight_from flat 56
    ∷ []

-- the rows of the first n glyphs, one glyph behind the other
unfoldable pub flat_first : ℕ → List (List ℕ) → List ℕ
flat_first zero glyphs = []
flat_first (suc n) glyphs = flat_first n glyphs ++ eight_from (get_or glyphs n []) 0

unfoldable pub flat_of : List (List ℕ) → List ℕ
flat_of glyphs = flat_first 8 glyphs

-- what `eight` promises
abbrev pub Reads8 : List ℕ → ℕ → List ℕ → Type 0
Reads8 bytes from r = r ≡ eight_from bytes from

-- what `nested` promises
abbrev pub Nests : List ℕ → List (List ℕ) → Type 0
Nests flat r = r ≡ nested_of flat

-- the glyphs with one of them set
abbrev pub glyphs_with : List ℕ → ℕ → List ℕ → List ℕ
glyphs_with flat number rows = flat_of (set (nested_of flat) number rows)

-- what `with_glyph` promises
abbrev pub SetsGlyph : List ℕ → ℕ → List ℕ → List ℕ → Type 0
SetsGlyph flat number rows r = r ≡ glyphs_with flat number rows

-- "the set of cells that draw each of the eight glyphs" (document 02, order 4). A cell draws one glyph at most, so that a byte for
-- each cell holds the eight sets.
use Rattle.std.specs.Prelude.{ℕ, zero, suc, ◌+◌, ◌≡◌, Bool, true, false, ◌&&◌, List, map, length, get_or}
use Rattle.lists.specs.Tests.{◌=?◌}
use Rattle.lists.specs.Rising.{passing}
use Rattle.glyphs.specs.Source.{Source, special, font, source_of}

-- a cell's byte, by what its code draws from: 1 + the number of the glyph whose set it is in, 0 where it is in none
unfoldable pub mark_for : Source → ℕ
mark_for (special number) = number + 1
mark_for (font code) = 0

abbrev pub mark_of : ℕ → ℕ
mark_of code = mark_for (source_of code)

-- the sets that a search of the text finds
abbrev pub searched : List ℕ → List ℕ
searched text = map mark_of text

-- whether the first n cells have the bytes that a search of the text finds
unfoldable pub searched_below : List ℕ → List ℕ → ℕ → Bool
searched_below text sets zero = true
searched_below text sets (suc cell) = searched_below text sets cell && (get_or sets cell 0 =? mark_of (get_or text cell 0))

-- whether all of them do: false for "sets that differ from that search"
unfoldable pub is_search : List ℕ → List ℕ → Bool
is_search text sets = (length sets =? length text) && searched_below text sets (length text)

-- whether a cell is in the set of a glyph
abbrev pub is_in : List ℕ → ℕ → ℕ → Bool
is_in sets glyph cell = get_or sets cell 0 =? glyph + 1

-- the set of a glyph, "as a rising list"
abbrev pub cells_of : List ℕ → ℕ → List ℕ
cells_of sets glyph = passing (is_in sets glyph) (length sets)

-- whether a glyph is what a code draws from
unfoldable pub draws_glyph : ℕ → Source → Bool
draws_glyph glyph (special number) = number =? glyph
draws_glyph glyph (font code) = false

-- the cells that draw a glyph, searched for in the text
abbrev pub cells_found : List ℕ → ℕ → List ℕ
cells_found text glyph = passing (λ cell. draws_glyph glyph (source_of (get_or text cell 0))) (length text)

-- what `search` promises
abbrev pub Searches : List ℕ → List ℕ → Type 0
Searches text r = r ≡ searched text

-- what `right` promises
abbrev pub ComparesSets : List ℕ → List ℕ → Bool → Type 0
ComparesSets text sets r = r ≡ is_search text sets

-- Which cells a symbol is on (document 02, order 4).
use Rattle.std.specs.Prelude.{ℕ, ◌≡◌, Bool, List, [], ◌∷◌, length}
use Rattle.lists.specs.Tests.{◌≤?◌, ◌=?◌}
use Rattle.lists.specs.Runs.{front}
use Rattle.sets.specs.Sets.{cells_of}
use Rattle.panel.specs.declared.Panel.{Panel}
use Rattle.panel.specs.State.{code_count}
use Rattle.ranges.specs.Ranges.{in_ranges}
use Rattle.answers.specs.declared.Check.{Check}
use Rattle.answers.specs.declared.Check.TheVariants.{StateRange, ListSize, GlyphNumber}
use Rattle.answers.specs.declared.Answer.TheVariants.{Done}
use Rattle.answers.specs.declared.Said.{Said}
use Rattle.answers.specs.Answer.{no_counts, refused_call}
use Rattle.answers.specs.Checks.{Test, test, decided}

-- "Refusals: 10, .. 27 glyph above 7, then 14 for a list buffer of wrong size.": the one call whose numbers do not rise
abbrev pub cells_tests : Bool → ℕ → ℕ → List Test
cells_tests in_range glyph list = test in_range StateRange ∷ test (glyph ≤? 7) GlyphNumber ∷ test (list =? code_count) ListSize ∷ []

-- the set of the glyph, "as a rising list"
abbrev pub symbol_cells : Panel → ℕ → List ℕ
symbol_cells p glyph = cells_of p.body.sets glyph

-- an accepted call answers 3 and how many cells there are; the panel is only read
abbrev pub cells_accepted : Panel → ℕ → Said
cells_accepted p glyph = record { panel = p; answer = Done 0; counts = no_counts; reply = 0; listed = length (symbol_cells p glyph) }

abbrev pub cells_decided {ℓ} : {A : Type ℓ} → Panel → ℕ → List ℕ → (Check → A) → A → A
cells_decided p glyph list refused accepted = decided (cells_tests (in_ranges p) glyph (length list)) refused accepted

abbrev pub cells_said : Panel → ℕ → List ℕ → Said
cells_said p glyph list = cells_decided p glyph list (refused_call p) (cells_accepted p glyph)

-- one byte a cell at the front of the list, the bytes behind as they were
abbrev pub cells_list : Panel → ℕ → List ℕ → List ℕ
cells_list p glyph list = cells_decided p glyph list (λ check. list) (front (symbol_cells p glyph) list)

-- what `list_cells` promises of the number that it returns and of the list
abbrev pub ListsCells : List ℕ → ℕ → List ℕ → ℕ → List ℕ → Type 0
ListsCells sets glyph list r list' = (r ≡ length (cells_of sets glyph)) × (list' ≡ front (cells_of sets glyph) list)

-- what `cells` promises of its result and of the list
abbrev pub TellsCells : Panel → ℕ → List ℕ → Said → List ℕ → Type 0
TellsCells p glyph list r list' = (r ≡ cells_said p glyph list) × (list' ≡ cells_list p glyph list)

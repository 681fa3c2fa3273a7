-- What holds of the sets over and above the functions' own promises.
use Prim.Native.Nat.{ℕ, ◌+◌}
use mathlib.Core.Path.{◌≡◌, ◌∙◌, ap}
use mathlib.Core.Logic.{◌↔◌}
use mathlib.Core.Bool.{true}
use mathlib.Core.List.{List}
use lib.ListN.{length, get_or, length-map}
use Rattle.lists.specs.Promise.{Determined}
use Rattle.lists.specs.Tests.{◌=?◌}
use Rattle.lists.specs.Rising.{passing}
use Rattle.lists.proofs.Theorems.{one}
use Rattle.lists.proofs.Rising.{passing_same}
use Rattle.glyphs.specs.Source.{source_of}
use Rattle.sets.specs.Sets.{mark_of, searched, is_search, is_in, cells_of, cells_found, Searches, ComparesSets}
use Rattle.sets.proofs.Laws.{searched_at, mark_names, is_searched, search_is}

-- The test is true of the sets that a search finds, and of no others.
pub search_exact : (text sets : List ℕ) → (is_search text sets ≡ true) ↔ (sets ≡ searched text)
search_exact text sets = (is_searched text sets, λ e. rw e (search_is text))

-- Of those sets each is what a search of the text finds.
pub cells_are_found : (text : List ℕ) (glyph : ℕ) → cells_of (searched text) glyph ≡ cells_found text glyph
cells_are_found text glyph =
    ap (passing (is_in (searched text) glyph)) (length-map text mark_of)
    ∙ passing_same _ _ (length text) (λ cell h. ap (λ (n : ℕ). n =? glyph + 1) (searched_at text cell h) ∙ mark_names glyph (source_of (get_or text cell 0)))

-- For each public function, any two results that its promise allows are equal.
pub search_determined : (text : List ℕ) → Determined (Searches text)
search_determined text = one _

pub right_determined : (text sets : List ℕ) → Determined (ComparesSets text sets)
right_determined text sets = one _

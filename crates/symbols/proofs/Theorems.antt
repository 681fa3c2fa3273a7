-- What holds of the cells of a symbol, over and above the function's own promise.
use Prim.Native.Nat.{ℕ, ◌<◌, ◌≤◌}
use mathlib.Core.Path.{◌≡◌, refl, ◌∙◌, ap}
use mathlib.Core.Logic.{◌↔◌}
use mathlib.Core.Bool.{Bool, true}
use mathlib.Core.List.{List}
use native.Mathlib.Omega.{arith}
use lib.ListN.{length, get_or}
use Rattle.lists.specs.Promise.{Determined}
use Rattle.lists.specs.Runs.{front}
use Rattle.lists.specs.Rising.{ListedIn}
use Rattle.lists.proofs.Fronts.{front_behind}
use Rattle.lists.proofs.Rising.{front_rises, front_exact}
use Rattle.lists.proofs.Theorems.{one, and}
use Rattle.glyphs.specs.Source.{special, source_of}
use Rattle.sets.specs.Sets.{cells_of, draws_glyph, cells_found}
use Rattle.sets.proofs.Laws.{is_searched, draws_special}
use Rattle.sets.proofs.Theorems.{cells_are_found}
use Rattle.panel.specs.declared.Panel.{Panel}
use Rattle.ranges.specs.Ranges.{in_ranges}
use Rattle.ranges.proofs.InRange.{panel_parts_lem}
use Rattle.answers.specs.declared.Check.{Check}
use Rattle.answers.specs.declared.Answer.TheVariants.{CallRefused}
use Rattle.answers.specs.declared.Said.{Said}
use Rattle.answers.specs.Answer.{numbers_of, refused_call}
use Rattle.answers.proofs.Checks.{refused_by, accepted_by, call_keeps, call_passed}
use Rattle.answers.proofs.Refusals.{refused_first}
use Rattle.symbols.specs.Symbols.{cells_tests, symbol_cells, cells_accepted, TellsCells}

-- In a panel in its ranges the set of a glyph is what a search of the live text finds.
pub set_is_the_search : (p : Panel) → in_ranges p ≡ true → (glyph : ℕ) → symbol_cells p glyph ≡ cells_found p.body.live.shown.text glyph
set_is_the_search p h glyph =
    let text = p.body.live.shown.text in
    ap (λ (sets : List ℕ). cells_of sets glyph) (is_searched text p.body.sets (panel_parts_lem p h).sets) ∙ cells_are_found text glyph

module _ (p : Panel) (glyph : ℕ) (list : List ℕ) (r : Said) (list' : List ℕ) (told : TellsCells p glyph list r list') where
  -- A call that is refused by number leaves the list as it came, and counts nothing.
  pub refused_cells_changes_nothing : (check : Check) → r.answer ≡ CallRefused check → (r ≡ refused_call p check) × (list' ≡ list)
  unfolding numbers_of
  refused_cells_changes_nothing check a =
      let f = refused_first p (cells_tests (in_ranges p) glyph (length list)) (cells_accepted p glyph) r told.0 (omega arith) check a in
      (told.0 ∙ refused_by f _ _, told.1 ∙ refused_by f _ _)

  -- No call changes the panel.
  pub cells_only_read : r.panel ≡ p
  cells_only_read = call_keeps p _ (cells_accepted p glyph) r told.0 (λ (q : Panel). q ≡ p) (λ _. refl) refl

  module _ (accepted : (numbers_of r.answer).number < 10) where
    abbrev text : List ℕ
    text = p.body.live.shown.text

    abbrev test : ℕ → Bool
    test cell = draws_glyph glyph (source_of (get_or text cell 0))

    -- the number and the list, by the search
    listed_is : r.listed ≡ length (cells_found text glyph)
    listed_is =
        let q = call_passed p _ (cells_accepted p glyph) r told.0 accepted in
        ap (λ (s : Said). s.listed) (told.0 ∙ accepted_by _ q _ _) ∙ ap length (set_is_the_search p q.0 glyph)

    list_is : list' ≡ front (cells_found text glyph) list
    list_is =
        let q = call_passed p _ (cells_accepted p glyph) r told.0 accepted in
        told.1 ∙ accepted_by _ q _ _ ∙ ap (λ (cells : List ℕ). front cells list) (set_is_the_search p q.0 glyph)

    -- The list of an accepted call is rising, so that each cell stands in it once,
    pub cells_rise : (i j : ℕ) → i < j → j < r.listed → get_or list' i 0 < get_or list' j 0
    cells_rise i j h g = rw list_is (front_rises test (length text) list i j h (rw listed_is at g))

    -- it holds exactly the cells whose code draws the glyph,
    pub cells_of_a_symbol : (cell : ℕ) → ListedIn list' r.listed cell ↔ ((cell < length text) × (source_of (get_or text cell 0) ≡ special glyph))
    cells_of_a_symbol cell =
        let e = front_exact test (length text) list cell in
        let d = draws_special glyph (source_of (get_or text cell 0)) in
        rw (list_is, listed_is) (λ o. let p = e.0 o in (p.0, d.0 p.1), λ p. e.1 (p.0, d.1 p.1))

    -- and the bytes behind are as they were.
    pub behind_the_cells : (i : ℕ) → r.listed ≤ i → get_or list' i 0 ≡ get_or list i 0
    behind_the_cells i h = rw list_is (front_behind (cells_found text glyph) list i (rw listed_is at h))

-- Any two results that the promise allows are equal, the lent list included.
pub cells_determined : (p : Panel) (glyph : ℕ) (list : List ℕ) → Determined (λ (x : Said × List ℕ). TellsCells p glyph list x.0 x.1)
cells_determined p glyph list = and (one _) (one _)

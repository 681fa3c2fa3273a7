-- What a code draws, source by source, and when two drawings are alike.
use Prim.Native.Nat.{ℕ, zero, suc, ◌-◌, ◌*◌, ◌%◌}
use mathlib.Core.Path.{◌≡◌, refl}
use mathlib.Core.Bool.{Bool, true, false, not, ◌&&◌, ◌||◌}
use mathlib.Core.List.{List, [], ◌∷◌}
use native.Mathlib.Numerals.{add-one}
use native.Mathlib.Omega.{arith}
use borrow.Author.Tests.{eqb-true, not-true}
use lib.ListN.{get_or}
use Rattle.lists.specs.Tests.{◌=?◌}
use Rattle.lists.proofs.Laws.{when_true, when_false}
use Rattle.glyphs.specs.Glyphs.{eight_from}
use Rattle.glyphs.specs.Source.{Source, special, font, is_special, source_of}
use Rattle.sets.specs.Sets.{mark_for, mark_of, searched}
use Rattle.sets.proofs.Laws.{mark_small}
use Rattle.picture.specs.Draw.{drawn_from, low_six, code_drawn}
use Rattle.picture.specs.Repaint.{alike, glyph_stays, Marks}
use Rattle.picture.proofs.Changes.{both, alike_self}

module _ (glyphs : List (List ℕ)) (bytes : List ℕ) (code : ℕ) where
  pub drawn_special : is_special code ≡ true → code_drawn glyphs bytes code ≡ eight_from (get_or glyphs (code % 8) []) 0
  unfolding code_drawn source_of drawn_from
  drawn_special h = rw (when_true _ _ _ h)

  pub drawn_font : is_special code ≡ false → code_drawn glyphs bytes code ≡ low_six (eight_from bytes (8 * code))
  unfolding code_drawn source_of drawn_from
  drawn_font h = rw (when_false _ _ _ h)

-- a code that stays and draws from the font, or from the same glyphs, draws as it did
pub stays_alike : (before after : List (List ℕ)) (bytes : List ℕ) (a b : ℕ) (same : Bool) → (same ≡ true → before ≡ after) → (a =? b) && (same || not (is_special b)) ≡ true
    → alike 8 (code_drawn before bytes a) (code_drawn after bytes b) ≡ true
stays_alike before after bytes a b true k h =
    let t = both (a =? b) true h in
    rw (eqb-true a b t.0, k refl) (alike_self 8 (code_drawn after bytes b))
stays_alike before after bytes a b false k h =
    let t = both (a =? b) (not (is_special b)) h in
    let g = not-true (is_special b) t.1 in
    rw (eqb-true a b t.0, drawn_font before bytes b g, drawn_font after bytes b g) (alike_self 8 (low_six (eight_from bytes (8 * b))))

-- the glyph that a cell's byte names
pub stays_named : (mark : ℕ) (before after : List (List ℕ)) → (mark ≡ 0 → ⊥) → glyph_stays mark before after ≡ alike 8 (get_or before (mark - 1) []) (get_or after (mark - 1) [])
unfolding glyph_stays
stays_named zero before after n = absurd (n refl)
stays_named (suc glyph) before after n = let e : suc glyph - 1 ≡ glyph = omega arith in rw e refl

-- a code whose glyph is as before, or that has none, draws as it did
pub mark_alike : (before after : List (List ℕ)) (bytes : List ℕ) (code : ℕ) → glyph_stays (mark_of code) before after ≡ true → alike 8 (code_drawn before bytes code) (code_drawn after bytes code) ≡ true
unfolding code_drawn mark_for drawn_from glyph_stays
mark_alike before after bytes code h = go (source_of code) h
  where
    go : (s : Source) → glyph_stays (mark_for s) before after ≡ true → alike 8 (drawn_from s before bytes) (drawn_from s after bytes) ≡ true
    go (special number) h = rw add-one at h
    go (font c) h = alike_self 8 (low_six (eight_from bytes (8 * c)))

pub searched_marks : (text : List ℕ) → Marks (searched text)
searched_marks [] cell = omega arith
searched_marks (code ∷ text) zero = mark_small code
searched_marks (code ∷ text) (suc cell) = searched_marks text cell

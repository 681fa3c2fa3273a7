-- Laws of the sets, cell by cell.
use Prim.Native.Nat.{ℕ, zero, suc, ◌+◌, ◌%◌, ◌≤◌, ◌<◌}
use mathlib.Core.Path.{◌≡◌, refl, sym, ◌∙◌, ap, subst}
use mathlib.Core.Logic.{◌↔◌, dite}
use mathlib.Core.Bool.{Bool, true, ◌&&◌, false≢true, and-eq-true_iff, and_assoc, and-true}
use mathlib.Core.List.{List, [], ◌∷◌}
use native.Mathlib.Decide.{dec_lt, ℕ_discrete}
use native.Mathlib.Omega.{arith}
use borrow.Author.Tests.{eqb-true, eq-eqb, ne_eqb}
use lib.ListN.{length, get_or, length-map}
use lib.Seq.{ext_get_or}
use denote.Param.Members.{Mut, Called}
use Rattle.std.specs.List.{fold, zip}
use Rattle.std.specs.Array.{IsFromFnResult, IsFromFnResultFrom}
use Rattle.lists.specs.Tests.{◌=?◌}
use Rattle.lists.proofs.Laws.{when_either}
use Rattle.glyphs.specs.Source.{Source, special, font, is_special, source_of}
use Rattle.sets.specs.Sets.{mark_for, mark_of, searched, searched_below, is_search, draws_glyph}

-- the byte of a cell of the text
pub searched_at : (text : List ℕ) (cell : ℕ) → cell < length text → get_or (searched text) cell 0 ≡ mark_of (get_or text cell 0)
searched_at [] cell h = absurd (omega arith)
searched_at (code ∷ text) zero h = refl
searched_at (code ∷ text) (suc cell) h = searched_at text cell (omega arith)

-- a cell's byte names one of eight glyphs, or none
pub mark_small : (code : ℕ) → mark_of code ≤ 8
unfolding source_of mark_for
mark_small code = when_either (λ (s : Source). mark_for s ≤ 8) (is_special code) (special (code % 8)) (font code) (λ _. omega arith) (λ _. omega arith)

-- a cell's byte names the glyph that its code draws
pub mark_names : (glyph : ℕ) (s : Source) → (mark_for s =? glyph + 1) ≡ draws_glyph glyph s
unfolding mark_for draws_glyph
mark_names glyph (special number) =
    dite (ℕ_discrete number glyph) (λ e. eq-eqb (number + 1) (glyph + 1) (omega arith) ∙ sym (eq-eqb _ _ e)) (λ n. ne_eqb _ _ (λ (e : number + 1 ≡ glyph + 1). n (omega arith)) ∙ sym (ne_eqb _ _ n))
mark_names glyph (font code) = ne_eqb 0 (glyph + 1) (λ e. absurd (omega arith))

-- a glyph is what a code draws from where the search says so
pub draws_special : (glyph : ℕ) (s : Source) → (draws_glyph glyph s ≡ true) ↔ (s ≡ special glyph)
unfolding draws_glyph
draws_special glyph (special number) = (λ e. ap special (eqb-true number glyph e), λ e. let q : number ≡ glyph = cc in eq-eqb number glyph q)
draws_special glyph (font code) = (λ e. absurd (false≢true e), λ e. let z : ◌≡◌ {A = ℕ} 0 1 = cc in absurd (omega arith))

-- the bytes of the first n cells are those that a search finds
abbrev pub Marked : List ℕ → List ℕ → ℕ → Type 0
Marked text sets n = (cell : ℕ) → cell < n → get_or sets cell 0 ≡ mark_of (get_or text cell 0)

pub marked_all : (text sets : List ℕ) → length sets ≡ length text → Marked text sets (length text) → sets ≡ searched text
marked_all text sets size m =
    ext_get_or 0 sets (searched text) (size ∙ sym (length-map text mark_of)) (λ cell h. m cell (omega arith) ∙ sym (searched_at text cell (omega arith)))

-- the pairs compared from the front: `right` folds over them
abbrev pub agrees : Bool → ℕ × ℕ → Bool
agrees ok pair = ok && (pair.0 =? mark_of pair.1)

below_cons : (text sets : List ℕ) (code mark n : ℕ) → searched_below (code ∷ text) (mark ∷ sets) (suc n) ≡ (mark =? mark_of code) && searched_below text sets n
unfolding searched_below
below_cons text sets code mark zero = sym (and-true _)
below_cons text sets code mark (suc n) = rw (below_cons text sets code mark n) (and_assoc (mark =? mark_of code) (searched_below text sets n) (get_or sets n 0 =? mark_of (get_or text n 0)))

pub pairs_below : (text sets : List ℕ) (ok : Bool) → length sets ≡ length text → fold agrees ok (zip sets text) ≡ (ok && searched_below text sets (length text))
unfolding searched_below
pairs_below [] [] ok h = sym (and-true ok)
pairs_below [] (mark ∷ sets) ok h = absurd (omega arith)
pairs_below (code ∷ text) [] ok h = absurd (omega arith)
pairs_below (code ∷ text) (mark ∷ sets) ok h =
    pairs_below text sets (agrees ok (mark, code)) (omega arith)
    ∙ and_assoc ok (mark =? mark_of code) (searched_below text sets (length text))
    ∙ ap (λ (b : Bool). ok && b) (sym (below_cons text sets code mark (length text)))

below_at : (text sets : List ℕ) (n : ℕ) → searched_below text sets n ≡ true → Marked text sets n
unfolding searched_below
below_at text sets zero e cell h = absurd (omega arith)
below_at text sets (suc n) e cell h =
    let both = (and-eq-true_iff (searched_below text sets n) (get_or sets n 0 =? mark_of (get_or text n 0))).0 e in
    dite (dec_lt cell n) (λ p. below_at text sets n both.0 cell p) (λ p. let q : cell ≡ n = omega arith in rw q (eqb-true _ _ both.1))

below_of : (text sets : List ℕ) (n : ℕ) → Marked text sets n → searched_below text sets n ≡ true
unfolding searched_below
below_of text sets zero h = refl
below_of text sets (suc n) h = (and-eq-true_iff _ _).1 (below_of text sets n (λ cell k. h cell (omega arith)), eq-eqb _ _ (h n (omega arith)))

-- sets that pass the test are those that a search finds, and those pass it
pub is_searched : (text sets : List ℕ) → is_search text sets ≡ true → sets ≡ searched text
unfolding is_search
is_searched text sets e =
    let both = (and-eq-true_iff (length sets =? length text) (searched_below text sets (length text))).0 e in
    marked_all text sets (eqb-true _ _ both.0) (below_at text sets (length text) both.1)

pub search_is : (text : List ℕ) → is_search text (searched text) ≡ true
unfolding is_search
search_is text = (and-eq-true_iff _ _).1 (eq-eqb _ _ (length-map text mark_of), below_of text (searched text) (length text) (searched_at text))

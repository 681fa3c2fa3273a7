-- The cells that draw otherwise, and the picture repainted.
use Prim.Native.Nat.{ℕ, zero, suc, ◌<◌, ◌≤◌}
use mathlib.Core.Path.{◌≡◌, refl, sym, ◌∙◌, ap}
use mathlib.Core.Logic.{◌≢◌, ◌↔◌, dite}
use mathlib.Core.Bool.{Bool, true, false, not, ◌&&◌, false≢true}
use mathlib.Core.List.{List, []}
use native.Mathlib.Omega.{arith}
use native.Mathlib.Decide.{dec_lt, ℕ_discrete}
use borrow.Author.Tests.{eqb-true, eq-eqb, not-true}
use Rattle.std.specs.Str.{bytes_eq}
use Rattle.std.proofs.lemmas.Bool.Decides.{same_from_decides}
use Rattle.std.proofs.lemmas.Slice.Eq.{bytes_eq-Decides}
use lib.Dec.{eqb}
use lib.ListN.{length, get_or}
use lib.Seq.{ext_get_or}
use Rattle.lists.specs.Tests.{when◌then◌else◌}
use Rattle.lists.specs.Rising.{ListedIn}
use Rattle.lists.proofs.Laws.{when_true, when_false}
use Rattle.lists.proofs.Rising.{Exact, passing_rises, passing_short, passing_none}
use Rattle.picture.specs.Draw.{Screen, cell_drawn, place_of, paint, drawn}
use Rattle.picture.specs.Repaint.{alike, same, otherwise, changed, painted}
use Rattle.picture.proofs.Paints.{length-paint, paint_at, by_cell, length_cell, length-drawn, drawn_at}

-- Bytes that are alike up to n are the same there, and a list is like itself.
pub both : (a b : Bool) → (a && b) ≡ true → (a ≡ true) × (b ≡ true)
both true b h = (refl, h)
both false b h = absurd (false≢true h)

pub alike_at : (n : ℕ) (a b : List ℕ) → alike n a b ≡ true → (k : ℕ) → k < n → get_or a k 0 ≡ get_or b k 0
alike_at zero a b h k l = absurd (omega arith)
alike_at (suc n) a b h k l =
    let t = both (alike n a b) (eqb (get_or a n 0) (get_or b n 0)) h in
    dite (ℕ_discrete k n) (λ q. rw q (eqb-true (get_or a n 0) (get_or b n 0) t.1)) (λ q. alike_at n a b t.0 k (omega arith))

pub alike_self : (n : ℕ) (a : List ℕ) → alike n a a ≡ true
alike_self zero a = refl
alike_self (suc n) a = rw (alike_self n a, eq-eqb (get_or a n 0) (get_or a n 0) refl)

-- lists of n that are alike up to n are the same
pub alike_whole : (n : ℕ) (a b : List ℕ) → length a ≡ n → length b ≡ n → alike n a b ≡ true → a ≡ b
alike_whole n a b h k e = ext_get_or 0 a b (h ∙ sym k) (λ i l. alike_at n a b e i (omega arith))

-- what `==` says of eight bytes
pub alike_eight : (a b : List ℕ) → length a ≡ 8 → length b ≡ 8 → bytes_eq a b ≡ alike 8 a b
alike_eight a b h k = same_from_decides (bytes_eq a b) (alike 8 a b) (bytes_eq-Decides a b) (alike_whole 8 a b h k, λ e. rw e (alike_self 8 b))

module _ (before after : Screen) (font : List ℕ) where
  pub painted_at : (p : List ℕ) (c k : ℕ) → length p ≡ 640 → c < 80 → k < 8
      → get_or (painted before after font p) (place_of c k) 0 ≡ (when same before after font c then get_or p (place_of c k) 0 else get_or (cell_drawn after font c) k 0)
  unfolding painted
  painted_at p c k e h g = paint_at (same before after font) (cell_drawn after font) p 80 c k (omega arith) h g e

  pub length-painted : (p : List ℕ) → length (painted before after font p) ≡ length p
  unfolding painted
  length-painted p = length-paint (same before after font) (cell_drawn after font) p 80

  kept_or_new : (c k : ℕ) → k < 8 → (b : Bool) → same before after font c ≡ b → (when b then get_or (cell_drawn before font c) k 0 else get_or (cell_drawn after font c) k 0) ≡ get_or (cell_drawn after font c) k 0
  unfolding when◌then◌else◌ same
  kept_or_new c k g true t = alike_at 8 (cell_drawn before font c) (cell_drawn after font c) t k g
  kept_or_new c k g false t = refl

  -- Repainting a picture that is drawn afresh leaves one that is drawn afresh.
  pub repainted : painted before after font (drawn before font) ≡ drawn after font
  repainted =
      by_cell _ _ (length-painted (drawn before font) ∙ length-drawn before font) (length-drawn after font) (λ c k h g.
      rw (painted_at (drawn before font) c k (length-drawn before font) h g, drawn_at before font c k h g, drawn_at after font c k h g)
      (kept_or_new c k g (same before after font c) refl))

-- a cell is one of those that the change list holds
abbrev pub Listed : Screen → Screen → List ℕ → ℕ → Type 0
Listed before after font = ListedIn (changed before after font) (length (changed before after font))

module _ (before after : Screen) (font : List ℕ) where
  -- the change list is rising and holds exactly the cells that draw otherwise
  changes_listed : Exact (otherwise before after font) 80 (changed before after font)
  changes_listed = passing_rises (otherwise before after font) 80

  listed_other : (c : ℕ) → Listed before after font c → same before after font c ≡ false
  listed_other c o = not-true _ (rw o.2 at (changes_listed.passes o.0 o.1))

  same_drawing : (c : ℕ) → same before after font c ≡ true → cell_drawn before font c ≡ cell_drawn after font c
  unfolding same
  same_drawing c h = ext_get_or 0 (cell_drawn before font c) (cell_drawn after font c) (length_cell before font c ∙ sym (length_cell after font c)) (λ i l. alike_at 8 (cell_drawn before font c) (cell_drawn after font c) h i (omega (arith, length_cell before font c)))

  other_drawing : (c : ℕ) → same before after font c ≡ false → cell_drawn before font c ≢ cell_drawn after font c
  unfolding same
  other_drawing c h e = false≢true (sym h ∙ ap (λ (x : List ℕ). alike 8 x (cell_drawn after font c)) e ∙ alike_self 8 (cell_drawn after font c))

  -- The change list rises.
  pub listed_rises : (i j : ℕ) → i < j → j < length (changed before after font) → get_or (changed before after font) i 0 < get_or (changed before after font) j 0
  listed_rises = changes_listed.rises

  -- A cell stands in the change list once.
  pub listed_once : (i j : ℕ) → i < length (changed before after font) → j < length (changed before after font) → get_or (changed before after font) i 0 ≡ get_or (changed before after font) j 0 → i ≡ j
  listed_once i j h g e =
      dite (dec_lt i j) (λ q. let l = listed_rises i j q g in absurd (omega arith)) (λ q.
      dite (dec_lt j i) (λ u. let l = listed_rises j i u h in absurd (omega arith)) (λ u. omega arith))

  -- Every listed cell is one of the 80.
  pub listed_inside : (c : ℕ) → Listed before after font c → c < 80
  listed_inside c o = rw o.2 at (changes_listed.inside o.0 o.1)

  -- A cell is listed if and only if its eight bytes differ.
  pub listed_differs : (c : ℕ) → c < 80 → Listed before after font c ↔ (cell_drawn before font c ≢ cell_drawn after font c)
  listed_differs c h = (λ o. other_drawing c (listed_other c o), λ n. find (same before after font c) refl n)
    where
      find : (b : Bool) → same before after font c ≡ b → cell_drawn before font c ≢ cell_drawn after font c → Listed before after font c
      find true e n = absurd (n (same_drawing c e))
      find false e n = changes_listed.whole c h (ap not e)

  -- All eight bytes of a listed cell are what it draws, whatever the picture held.
  pub listed_drawn : (p : List ℕ) (c k : ℕ) → length p ≡ 640 → k < 8 → Listed before after font c → get_or (painted before after font p) (place_of c k) 0 ≡ get_or (cell_drawn after font c) k 0
  listed_drawn p c k e g o = painted_at before after font p c k e (listed_inside c o) g ∙ when_false _ _ _ (listed_other c o)

  -- The bytes of a cell that is not listed are as they came, whatever the picture held.
  pub unlisted_kept : (p : List ℕ) (c k : ℕ) → length p ≡ 640 → c < 80 → k < 8 → (Listed before after font c → ⊥) → get_or (painted before after font p) (place_of c k) 0 ≡ get_or p (place_of c k) 0
  unlisted_kept p c k e h g n = painted_at before after font p c k e h g ∙ when_true _ _ _ (kept (same before after font c) refl)
    where
      kept : (b : Bool) → same before after font c ≡ b → same before after font c ≡ true
      kept true t = t
      kept false t = absurd (n (changes_listed.whole c h (ap not t)))

  -- The list is never longer than there are cells.
  pub changed_short : length (changed before after font) ≤ 80
  changed_short = passing_short (otherwise before after font) 80

-- A screen that stays draws as it did.
module _ (s : Screen) (font : List ℕ) where
  drawn_same : (c : ℕ) → same s s font c ≡ true
  unfolding same
  drawn_same c = alike_self 8 (cell_drawn s font c)

  none_painted : (picture : List ℕ) (n : ℕ) → paint (same s s font) (cell_drawn s font) picture n ≡ picture
  unfolding paint
  none_painted picture zero = refl
  none_painted picture (suc n) = when_true _ _ _ (drawn_same n) ∙ none_painted picture n

  -- Nothing changes where the screen is the same.
  pub changed_same : changed s s font ≡ []
  changed_same = passing_none (otherwise s s font) 80 (λ cell. ap not (drawn_same cell))

  -- Any picture stays where the screen is the same.
  pub painted_same : (picture : List ℕ) → painted s s font picture ≡ picture
  unfolding painted
  painted_same picture = none_painted picture 80

-- A repaint by the sizes of what is lent.
use Prim.Native.Nat.{ℕ}
use mathlib.Core.Path.{◌≡◌, refl, sym}
use mathlib.Core.Bool.{Bool, true, false, ◌&&◌}
use mathlib.Core.List.{List}
use borrow.Author.Tests.{eq-eqb, ne_eqb}
use lib.Dec.{eqb}
use lib.ListN.{length}
use Rattle.lists.specs.Promise.{Determined}
use Rattle.lists.specs.Tests.{when◌then◌else◌}
use Rattle.lists.proofs.Theorems.{one, and}
use Rattle.picture.specs.Draw.{Screen}
use Rattle.picture.specs.Repaint.{Repaints, RepaintsSized}
use Rattle.picture.proofs.Changes.{changed_same, painted_same}

-- the same screen again: nothing is done, whatever the sizes
pub screen_again : (before after : Screen) (font picture list : List ℕ) → before ≡ after → RepaintsSized before after font picture list 0 picture list
unfolding when◌then◌else◌
screen_again before after font picture list e = rw (← e) (go (eqb (length picture) 640 && eqb (length list) 80))
  where
    go : (t : Bool) → when t then Repaints before before font picture list 0 picture list else ((◌≡◌ {A = ℕ} 0 0) × (picture ≡ picture) × (list ≡ list))
    go true = rw (changed_same before font) (refl, sym (painted_same before font picture), refl)
    go false = (refl, refl, refl)

module _ (before after : Screen) (font picture list : List ℕ) where
  -- nothing is done where a size is wrong
  pub picture_left : (length picture ≡ 640 → ⊥) → RepaintsSized before after font picture list 0 picture list
  unfolding when◌then◌else◌
  picture_left h = rw (ne_eqb (length picture) 640 h) (refl, refl, refl)

  pub list_left : length picture ≡ 640 → (length list ≡ 80 → ⊥) → RepaintsSized before after font picture list 0 picture list
  unfolding when◌then◌else◌
  list_left g h = rw (eq-eqb (length picture) 640 g, ne_eqb (length list) 80 h) (refl, refl, refl)

  module _ (r : ℕ) (picture' list' : List ℕ) (h : length picture ≡ 640) (g : length list ≡ 80) where
    pub sized_repaints : Repaints before after font picture list r picture' list' → RepaintsSized before after font picture list r picture' list'
    unfolding when◌then◌else◌
    sized_repaints m = rw (eq-eqb (length picture) 640 h, eq-eqb (length list) 80 g) m

    pub repaints_sized : RepaintsSized before after font picture list r picture' list' → Repaints before after font picture list r picture' list'
    unfolding when◌then◌else◌
    repaints_sized m = rw (eq-eqb (length picture) 640 h, eq-eqb (length list) 80 g) at m

  -- with either outcome of the test of sizes the promise leaves nothing open
  pub sized_or_left : (t : Bool) → Determined (λ (x : ℕ × (List ℕ × List ℕ)). when t then Repaints before after font picture list x.0 x.1.0 x.1.1
      else ((x.0 ≡ 0) × (x.1.0 ≡ picture) × (x.1.1 ≡ list)))
  unfolding when◌then◌else◌
  sized_or_left true x y m n = and (one _) (and (one _) (one _)) x y (m.0, (m.1, m.2)) (n.0, (n.1, n.2))
  sized_or_left false x y m n = and (one _) (and (one _) (one _)) x y (m.0, (m.1, m.2)) (n.0, (n.1, n.2))

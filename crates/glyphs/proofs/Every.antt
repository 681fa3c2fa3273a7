-- What holds of every element of a list, and of the glyphs when it holds of their rows.
use Prim.Native.Nat.{ℕ, zero, suc}
use mathlib.Core.Path.{◌≡◌, refl}
use mathlib.Core.Bool.{Bool, true, and-eq-true_iff}
use mathlib.Core.List.{List, [], ◌∷◌, ◌++◌}
use lib.ListN.{get_or, set}
use Rattle.lists.specs.Tests.{all}
use Rattle.glyphs.specs.Glyphs.{eight_from, nested_of, flat_first, flat_of}

abbrev pub Every {ℓ} : {A : Type ℓ} → (A → Type 0) → List A → Type 0
Every P [] = Unit
Every P (x ∷ xs) = P x × Every P xs

module _ {ℓ} {A : Type ℓ} (P : A → Type 0) where
  pub every_at : (xs : List A) (d : A) → P d → Every P xs → (i : ℕ) → P (get_or xs i d)
  every_at [] d p e i = p
  every_at (x ∷ xs) d p e zero = e.0
  every_at (x ∷ xs) d p e (suc i) = every_at xs d p e.1 i

  pub every_set : (xs : List A) (i : ℕ) (x : A) → P x → Every P xs → Every P (set xs i x)
  every_set [] i x p e = tt
  every_set (y ∷ xs) zero x p e = (p, e.1)
  every_set (y ∷ xs) (suc i) x p e = (e.0, every_set xs i x p e.1)

  pub every_append : (xs ys : List A) → Every P xs → Every P ys → Every P (xs ++ ys)
  every_append [] ys e f = f
  every_append (x ∷ xs) ys e f = (e.0, every_append xs ys e.1 f)

-- the test `all` says so
module _ (test : ℕ → Bool) where
  abbrev pub Passes : ℕ → Type 0
  Passes x = test x ≡ true

  pub all_every : (xs : List ℕ) → all test xs ≡ true → Every Passes xs
  unfolding all
  all_every [] e = tt
  all_every (x ∷ xs) e = let a = (and-eq-true_iff _ _).0 e in (a.0, all_every xs a.1)

  pub every_all : (xs : List ℕ) → Every Passes xs → all test xs ≡ true
  unfolding all
  every_all [] e = refl
  every_all (x ∷ xs) e = rw e.0 (every_all xs e.1)

  module _ (nought : test 0 ≡ true) where
    every_eight : (xs : List ℕ) (k : ℕ) → Every Passes xs → Every Passes (eight_from xs k)
    every_eight xs k e =
        let at = every_at Passes xs 0 nought e in (at _, (at _, (at _, (at _, (at _, (at _, (at _, (at _, tt))))))))

    every_nested : (flat : List ℕ) → Every Passes flat → Every (Every Passes) (nested_of flat)
    unfolding nested_of
    every_nested flat e =
        let at : (k : ℕ) → Every Passes (eight_from flat k) = λ k. every_eight flat k e in
        (at 0, (at 8, (at 16, (at 24, (at 32, (at 40, (at 48, (at 56, tt))))))))

    every_flat : (n : ℕ) (glyphs : List (List ℕ)) → Every (Every Passes) glyphs → Every Passes (flat_first n glyphs)
    unfolding flat_first
    every_flat zero glyphs e = tt
    every_flat (suc n) glyphs e =
        every_append Passes (flat_first n glyphs) _ (every_flat n glyphs e) (every_eight (get_or glyphs n []) 0 (every_at (Every Passes) glyphs [] tt e n))

    -- a glyph set to rows that pass
    pub glyph_set_passes : (flat : List ℕ) (number : ℕ) (rows : List ℕ) → all test flat ≡ true → Every Passes rows → all test (flat_of (set (nested_of flat) number rows)) ≡ true
    unfolding flat_of
    glyph_set_passes flat number rows e f =
        every_all _ (every_flat 8 _ (every_set (Every Passes) (nested_of flat) number rows f (every_nested flat (all_every flat e))))

  pub all_set : (xs : List ℕ) (i x : ℕ) → test x ≡ true → all test xs ≡ true → all test (set xs i x) ≡ true
  all_set xs i x p e = every_all _ (every_set Passes xs i x p (all_every xs e))

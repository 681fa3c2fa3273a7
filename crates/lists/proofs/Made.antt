-- What an array holds that is made from a function of the index.
use Rattle.std.proofs.Common.{◌≡◌, ◌∙◌, ℕ, zero, suc, ◌+◌, ◌<◌, ◌≤◌, List, map, get_or, arith}
use mathlib.Core.Path.{subst}
use mathlib.Core.Logic.{dite}
use native.Mathlib.Decide.{ℕ_discrete}
use denote.Param.Members.{Mut, Called}
use Rattle.std.specs.List.{range_with_len}
use Rattle.std.specs.Array.{IsFromFnResult, IsFromFnResultFrom}
use Rattle.std.proofs.lemmas.List.FromFn.{fill_by_all}

-- what `array::from_fn` made of a closure whose calls leave it as it is
module _ {F B : Type 0} (g : Mut F (ℕ × Unit {0}) B) (f : F) (h : ℕ → B) (same : (i : ℕ) (y : B) (q : F) → Called g f (i, tt) y q → (q ≡ f) × (y ≡ h i)) where
  made_from : (ys : List B) (i n : ℕ) → IsFromFnResultFrom g f ys i n → (k : ℕ) (d : B) → i ≤ k → k < i + n → get_or ys k d ≡ h k
  made_from ys i zero made k d low high = absurd (omega arith)
  made_from ys i (suc n) made k d low high =
      let s = same i made.1 made.0 made.3 in
      dite (ℕ_discrete k i) (λ e. rw e (made.2.1 d ∙ s.1))
      (λ e. made_from ys (i + 1) n (subst (λ (q : F). IsFromFnResultFrom g q ys (i + 1) n) s.0 made.4) k d (omega arith) (omega arith))

  pub made_at : (ys : List B) (n : ℕ) → IsFromFnResult g f ys n → (k : ℕ) (d : B) → k < n → get_or ys k d ≡ h k
  made_at ys n made k d l = made_from ys 0 n made.each k d (omega arith) (omega arith)

  pub is_made : (ys : List B) (n : ℕ) (d : B) → IsFromFnResult g f ys n → ys ≡ map h (range_with_len 0 n)
  is_made ys n d made = fill_by_all h ys n d made.long (λ k l. made_at ys n made k d l)

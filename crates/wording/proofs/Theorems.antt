-- Any two results that the promise allows are equal, the lent buffer included.
use mathlib.Core.Path.{sym, ◌∙◌}
use mathlib.Core.List.{List}
use Prim.Native.Nat.{ℕ}
use Rattle.lists.specs.Promise.{Determined}
use Rattle.wording.specs.Text.{FillsForm}

pub filled_determined : (out form numbers : List ℕ) → Determined (λ (x : ℕ × List ℕ). FillsForm out form numbers x.0 x.1)
filled_determined out form numbers x y p q = let e = p ∙ sym q in λ i. ((e i).size, (e i).buffer)

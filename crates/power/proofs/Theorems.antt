-- What holds of power-on over and above its promise.
use Prim.Native.Nat.{ℕ}
use mathlib.Core.List.{List}
use native.Mathlib.Omega.{arith}
use Rattle.lists.specs.Promise.{Determined}
use Rattle.lists.proofs.Theorems.{one, and}
use Rattle.answers.specs.declared.Said.{Said}
use Rattle.answers.specs.Answer.{check_number}
use Rattle.answers.proofs.Checks.{Rising}
use Rattle.power.specs.Power.{power_tests, PowersOn}

-- Any two results that the promise allows are equal, the lent picture included.
pub power_on_determined : (picture font : List ℕ) → Determined (λ (x : Said × List ℕ). PowersOn picture font x.0 x.1)
power_on_determined picture font = and (one _) (one _)

-- "The lowest number that applies is given"
pub power_tests_rise : (picture font : ℕ) → Rising 9 (power_tests picture font)
unfolding check_number
power_tests_rise picture font = (omega arith, (omega arith, tt))

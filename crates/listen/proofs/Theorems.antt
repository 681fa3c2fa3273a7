-- For each public function, any two results that its promise allows are equal, the lent buffer included.
use Prim.Native.Nat.{ℕ}
use mathlib.Core.Bool.{Bool}
use mathlib.Core.List.{List}
use native.Mathlib.Omega.{arith}
use Rattle.lists.specs.Promise.{Determined}
use Rattle.lists.proofs.Theorems.{one, and}
use Rattle.panel.specs.declared.Line.{Line}
use Rattle.answers.specs.Answer.{check_number}
use Rattle.answers.proofs.Checks.{Rising}
use Rattle.listen.specs.declared.Sizes.{Sizes}
use Rattle.listen.specs.declared.Heard.{Heard}
use Rattle.listen.specs.Listen.{line_tests, ChecksLine, HearsPiece}

pub checked_determined : (in_range : Bool) (piece : ℕ) (sizes : Sizes) (reply : ℕ) → Determined (ChecksLine in_range piece sizes reply)
checked_determined in_range piece sizes reply = one _

pub hear_determined : (line : Line) (piece reply : List ℕ) → Determined (λ (x : Heard × List ℕ). HearsPiece line piece reply x.0 x.1)
hear_determined line piece reply = and (one _) (one _)

-- "The lowest number that applies is given"
pub line_tests_rise : (in_range : Bool) (piece : ℕ) (sizes : Sizes) (reply : ℕ) → Rising 9 (line_tests in_range piece sizes reply)
unfolding check_number
line_tests_rise in_range piece sizes reply = (omega arith, (omega arith, (omega arith, (omega arith, (omega arith, (omega arith, (omega arith, tt)))))))

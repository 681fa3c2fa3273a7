-- For each public function, any two results that its promise allows are equal.
use Prim.Native.Nat.{ℕ}
use mathlib.Core.Path.{◌≡◌}
use mathlib.Core.Bool.{Bool}
use Rattle.std.specs.Prelude.{Result}
use Rattle.lists.specs.Promise.{Determined}
use Rattle.lists.proofs.Theorems.{one}
use Rattle.panel.specs.declared.Panel.{Panel}
use Rattle.answers.specs.declared.Answer.{Answer}
use Rattle.answers.specs.declared.Check.{Check}
use Rattle.answers.specs.Answer.{NumbersCheck, Tells, Hands, TakesNothing}
use Rattle.answers.specs.Checks.{Checks}

pub told_determined : (answer : Answer) → Determined (Tells answer)
told_determined answer = one _

pub to_file_determined : (answer : Answer) → Determined (Hands answer)
to_file_determined answer = one _

pub also_determined : (c : Result (Unit {0}) Check) (passes : Bool) (check : Check) → Determined (Checks c passes check)
also_determined c passes check = one _

pub nothing_taken_determined : (p : Panel) (answer : Answer) (reply : ℕ) → Determined (TakesNothing p answer reply)
nothing_taken_determined p answer reply = one _

-- the number of a check, `u8::from`
pub check_number_determined : (check : Check) → Determined (NumbersCheck check)
check_number_determined check = one _

use Prim.Native.Nat.{ℕ, zero, suc, ◌≤◌}
use mathlib.Core.Path.{◌≡◌, refl}
use mathlib.Core.Bool.{true, and-eq-true_iff}
use mathlib.Core.List.{List, [], ◌∷◌}
use native.Mathlib.Omega.{arith}
use lib.ListN.{get_or}
use borrow.Author.Tests.{leb-true}
use Rattle.lists.specs.Tests.{◌≤?◌, all, all_at_most}
use Rattle.events.proofs.keys.report_code.Goals as goal

-- what is read of a list is at most its largest, also past its end
read-at-most : (most : ℕ) (xs : List ℕ) → all_at_most most xs ≡ true → (i : ℕ) → get_or xs i 0 ≤ most
unfolding all
read-at-most most [] e i = omega arith
read-at-most most (x ∷ xs) e zero = leb-true _ _ ((and-eq-true_iff (x ≤? most) _).0 e).0
read-at-most most (x ∷ xs) e (suc i) = read-at-most most xs ((and-eq-true_iff (x ≤? most) _).0 e).1 i

pub overflow_add-result : goal.overflow_add-result
unfolding all
overflow_add-result c = omega (arith, c.at-pressed.ensures, read-at-most 6 (1 ∷ 5 ∷ 6 ∷ 3 ∷ 4 ∷ 2 ∷ []) refl c.args.number)

pub returns-else-down : goal.returns-else-down
returns-else-down c = rw (c.at-pressed.ensures, c.if-down.false)

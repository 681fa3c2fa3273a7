use Prim.Native.Nat.{ℕ, suc, ◌-◌, ◌<◌}
use mathlib.Core.Bool.{Bool, not}
use mathlib.Core.List.{[], ◌∷◌}
use mathlib.Core.Path.{◌≡◌}
use lib.ListN.{get_or}
use borrow.Author.Tests.{eqb-true, not-false}
use Rattle.lists.specs.Tests.{when◌then◌else◌, ◌=?◌}
use Rattle.lists.specs.First.{first_below}
use Rattle.lists.proofs.Firsts.{none_before}
use Rattle.reading.specs.Reading.{key_pressed}
use native.Mathlib.Omega.{arith}
use Rattle.reading.proofs.key_pressed.Goals as goal

-- the table is right at the code behind k: antt computes that it is so at each below 6
unfoldable right : ℕ → Bool
right k = get_or (0 ∷ 5 ∷ 3 ∷ 4 ∷ 1 ∷ 2 ∷ []) k 0 =? key_pressed (suc k)

pub returns : goal.returns
unfolding right key_pressed first_below when◌then◌else◌
returns c =
    let k = c.args.code - 1 in
    let h : k < 6 = omega arith in
    let e : suc k ≡ c.args.code = omega arith in
    rw c.from.ensures (rw e at (eqb-true _ _ (not-false (right k) (none_before (λ i. not (right i)) 6 k h))))

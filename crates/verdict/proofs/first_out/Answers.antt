use Prim.Native.Nat.{ℕ, ◌<◌, ◌≤◌}
use mathlib.Core.Path.{◌≡◌, sym}
use mathlib.Core.Bool.{Bool, true, false, not}
use native.Mathlib.Omega.{arith}
use borrow.Author.Tests.{tests}
use borrow.Author.Rules.{rules}
use lib.ListN.{length}
use Rattle.std.specs.Prelude.{Option, Some, None, MatchOption}
use Rattle.std.proofs.lemmas.Iterator.{first_from_Range}
use Rattle.lists.specs.First.{first_below}
use Rattle.lists.proofs.Firsts.{is_first}
use Rattle.verdict.specs.Verdict.{in_range, first_out}
use Rattle.verdict.proofs.first_out.Goals as goal

-- what `find` finds below n is the first
first_found : (test : ℕ → Bool) (n : ℕ) (r : Option ℕ)
    → MatchOption r ((k : ℕ) → 0 ≤ k → k < n → test k ≡ false) (λ i. (0 ≤ i) × (i < n) × (test i ≡ true) × ((k : ℕ) → 0 ≤ k → k < i → test k ≡ false))
    → MatchOption r (n ≡ first_below test n) (λ i. (i ≡ first_below test n) × (i < n))
first_found test n None w = sym (is_first test n n (omega arith) (λ k h. w k (omega arith) h) (λ h. absurd (omega arith)))
first_found test n (Some i) w = (sym (is_first test n i (omega arith) (λ k h. w.3 k (omega arith) h) (λ _. w.2)), w.1)

pub returns : goal.returns
unfolding first_out
returns c =
    let test : ℕ → Bool = λ i. not (in_range c.args.rule c.args.content.now i) in
    first_found test (length c.args.content.now) c.find.result
    (first_from_Range _ _ _ c.find.result (λ i. test i ≡ true) (λ k. test k ≡ false) c.find.ensures.ran (λ x q k. search (rules, tests)) (λ x q k. search (rules, tests)))

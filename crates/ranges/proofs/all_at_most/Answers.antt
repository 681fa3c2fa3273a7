use Rattle.std.proofs.Common.{ℕ, Bool, true, ◌&&◌, ◌∙◌, rules, tests}
use Rattle.std.proofs.lemmas.Iterator.{YieldsList-from_slice}
use Rattle.std.proofs.lemmas.Iterator.Consumers.{fold_from_yields_List}
use Rattle.lists.specs.Tests.{◌≤?◌}
use Rattle.ranges.proofs.InRange.{folded_all}
use Rattle.ranges.proofs.all_at_most.Goals as goal

pub returns : goal.returns
returns c =
    let test : ℕ → Bool = λ (x : ℕ). x ≤? c.args.most in
    fold_from_yields_List _ (λ (ok : Bool) (x : ℕ). ok && test x) true _ c.fold.ensures.ran (YieldsList-from_slice c.args.bytes.now (cc)) (λ a x b q k. search (rules, tests))
    ∙ folded_all test c.args.bytes.now true

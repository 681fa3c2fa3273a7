use Rattle.std.proofs.Common.{ℕ, Bool, true, ◌&&◌, ◌∙◌, rules, tests}
use Rattle.std.proofs.lemmas.Iterator.{YieldsList-from_slice}
use Rattle.std.proofs.lemmas.Iterator.Consumers.{fold_from_yields_List}
use Rattle.table.specs.Table.{config_allowed}
use Rattle.ranges.proofs.InRange.{folded_all}
use Rattle.ranges.proofs.configs_in_range.Goals as goal

pub returns : goal.returns
returns c =
    let test : ℕ → Bool = config_allowed in
    fold_from_yields_List _ (λ (ok : Bool) (x : ℕ). ok && test x) true _ c.fold.ensures.ran (YieldsList-from_slice c.args.configs.now (cc)) (λ a x b q k. search (rules, tests))
    ∙ folded_all test c.args.configs.now true

use Rattle.std.proofs.Common.{rules, tests, ◌≡◌, ◌∙◌, true, eq-eqb, ne_eqb}
use Rattle.std.proofs.lemmas.Iterator.{YieldsList-from_slice, YieldsList-from_zip}
use Rattle.std.proofs.lemmas.Iterator.Consumers.{fold_from_yields_List}
use Rattle.std.specs.List.{fold, zip}
use Rattle.sets.specs.Sets.{is_search}
use Rattle.sets.proofs.Laws.{agrees, pairs_below}
use Rattle.sets.proofs.right.Goals as goal

pub returns-then-sets-text : goal.returns-then-sets-text
unfolding is_search
returns-then-sets-text c = rw (ne_eqb _ _ c.if-sets-text.true)

pub returns : goal.returns
unfolding is_search
returns c =
    let text = c.args.text.now in
    let sets = c.args.sets.now in
    let folded : c.fold.result ≡ fold agrees true (zip sets text) =
    fold_from_yields_List _ agrees true _ c.fold.ensures.ran (YieldsList-from_zip (YieldsList-from_slice sets (cc)) (YieldsList-from_slice text (cc))) (λ a x b q k. search (rules, tests)) in
    rw (eq-eqb _ _ c.if-sets-text.false) (folded ∙ pairs_below text sets true c.if-sets-text.false)

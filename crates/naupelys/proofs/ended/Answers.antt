use borrow.Author.Tests.{lt-ltb, le-ltb}
use Rattle.lists.proofs.Laws.{when_true, when_false}
use mathlib.Core.Path.{sym, ◌∙◌}
use Rattle.naupelys.proofs.ended.Goals as goal

pub returns-then-number-lt10 : goal.returns-then-number-lt10
returns-then-number-lt10 c =
    let t = c.told-number.ensures in
    (t.0, c.write.ensures ∙ sym (when_true _ _ _ (rw (← t.0) (lt-ltb _ _ c.if-number-lt10.true))), t.1)

pub returns-else-number-lt10 : goal.returns-else-number-lt10
returns-else-number-lt10 c =
    let t = c.told-number.ensures in
    (t.0, sym (when_false _ _ _ (rw (← t.0) (le-ltb _ _ c.if-number-lt10.false))), t.1)

use mathlib.Core.Path.{◌≡◌, sym}
use lib.ListN.{length}
use borrow.Author.Tests.{lt-ltb}
use Rattle.lists.proofs.Laws.{when_true, take_limited}
use Rattle.listen.specs.Reply.{ruling, answer_to}
use native.Mathlib.Omega.{arith}
use borrow.Author.Rules.{rules}
use Rattle.listen.proofs.answer_to.Goals as goal

pub returns-in-Ok : goal.returns-in-Ok
unfolding answer_to ruling
returns-in-Ok c =
    let p = c.args.p in
    let full : length p.content ≡ 22 = search rules in
    let v = rw (take_limited _ p.length 22 p.content c.min-n.ensures (omega arith)) at c.in-Ok.ensures in
    rw (when_true _ _ _ (lt-ltb _ _ c.if-code-ge64.false), sym v)

pub returns-in-Err : goal.returns-in-Err
unfolding answer_to ruling
returns-in-Err c =
    let p = c.args.p in
    let full : length p.content ≡ 22 = search rules in
    let v = rw (take_limited _ p.length 22 p.content c.min-n.ensures (omega arith)) at c.in-Err.ensures in
    rw (when_true _ _ _ (lt-ltb _ _ c.if-code-ge64.false), sym v)

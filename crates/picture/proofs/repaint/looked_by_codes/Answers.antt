use mathlib.Core.Bool.{false}
use native.Mathlib.Omega.{arith}
use borrow.Author.Rules.{rules}
use Rattle.lists.proofs.Made.{made_at}
use Rattle.picture.specs.Repaint.{looks_by_codes}
use Rattle.picture.proofs.repaint.looked_by_codes.Goals as goal

pub returns : goal.returns
returns c cell h =
    let a = c.args in
    rw (← c.eq-same.ensures) (made_at _ _ (looks_by_codes a.before.now.text a.after.now.text c.eq-same.result) (λ i y q k. search rules) _ 80 c.from_fn.ensures.items cell false (omega arith))

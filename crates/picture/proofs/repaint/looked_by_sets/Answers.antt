use mathlib.Core.Bool.{false}
use native.Mathlib.Omega.{arith}
use borrow.Author.Rules.{rules}
use Rattle.lists.proofs.Made.{made_at}
use Rattle.glyphs.specs.Glyphs.{nested_of}
use Rattle.picture.specs.Repaint.{looks_by_sets}
use Rattle.picture.proofs.repaint.looked_by_sets.Goals as goal

pub returns : goal.returns
returns c cell h =
    let a = c.args in
    made_at _ _ (looks_by_sets a.sets.now (nested_of a.before.now.glyphs) (nested_of a.after.now.glyphs)) (λ i y q k. search rules) _ 80 c.from_fn.ensures.items cell false (omega arith)

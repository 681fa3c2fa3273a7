use mathlib.Core.Path.{sym, ◌∙◌}
use borrow.Author.Tests.{eq-eqb, ne_eqb}
use Rattle.lists.proofs.Laws.{when_true, when_false}
use Rattle.picture.proofs.repaint.draw_all.Goals as goal

pub returns-in-Some : goal.returns-in-Some
returns-in-Some c = c.draw_cells.ensures ∙ sym (when_true _ _ _ (eq-eqb _ 640 c.in-Some.ensures.cases.long))

pub returns-in_default : goal.returns-in_default
returns-in_default c = sym (when_false _ _ _ (ne_eqb _ 640 c.in_default.ensures.cases))

use mathlib.Core.Path.{sym}
use borrow.Author.Tests.{ne_eqb}
use Rattle.lists.proofs.Laws.{when_false}
use Rattle.statebytes.specs.State.{state_size, line_with}
use Rattle.statebytes.proofs.Parts.{line_laid}
use Rattle.statebytes.proofs.line.write_line.Goals as goal

pub returns-in-Some : goal.returns-in-Some
returns-in-Some c =
    let h = c.in-Some.ensures.cases in
    line_laid h.same h.long c.lay_line.ensures

pub returns-in_default : goal.returns-in_default
unfolding line_with
returns-in_default c = sym (when_false _ _ _ (ne_eqb _ state_size c.in_default.ensures.cases))

use mathlib.Core.Path.{sym, ◌∙◌, ap}
use borrow.Author.Tests.{ne_eqb}
use Rattle.lists.proofs.Laws.{when_false}
use Rattle.panel.specs.declared.Panel.{Panel}
use Rattle.statebytes.specs.State.{state_size, line_read_of}
use Rattle.statebytes.proofs.Parts.{line_stands}
use Rattle.statebytes.proofs.line.read_line.Goals as goal

pub returns-in-Some : goal.returns-in-Some
returns-in-Some c =
    let h = c.in-Some.ensures.cases in
    line_stands h.same h.long c.line_of.ensures

pub returns-in-None : goal.returns-in-None
unfolding line_read_of
returns-in-None c = ap (λ (p : Panel). p.line) c.powered_on.ensures ∙ sym (when_false _ _ _ (ne_eqb _ state_size c.in-None.ensures.cases))

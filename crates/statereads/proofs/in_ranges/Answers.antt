use mathlib.Core.Path.{sym, ◌∙◌}
use borrow.Author.Tests.{eq-eqb, ne_eqb}
use Rattle.lists.proofs.Laws.{when_true, when_false}
use Rattle.statebytes.specs.State.{state_size, ranges_of}
use Rattle.statereads.proofs.in_ranges.Goals as goal

pub returns-in-Some : goal.returns-in-Some
unfolding ranges_of
returns-in-Some c =
    let h = c.in-Some.ensures.cases in
    rw h.same at c.ranges_of.ensures ∙ sym (when_true _ _ _ (eq-eqb _ state_size h.long))

pub returns-in-None : goal.returns-in-None
unfolding ranges_of
returns-in-None c = sym (when_false _ _ _ (ne_eqb _ state_size c.in-None.ensures.cases))

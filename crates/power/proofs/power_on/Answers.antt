use mathlib.Core.Path.{sym, ◌∙◌}
use lib.ListN.{length}
use Rattle.lists.proofs.Laws.{when_true}
use Rattle.answers.proofs.Checks.{decided_fails, decided_passes, accepted_by}
use Rattle.power.specs.Power.{power_tests}
use Rattle.power.proofs.power_on.Goals as goal

pub returns-in-Err : goal.returns-in-Err
returns-in-Err c =
    let p = c.powered_on-p.ensures in
    let e = sym c.in-Err.ensures in
    ((rw p at c.nothing_taken.ensures) ∙ sym (decided_fails _ e _ _), sym (decided_fails _ e _ _))

pub returns-in-Ok : goal.returns-in-Ok
returns-in-Ok c =
    let a = c.args in
    let tests = power_tests (length a.picture.now) (length a.font.now) in
    let p = c.powered_on-p.ensures in
    let pass = decided_passes tests (sym c.in-Ok.ensures) in
    let drawn = c.draw_all.ensures ∙ when_true _ _ _ pass.0 in
    ((rw p at c.nothing_taken-in-Ok.ensures) ∙ sym (accepted_by tests pass _ _), (rw p at drawn) ∙ sym (accepted_by tests pass _ _))

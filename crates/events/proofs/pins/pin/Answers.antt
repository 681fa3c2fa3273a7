use mathlib.Core.Path.{sym, ◌∙◌}
use Rattle.answers.proofs.Checks.{accepted_by, decided_fails, decided_passes}
use Rattle.events.proofs.pins.pin.Goals as goal

pub returns-in-Err : goal.returns-in-Err
returns-in-Err c = c.nothing_taken.ensures ∙ sym (decided_fails _ (sym (rw c.in_ranges.ensures at c.in-Err.ensures.first)) _ _)

pub returns-in-Ok : goal.returns-in-Ok
returns-in-Ok c =
    rw c.after_event-p.ensures at c.nothing_taken-in-Ok.ensures ∙ sym (accepted_by _ (decided_passes _ (sym (rw c.in_ranges.ensures at c.in-Ok.ensures.first))) _ _)

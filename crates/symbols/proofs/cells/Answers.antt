use mathlib.Core.Path.{sym, ◌∙◌}
use Rattle.answers.proofs.Checks.{accepted_by, decided_fails, decided_passes}
use Rattle.symbols.proofs.cells.Goals as goal

pub returns-in-Err : goal.returns-in-Err
returns-in-Err c =
    let failed = sym (rw c.in_ranges.ensures at c.in-Err.ensures.first) in
    (c.nothing_taken.ensures ∙ sym (decided_fails _ failed _ _), sym (decided_fails _ failed _ _))

pub returns-in-Ok : goal.returns-in-Ok
returns-in-Ok c =
    let q = decided_passes _ (sym (rw c.in_ranges.ensures at c.in-Ok.ensures.first)) in
    let found = c.list_cells-listed.ensures in
    (rw (c.nothing_taken-told.ensures, found.0) (sym (accepted_by _ q _ _)), found.1 ∙ sym (accepted_by _ q _ _))

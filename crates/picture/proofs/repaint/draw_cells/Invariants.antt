use mathlib.Core.Path.{◌≡◌}
use mathlib.Core.Bool.{false}
use Rattle.picture.specs.Draw.{screen_of, paint, cell_drawn}
use Rattle.picture.proofs.repaint.draw_cells.Given as goal

abbrev pub invariant-loop-cell : goal.invariant-loop-cell
invariant-loop-cell l = l.picture ≡ paint (λ c. false) (cell_drawn (screen_of l.s) l.font) l.initial.picture l.cell

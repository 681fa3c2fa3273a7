use Rattle.picture.specs.Draw.{screen_of}
use Rattle.picture.proofs.Turns.{Reached}
use Rattle.picture.proofs.repaint.repaint_cells.Given as goal

abbrev pub invariant-loop-cell : goal.invariant-loop-cell
invariant-loop-cell l = Reached (screen_of l.before) (screen_of l.after) l.font l.initial.picture l.initial.list l.cell l.picture l.list l.listed

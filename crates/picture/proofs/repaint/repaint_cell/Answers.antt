use mathlib.Core.Path.{◌∙◌}
use Rattle.picture.specs.Draw.{screen_of, cell_drawn}
use Rattle.picture.proofs.Changes.{alike_eight}
use Rattle.picture.proofs.Paints.{length_cell}
use Rattle.picture.proofs.Turns.{cell_left, cell_written}
use Rattle.picture.proofs.repaint.repaint_cell.Goals as goal

pub returns-then-eq : goal.returns-then-eq
returns-then-eq c =
    let a = c.args in
    let was = screen_of a.before.now in
    let is = screen_of a.after.now in
    let same = rw (c.draw-was.ensures, c.draw-bytes.ensures) at c.eq.ensures ∙ alike_eight _ _ (length_cell was a.font.now a.cell) (length_cell is a.font.now a.cell) in
    cell_left a.cell (cell_drawn was a.font.now a.cell) (cell_drawn is a.font.now a.cell) a.picture.now _ same c.if-eq.true

pub returns : goal.returns
returns c =
    let a = c.args in
    let was = screen_of a.before.now in
    let is = screen_of a.after.now in
    let same = rw (c.draw-was.ensures, c.draw-bytes.ensures) at c.eq.ensures ∙ alike_eight _ _ (length_cell was a.font.now a.cell) (length_cell is a.font.now a.cell) in
    cell_written a.cell (cell_drawn was a.font.now a.cell) (cell_drawn is a.font.now a.cell) a.picture.now _ same _ c.if-eq.false (rw c.draw-bytes.ensures at c.put_cell.ensures)

use mathlib.Core.Path.{◌≡◌, refl, ◌∙◌}
use native.Mathlib.Omega.{arith}
use Rattle.picture.specs.Draw.{screen_of, paint}
use Rattle.picture.proofs.Paints.{drawn_over}
use Rattle.picture.proofs.Turns.{drawn_turn}
use Rattle.picture.proofs.repaint.draw_cells.Goals as goal

pub loop-cell-init : goal.loop-cell-init
unfolding paint
loop-cell-init c = refl

pub loop-cell-preserved : goal.loop-cell-preserved
loop-cell-preserved c =
    let a = c.args in
    let l = c.loop-cell in
    drawn_turn (screen_of a.s.now) a.font.now a.picture.now l.picture _ _ l.cell c.draw.ensures l.invariant c.put_cell.ensures

pub returns : goal.returns
returns c =
    let a = c.args in
    let l = c.loop-cell in
    let e : l.cell ≡ 80 = omega arith in
    (rw e at l.invariant) ∙ drawn_over (screen_of a.s.now) a.font.now a.picture.now c.told-picture

use Rattle.picture.specs.Draw.{screen_of}
use Rattle.picture.proofs.Turns.{reached_first, reached_over, reached_left, reached_listed, reached_all}
use Rattle.picture.proofs.repaint.repaint_cells.Goals as goal
use Rattle.picture.proofs.repaint.repaint_cells.Goals.{then-seen+then-not-repaint_cell, else-seen, else-seen-via-then-seen+else-not-repaint_cell, else-seen-via-else-seen}

pub loop-cell-init : goal.loop-cell-init
loop-cell-init c =
    let a = c.args in
    reached_first (screen_of a.before) (screen_of a.after) a.font.now a.picture.now a.list.now c.told-picture c.told-list

pub loop-cell-preserved : goal.loop-cell-preserved
loop-cell-preserved c =
    let a = c.args in
    let l = c.loop-cell in
    let was = screen_of a.before in
    let is = screen_of a.after in
    let h = c.loop-cell-test.true in
    elim c.if-seen.branch [
      | then-seen+then-not-repaint_cell w ↦
          rw (w.picture-is, w.list-is, w.listed-is) (reached_listed was is a.font.now a.picture.now a.list.now l.cell l.picture l.list l.listed _ _ h w.repaint_cell.ensures l.invariant w.if-not-repaint_cell.true)
      | else-seen w ↦
          elim w.else-seen.branch [
            | else-seen-via-then-seen+else-not-repaint_cell w' ↦
                rw (w.picture-is, w'.picture-is, w.list-is, w.listed-is) (reached_left was is a.font.now a.picture.now a.list.now l.cell l.picture l.list l.listed _ _ h w'.repaint_cell.ensures l.invariant w'.if-not-repaint_cell.false)
            | else-seen-via-else-seen w' ↦
                rw (w.picture-is, w'.picture-is, w.list-is, w.listed-is) (reached_over was is a.font.now a.picture.now a.list.now l.cell l.picture l.list l.listed h (c.looked-look.ensures.0 l.cell h w'.if-seen.false) l.invariant)
          ]
    ]

pub returns : goal.returns
returns c = let l = c.loop-cell in let a = c.args in
    reached_all (screen_of a.before) (screen_of a.after) a.font.now a.picture.now a.list.now l.cell l.picture l.list l.listed c.loop-cell-test.false l.invariant

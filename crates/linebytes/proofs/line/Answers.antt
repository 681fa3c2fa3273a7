use mathlib.Core.Path.{sym, ◌∙◌}
use lib.ListN.{length}
use Rattle.answers.proofs.Matched.{done_told, not_done}
use Rattle.linecall.specs.Line.{lent}
use Rattle.statebytes.proofs.Theorems.{line_sized}
use Rattle.linebytes.specs.Line.{records_in}
use Rattle.linebytes.proofs.Together.{refused_line, turned_down_line, carried_out_line}
use Rattle.linebytes.proofs.line.Goals as goal

pub returns-in-Done : goal.returns-in-Done
returns-in-Done c =
    let a = c.args in
    let f = a.faults.now in
    let l = lent a.piece.now a.picture.now a.font.now a.list.now a.reply.now (records_in (length f)) in
    let checks = rw (c.in_ranges-in_ranges.ensures, c.records_in.ensures) at c.checked.ensures in
    carried_out_line a.state.now l f (sym checks ∙ c.in-Ok.is) (rw c.read_line.ensures at c.hear-h.ensures) (done_told c.in-Done.is) c.carried_out.ensures

pub returns-in-Err : goal.returns-in-Err
returns-in-Err c =
    let a = c.args in
    let f = a.faults.now in
    let l = lent a.piece.now a.picture.now a.font.now a.list.now a.reply.now (records_in (length f)) in
    let checks = rw (c.in_ranges-in_ranges.ensures, c.records_in.ensures) at c.checked.ensures in
    refused_line a.state.now l f _ (sym checks ∙ c.in-Err.is) c.refused.ensures

pub returns-in_default : goal.returns-in_default
returns-in_default c =
    let a = c.args in
    let f = a.faults.now in
    let l = lent a.piece.now a.picture.now a.font.now a.list.now a.reply.now (records_in (length f)) in
    let checks = rw (c.in_ranges-in_ranges.ensures, c.records_in.ensures) at c.checked.ensures in
    let q = c.hear-h in
    let size = q.type_inv.1.1.0.1.1.0.1.1.0.1.0.1 in
    turned_down_line a.state.now l f (sym checks ∙ c.in-Ok.is) (rw c.read_line.ensures at q.ensures) (not_done _ c.in_default.not-Done) (λ k. (c.slice_known-1.given k).fits) (line_sized q.result.line size) c.turned_down.ensures

use mathlib.Core.Path.{sym, ◌∙◌}
use Rattle.linecall.specs.Line.{lent}
use Rattle.linecall.proofs.Ways.{says_refused, passed_heard}
use Rattle.calls.proofs.LineCalls.{says_followed}
use Rattle.calls.proofs.hear.Goals as goal

pub returns-in-Err : goal.returns-in-Err
returns-in-Err c =
    let a = c.args in
    let l = lent a.piece.now a.picture.now a.font.now a.list.now a.reply.now a.records in
    let checks = rw c.in_ranges-in_ranges.ensures at c.in-Err.ensures in
    let w = says_refused a.p l _ (sym checks) in
    (c.nothing_taken.ensures ∙ w.0, w.1, w.2, w.3)

pub returns-in-Ok : goal.returns-in-Ok
returns-in-Ok c =
    let a = c.args in
    let l = lent a.piece.now a.picture.now a.font.now a.list.now a.reply.now a.records in
    let checks = rw c.in_ranges-in_ranges.ensures at c.in-Ok.ensures in
    let heard = passed_heard a.p l (sym checks) c.hear-h.ensures in
    let w = says_followed a.p l heard.0 heard.1 c.follow-d.ensures in
    (c.together.ensures ∙ w.0, w.1, w.2, w.3)

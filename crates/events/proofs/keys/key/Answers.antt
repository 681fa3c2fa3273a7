use mathlib.Core.Path.{sym}
use Rattle.answers.proofs.Checks.{decided_passes}
use Rattle.events.proofs.KeyCalls.{key_refused, key_accepted_lem}
use Rattle.events.proofs.keys.key.Goals as goal

pub returns-in-Err : goal.returns-in-Err
returns-in-Err c =
    let a = c.args in
    key_refused a.p a.number a.down a.reply.now _ _ (sym (rw c.in_ranges.ensures at c.in-Err.ensures.first)) c.nothing_taken.ensures

pub returns-in-Ok : goal.returns-in-Ok
returns-in-Ok c =
    let a = c.args in
    key_accepted_lem a.p a.number a.down a.reply.now (decided_passes _ (sym (rw c.in_ranges.ensures at c.in-Ok.ensures.first))) _ _ _ _ _ c.after_event-p.ensures c.mask_for-mask.ensures c.report-written.ensures c.nothing_taken-in-Ok.ensures

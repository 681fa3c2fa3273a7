use mathlib.Core.Path.{◌∙◌}
use native.Mathlib.Omega.{arith}
use Rattle.listing.proofs.Laws.{marks_first, hex_turn}
use Rattle.listing.proofs.in_hex.Goals as goal

pub loop-i-init : goal.loop-i-init
loop-i-init c = (c.paste.ensures ∙ marks_first, c.paste.auto.out)

pub loop-i-preserved : goal.loop-i-preserved
loop-i-preserved c =
    let l = c.loop-i in
    let a = c.args.content.now in
    let high = c.digit.ensures in
    let low = c.digit-in-loop-i.ensures in
    (c.paste-in-loop-i.ensures ∙ rw (l.invariant.0, high, low) (hex_turn a l.i (omega arith) (omega arith)), c.paste-in-loop-i.auto.out ∙ l.invariant.1)

use Rattle.std.proofs.Common.{◌∙◌, arith, ne_eqb}
use Rattle.lists.specs.Tests.{when◌then◌else◌}
use Rattle.lists.proofs.Laws.{when_false, take_limited}
use Rattle.replies.specs.Replies.{reply_data}
use Rattle.replies.proofs.reply_to.Goals as goal

pub returns-in-0 : goal.returns-in-0
unfolding reply_data when◌then◌else◌
returns-in-0 c =
    let p = c.args.p in
    c.packet_of.ensures ∙ rw (take_limited _ p.length 22 p.content c.min-n.ensures (omega arith), c.in-0.is)

pub returns-in-35 : goal.returns-in-35
unfolding reply_data when◌then◌else◌
returns-in-35 c =
    let p = c.args.p in
    c.packet_of-in-35.ensures ∙ rw (c.pin_reply.ensures, c.at-first.ensures, take_limited _ p.length 22 p.content c.min-n.ensures (omega arith), c.in-35.is)

pub returns-in_default : goal.returns-in_default
unfolding reply_data
returns-in_default c = grind (arith, when_false, ne_eqb)

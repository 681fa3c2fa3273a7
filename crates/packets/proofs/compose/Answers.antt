use native.Mathlib.Omega.{arith}
use mathlib.Core.Path.{◌≡◌}
use mathlib.Core.Bool.{false}
use Rattle.packets.specs.Packet.{composable}
use Rattle.packets.proofs.Composing.{wrong_buffer, too_long, composes_nothing, composes_all, low_bytes}
use Rattle.packets.proofs.compose.Goals as goal
use Rattle.packets.proofs.compose.Goals.{then-out-ne-REPLY-via-then-out-ne-REPLY, then-out-ne-REPLY-via-else-out-ne-REPLY+then-size-gt-CONTENT}

pub returns-then-out-ne-REPLY : goal.returns-then-out-ne-REPLY
returns-then-out-ne-REPLY c =
    let a = c.args in
    let none : composable a.out.now a.content.now ≡ false = elim c.then-out-ne-REPLY.branch [
      | then-out-ne-REPLY-via-then-out-ne-REPLY w ↦ wrong_buffer a.out.now a.content.now w.if-out-ne-REPLY.true
      | then-out-ne-REPLY-via-else-out-ne-REPLY+then-size-gt-CONTENT w ↦ too_long a.out.now a.content.now w.if-size-gt-CONTENT.true
    ] in
    composes_nothing a.out.now a.content.now a.kind none

pub returns : goal.returns
returns c =
    let a = c.args in
    composes_all a.out.now a.content.now a.kind c.checksum-sum.result c.lay_content.new.out c.paste.new.out _ c.if-out-ne-REPLY.false c.if-size-gt-CONTENT.false c.lay_content.ensures c.checksum-sum.ensures c.paste.ensures
    (cc (low_bytes c.checksum-sum.result (omega arith)))

use Rattle.framing.proofs.Endings.{scanned_packet}
use native.Mathlib.Omega.{arith}
use Rattle.framing.proofs.with_packet.Goals as goal

pub returns : goal.returns
returns c =
    let a = c.args in
    let k = a.counts in
    scanned_packet a.window.now k.taken k.dropped k.checked c.wide-n.result
    c.kept-hold.result c.paste.new.out (omega arith) (omega arith) (omega arith)
    c.kept-hold.ensures c.paste.ensures

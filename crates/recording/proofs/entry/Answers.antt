use Rattle.std.proofs.Common.{arith, sym}
use Rattle.recordings.proofs.Asked.{moves_on}
use Rattle.recording.proofs.entry.Goals as goal

pub loop-f-smaller : goal.loop-f-smaller
loop-f-smaller g c =
    let a = c.args in
    omega (arith, moves_on a.recording.now c.loop-f.place a.at c.in-Some.f (sym c.in-Some.ensures))

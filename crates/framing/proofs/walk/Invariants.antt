use Prim.Native.Nat.{◌+◌, ◌*◌, ◌-◌}
use lib.ListN.{length}
use Rattle.framing.specs.Walk.{Reaches}
use Rattle.framing.proofs.walk.Given as goal

abbrev pub invariant-loop-end : goal.invariant-loop-end
invariant-loop-end l = Reaches l.bytes l.first l.next l.start l.end l.checked

abbrev pub decreases-loop-end : goal.decreases-loop-end
decreases-loop-end l = 2 * (length l.bytes - l.end) + (l.end - l.start)

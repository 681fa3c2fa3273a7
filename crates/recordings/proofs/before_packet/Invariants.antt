use Rattle.std.proofs.Common.{◌≡◌, ◌+◌}
use lib.ListN.{drop}
use Rattle.recordings.specs.Next.{before}
use Rattle.recordings.proofs.before_packet.Given as goal

abbrev pub invariant-loop-i : goal.invariant-loop-i
invariant-loop-i l = before l.bytes ≡ l.i + before (drop l.i l.bytes)

use Rattle.std.proofs.Common.{◌-◌}
use Rattle.recordings.specs.Recording.{entry_end}
use Rattle.recording.proofs.entry.Given as goal

abbrev pub decreases-loop-f : goal.decreases-loop-f
decreases-loop-f g l = entry_end l.recording l.at - l.place

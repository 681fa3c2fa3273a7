use Rattle.std.proofs.Common.{◌≡◌}
use Rattle.recordings.specs.Recording.{entries_of, entries_left}
use Rattle.recordings.specs.Next.{first_packet}
use Rattle.recordings.proofs.seek.Given as goal

abbrev pub invariant-loop-at : goal.invariant-loop-at
invariant-loop-at l =
    (goal.iterator-loop-at).can_next l.at-iterator
    × (goal.iterator-loop-at).is_finite l.at-iterator
    × (first_packet l.recording l.place (entries_left l.at-iterator) ≡ first_packet l.recording l.place (entries_of l.recording 5))

use Rattle.std.proofs.Common.{◌≡◌, ℕ}
use Rattle.recordings.specs.Recording.{entries_of, entries_left, entries_checked}
use Rattle.recordings.proofs.check_entries.Given as goal

abbrev pub invariant-loop-at : goal.invariant-loop-at
invariant-loop-at l =
    (goal.iterator-loop-at).can_next l.at-iterator
    × (goal.iterator-loop-at).is_finite l.at-iterator
    × ((a : ℕ) × (entries_left l.at-iterator ≡ entries_of l.recording a) × (entries_checked l.recording (entries_of l.recording a) ≡ entries_checked l.recording (entries_of l.recording 5)))

use Rattle.std.proofs.Common.{◌∙◌, ap}
use mathlib.Core.Bool.{not}
use Rattle.recordings.specs.Recording.{fault_of}
use Rattle.recordings.proofs.Faults.{too_long, unmarked, unversioned, by_entries}
use Rattle.recordings.proofs.check.Goals as goal

pub returns-then-recording-gt-LONGEST : goal.returns-then-recording-gt-LONGEST
unfolding fault_of
returns-then-recording-gt-LONGEST c =
    let e = too_long c.args.recording.now c.if-recording-gt-LONGEST.true in
    rw (e.0, e.1)

pub returns-then-not-is_marked : goal.returns-then-not-is_marked
unfolding fault_of
returns-then-not-is_marked c =
    let e = unmarked c.args.recording.now c.if-recording-gt-LONGEST.false (ap not (rw c.is_marked.ensures at c.if-not-is_marked.true)) in
    rw (e.0, e.1)

pub returns-then-not-has_version : goal.returns-then-not-has_version
unfolding fault_of
returns-then-not-has_version c =
    let mark = ap not (rw c.is_marked.ensures at c.if-not-is_marked.false) in
    let e = unversioned c.args.recording.now c.if-recording-gt-LONGEST.false mark (ap not (rw c.has_version.ensures at c.if-not-has_version.true)) in
    rw (e.0, e.1)

pub returns : goal.returns
returns c =
    let mark = ap not (rw c.is_marked.ensures at c.if-not-is_marked.false) in
    let version = ap not (rw c.has_version.ensures at c.if-not-has_version.false) in
    let e = by_entries c.args.recording.now c.if-recording-gt-LONGEST.false mark version in
    c.check_entries.ensures ∙ rw (e.0, e.1)

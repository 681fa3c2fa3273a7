use Rattle.std.proofs.Common.{◌∙◌, sym, ap}
use Rattle.recordings.specs.Recording.{entries_left}
use Rattle.recordings.specs.Next.{first_packet}
use Rattle.recordings.proofs.Looks.{found_first, found_later}
use Rattle.recordings.proofs.seek.Goals as goal

pub loop-at-init : goal.loop-at-init
loop-at-init c =
    let n = c.new-at-items.ensures in
    (tt, tt, ap (λ s. first_packet c.args.recording.now c.args.place (entries_left s)) c.into_iter-at-iterator.ensures.into_iter_gives ∙ rw (n.0, n.1))

pub loop-at-preserved : goal.loop-at-preserved
loop-at-preserved c =
    let a = c.args in
    let later = found_later a.recording.now a.place c.in-Some.at (entries_left c.next.new.self) (sym c.in_default.ensures) in
    (tt, tt, sym (ap (first_packet a.recording.now a.place) c.in-Some.ensures.steps ∙ later) ∙ c.loop-at.invariant.2)

pub returns-in-Some-in_entry : goal.returns-in-Some-in_entry
returns-in-Some-in_entry c =
    let a = c.args in
    let first = found_first a.recording.now a.place c.in-Some.at (entries_left c.next.new.self) c.in-Some-in_entry.found (sym c.in-Some-in_entry.ensures) in
    sym (sym c.loop-at.invariant.2 ∙ ap (first_packet a.recording.now a.place) c.in-Some.ensures.steps ∙ first)

pub returns : goal.returns
unfolding first_packet
returns c = rw c.in-None.ensures.steps.0 at c.loop-at.invariant.2

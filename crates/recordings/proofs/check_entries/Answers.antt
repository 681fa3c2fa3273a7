use Rattle.std.proofs.Common.{◌≡◌, ◌<◌, length, arith, ap, sym, ◌∙◌, refl}
use Rattle.std.specs.Prelude.{Ok, Err, []}
use Rattle.recordings.specs.Recording.{entry_end, entries_of, entry_fault, first_fault, first_faulty, fault_of, entries_left, entries_checked}
use Rattle.recordings.proofs.Entries.{first_of_entries, an_entry}
use Rattle.recordings.proofs.Faults.{checked_on, checked_at}
use Rattle.recordings.proofs.check_entries.Goals as goal
use Rattle.recordings.proofs.check_entries.Goals.{In-Some}

-- the entry that comes next
first_lem : (c : In-Some) → (c.in-Some.at ≡ c.loop-at.invariant.2.0) × (c.loop-at.invariant.2.0 < length c.args.recording.now) × (entries_left c.next.new.self ≡ entries_of c.args.recording.now (entry_end c.args.recording.now c.loop-at.invariant.2.0))
first_lem c = first_of_entries _ _ _ _ (sym c.loop-at.invariant.2.1 ∙ c.in-Some.ensures.steps)

pub loop-at-init : goal.loop-at-init
loop-at-init c =
    let n = c.new-at-items.ensures in
    (tt, tt, (5, ap entries_left c.into_iter-at-iterator.ensures.into_iter_gives ∙ rw (n.0, n.1), refl))

pub fault_at-requires : goal.fault_at-requires
fault_at-requires c = omega (arith, first_lem (goal.at.fault_at-requires c).In-Some)

pub loop-at-preserved : goal.loop-at-preserved
loop-at-preserved c =
    let f = first_lem (goal.at.loop-at-preserved c).In-Some in
    let r = c.args.recording.now in
    let a = c.loop-at.invariant.2.0 in
    let h : fault_of (entry_fault r a) a ≡ Ok tt = rw f.0 at (sym c.fault_at.ensures ∙ c.in_ok-fault_at.was) in
    (tt, tt, (entry_end r a, f.2, sym (ap (entries_checked r) (an_entry r a f.1) ∙ checked_on r a _ h) ∙ c.loop-at.invariant.2.2))

pub returns-in_err-fault_at : goal.returns-in_err-fault_at
returns-in_err-fault_at c =
    let f = first_lem (goal.at.returns-in_err-fault_at c).In-Some in
    let r = c.args.recording.now in
    let a = c.loop-at.invariant.2.0 in
    let e = c.in_err-fault_at.field-0.0 in
    let h : fault_of (entry_fault r a) a ≡ Err e = rw f.0 at (sym c.fault_at.ensures ∙ c.in_err-fault_at.was) in
    let g : c.from_residual.result ≡ Err e = grind arith in
    g ∙ sym (sym c.loop-at.invariant.2.2 ∙ ap (entries_checked r) (an_entry r a f.1) ∙ checked_at r a _ e h)

pub returns : goal.returns
unfolding first_fault first_faulty fault_of
returns c =
    let r = c.args.recording.now in
    let i = c.loop-at.invariant.2 in
    let e : entries_of r i.0 ≡ [] = sym i.1 ∙ c.in-None.ensures.steps.0 in
    sym (sym i.2 ∙ ap (entries_checked r) e)

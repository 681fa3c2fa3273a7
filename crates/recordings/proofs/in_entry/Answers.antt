use Rattle.std.proofs.Common.{◌≡◌, ◌-◌, min, ◌∙◌, sym, arith}
use lib.ListN.{drop as dropped, length-drop}
use lib.Seq.{length-take-le}
use Rattle.recordings.specs.Recording.{direction}
use Rattle.recordings.specs.Next.{from_of}
use Rattle.recordings.proofs.Looks.{none_past, panel_entry, one_by, none_by}
use Rattle.recordings.proofs.Parts.{room_from}
use Rattle.recordings.proofs.in_entry.Goals as goal
use Rattle.recordings.proofs.in_entry.Goals.{In_ok-direction, After-before_packet}

direction_is : (c : In_ok-direction) → c.in_ok-direction.direction.now ≡ direction c.args.recording.now c.args.at
direction_is c = grind arith

pub returns-in_err-direction : goal.returns-in_err-direction
returns-in_err-direction c =
    let a = c.args in
    c.from_residual.ensures ∙ sym (none_past a.recording.now a.place a.at (omega (arith, c.in_err-direction.ensures.lookup.3)))

pub returns-then-direction-ne-HOST : goal.returns-then-direction-ne-HOST
returns-then-direction-ne-HOST c =
    let a = c.args in
    sym (panel_entry a.recording.now a.place a.at (λ z. c.if-direction-ne-HOST.true (direction_is (goal.at.returns-then-direction-ne-HOST c).In_ok-direction ∙ z)))

-- it is a host entry, and where the look begins
looks_from : (c : After-before_packet) → (direction c.args.recording.now c.args.at ≡ 0) × (c.min-start.result ≡ min (from_of c.args.place c.args.at) c.behind-end.result)
looks_from c =
    let d : c.in_ok-direction.direction.now ≡ direction c.args.recording.now c.args.at = grind arith in
    (sym d ∙ c.if-direction-ne-HOST.false, omega (arith, c.behind-end.ensures))

pub returns-in_err-i : goal.returns-in_err-i
returns-in_err-i c =
    let a = c.args in
    let r = a.recording.now in
    let from = c.min-start.result in
    let end = c.behind-end in
    let f = looks_from (goal.at.returns-in_err-i c).After-before_packet in
    let n = length-take-le (end.result - from) (dropped from r) (omega (arith, length-drop from r)) in
    c.from_residual-in_err-i.ensures ∙ none_by r a.place a.at end.result from end.ensures f.1 _ (sym c.in_err-i.ensures) f.0 (omega arith)

pub packet_from-requires : goal.packet_from-requires
packet_from-requires c =
    let r = c.args.recording.now in
    let from = c.min-start.result in
    let end = c.behind-end in
    let i = c.in_ok-i.ensures in
    omega (arith, room_from r from (end.result - from) c.in_ok-i.i (sym i.0) i.1, end.ensures)

pub returns : goal.returns
returns c =
    let a = c.args in
    let r = a.recording.now in
    let from = c.min-start.result in
    let end = c.behind-end in
    let i = c.in_ok-i.ensures in
    let f = looks_from (goal.at.returns c).After-before_packet in
    let n = length-take-le (end.result - from) (dropped from r) (omega (arith, length-drop from r)) in
    rw c.packet_from.ensures (one_by r a.place a.at end.result from end.ensures f.1 _ (sym i.0) f.0 (omega arith))

use mathlib.Core.Path.{sym, ◌∙◌, ap}
use native.Mathlib.Omega.{arith}
use Rattle.lists.proofs.Laws.{when_true, when_false}
use Rattle.framing.specs.Scan.{Outcome, after, scanned_of}
use Rattle.framing.proofs.Steps.{settle_wait, settle_found}
use Rattle.framing.proofs.Waits.{waits_for}
use Rattle.framing.proofs.Endings.{scanned_waiting, front_packet}
use Rattle.framing.proofs.ended.Goals as goal

pub with_packet-requires : goal.with_packet-requires
with_packet-requires c =
    let h = front_packet c.args.window.now (c.requires.0 ∙ when_true _ _ _ c.if-found.true) in
    (h.0, h.1, c.requires.1, c.requires.2)

pub returns-then-found : goal.returns-then-found
returns-then-found c =
    let k = c.args.counts in
    c.with_packet.ensures
    ∙ ap (λ (o : Outcome). scanned_of (after k.taken k.dropped k.checked o)) (sym (settle_found c.args.window.now (c.requires.0 ∙ when_true _ _ _ c.if-found.true)))

pub kept-hold-requires : goal.kept-hold-requires
kept-hold-requires c =
    let h = waits_for c.args.window.now (c.requires.0 ∙ when_false _ _ _ c.if-found.false) in
    omega (arith, h.0, h.1)

pub returns : goal.returns
returns c =
    let k = c.args.counts in
    scanned_waiting c.args.window.now k.taken k.dropped k.checked c.kept-hold.result c.kept-hold.ensures
    ∙ ap (λ (o : Outcome). scanned_of (after k.taken k.dropped k.checked o)) (sym (settle_wait c.args.window.now (c.requires.0 ∙ when_false _ _ _ c.if-found.false)))

use mathlib.Core.Path.{◌≡◌, sym, ◌∙◌, ap}
use borrow.Author.Tests.{eq-eqb, ne_eqb}
use Rattle.std.specs.Prelude.{Some}
use Rattle.lists.proofs.Laws.{when_true}
use Rattle.statebytes.specs.State.{state_size, panel_of, line_read_of, body_read_of}
use Rattle.linebytes.proofs.OnState.{on_state_lem, on_none}
use Rattle.naupelys.specs.Calls.{panel_in}
use Rattle.naupelys.proofs.panel_in.Goals as goal

pub returns-then-state-ne-SIZE : goal.returns-then-state-ne-SIZE
unfolding panel_in
returns-then-state-ne-SIZE c = sym (on_none c.args.state.now _ _ (ne_eqb _ state_size c.if-state-ne-SIZE.true))

pub returns : goal.returns
unfolding panel_in line_read_of body_read_of
returns c =
    let e = eq-eqb _ state_size c.if-state-ne-SIZE.false in
    let line = c.read_line.ensures ∙ when_true _ _ _ e in
    let body = c.read_body.ensures ∙ when_true _ _ _ e in
    let read : _ ≡ panel_of _ = λ i. record { line = line i; body = body i } in
    ap Some read ∙ sym (on_state_lem c.args.state.now _ _ e)

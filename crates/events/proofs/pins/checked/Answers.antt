use borrow.Author.Tests.{leb-true}
use Rattle.answers.proofs.Checks.{first_one, one_more, on_pass}
use Rattle.events.proofs.pins.checked.Goals as goal

pub returns : goal.returns
returns c =
    let all = one_more _ _ _ (first_one _ _ c.also-state.ensures) c.also.ensures in
    record { first = all; known = on_pass _ all (λ q. leb-true _ _ q.1.0) }

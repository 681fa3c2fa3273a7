use borrow.Author.Tests.{leb-true}
use Rattle.answers.proofs.Checks.{first_one, one_more, on_pass}
use Rattle.events.proofs.keys.checked.Goals as goal

pub returns : goal.returns
returns c =
    let state = first_one _ _ c.also-state.ensures in
    let all = one_more _ _ _ (one_more _ _ _ (one_more _ _ _ state c.also-room.ensures) c.also-known.ensures) (rw c.as_told.ensures at c.also.ensures) in
    record { first = all; known = on_pass _ all (λ q. leb-true _ _ q.1.1.0) }

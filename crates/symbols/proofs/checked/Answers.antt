use borrow.Author.Tests.{eqb-true, leb-true}
use Rattle.answers.proofs.Checks.{first_one, one_more, on_pass}
use Rattle.symbols.proofs.checked.Goals as goal

pub returns : goal.returns
returns c =
    let all = one_more _ _ _ (one_more _ _ _ (first_one _ _ c.also-state.ensures) c.also-known.ensures) c.also.ensures in
    record { first = all; fits = on_pass _ all (λ q. (leb-true _ _ q.1.0, eqb-true _ _ q.1.1.0)) }

use Rattle.answers.proofs.Checks.{first_one, one_more}
use Rattle.listen.proofs.checked.Goals as goal

pub returns : goal.returns
returns c =
    let e1 = first_one _ _ c.also-state.ensures in
    let e2 = one_more _ _ _ e1 c.also-pieces.ensures in
    let e3 = one_more _ _ _ e2 c.also-picture.ensures in
    let e4 = one_more _ _ _ e3 c.also-font.ensures in
    let e5 = one_more _ _ _ e4 c.also-list.ensures in
    one_more _ _ _ (one_more _ _ _ e5 c.also-replies.ensures) c.also.ensures

use Rattle.answers.proofs.Checks.{first_one, one_more}
use Rattle.power.proofs.checked.Goals as goal

pub returns : goal.returns
returns c = one_more _ _ _ (first_one _ _ c.also-drawn.ensures) c.also.ensures

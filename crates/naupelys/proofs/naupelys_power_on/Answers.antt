use Rattle.answers.specs.Answer.{check_number, numbers_of}
use Rattle.naupelys.proofs.Together.{power_on_refused, power_on_called}
use Rattle.naupelys.proofs.naupelys_power_on.Goals as goal

pub returns-then-state-ne-SIZE : goal.returns-then-state-ne-SIZE
unfolding numbers_of check_number
returns-then-state-ne-SIZE c =
    let a = c.args in
    power_on_refused a.state.now a.picture.now a.font.now c.if-state-ne-SIZE.true c.no_state.ensures

pub returns : goal.returns
returns c =
    let a = c.args in
    let p = c.power_on-on in
    power_on_called a.state.now a.picture.now a.font.now c.if-state-ne-SIZE.false p.result p.ensures c.write.ensures c.told.ensures

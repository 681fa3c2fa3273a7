use Rattle.events.specs.Pins.{pin_said}
use Rattle.naupelys.proofs.Together.{unread, was_read, none_called, called}
use Rattle.naupelys.proofs.naupelys_pin.Goals as goal

pub returns-in-None : goal.returns-in-None
returns-in-None c =
    let a = c.args in
    none_called a.state.now (unread a.state.now c.in-None.ensures) (λ p. pin_said p a.pin a.high) c.no_state.ensures

pub returns-in-Some : goal.returns-in-Some
returns-in-Some c =
    let a = c.args in
    let r = was_read a.state.now c.in-Some.ensures in
    called a.state.now r.0 r.1 (λ p. pin_said p a.pin a.high) c.pin-s.ensures c.ended.ensures

use mathlib.Core.Path.{sym, ◌∙◌, ap}
use Rattle.panel.specs.declared.Panel.{Panel}
use Rattle.events.specs.Keys.{key_said, key_reply}
use Rattle.linebytes.proofs.OnState.{on_state_lem, on_none}
use Rattle.naupelys.proofs.Together.{unread, was_read, none_called, called}
use Rattle.naupelys.proofs.naupelys_key.Goals as goal

pub returns-in-None : goal.returns-in-None
returns-in-None c =
    let a = c.args in
    let no = unread a.state.now c.in-None.ensures in
    (none_called a.state.now no (λ p. key_said p a.key a.down a.reply.now) c.no_state.ensures, sym (on_none a.state.now _ _ no))

pub returns-in-Some : goal.returns-in-Some
returns-in-Some c =
    let a = c.args in
    let k = c.key-s in
    let r = was_read a.state.now c.in-Some.ensures in (
      called a.state.now r.0 r.1 (λ p. key_said p a.key a.down a.reply.now) k.ensures.0 c.ended.ensures,
      k.ensures.1 ∙ ap (λ (p : Panel). key_reply p a.key a.down a.reply.now) r.1 ∙ sym (on_state_lem a.state.now _ _ r.0),
    )

-- For each public function with a promise, any two results that it allows are equal.
use mathlib.Core.Path.{sym, ◌∙◌, ap}
use mathlib.Core.List.{List}
use Prim.Native.Nat.{ℕ}
use Rattle.lists.specs.Promise.{Determined}
use Rattle.lists.proofs.Theorems.{one}
use Rattle.naupelys.proofs.Theorems.{naupelys_power_on_determined}
use Rattle.linebytes.proofs.Theorems.{line_determined}
use Rattle.saidreads.specs.Told.{call_of}
use Rattle.kept.specs.declared.Session.{Session}
use Rattle.kept.specs.Session.{with_call}
use Rattle.session.specs.declared.Desk.{Desk}
use Rattle.session.specs.Calls.{start_in, held_in, PowersDesk, TellsHeld, CallsOn}

pub powered_on_determined : (font : List ℕ) → Determined (PowersDesk font)
powered_on_determined font x y e g =
    let same = naupelys_power_on_determined _ _ font (e.number, x.state, x.picture, x.said) (g.number, y.state, y.picture, y.said) e.on g.on in
    λ i. record {
      state = (same i).1;
      picture = (same i).2;
      font = (e.font ∙ sym g.font) i;
      list = (e.list ∙ sym g.list) i;
      reply = (e.reply ∙ sym g.reply) i;
      faults = (e.faults ∙ sym g.faults) i;
      said = (same i).3;
    }

pub held_determined : (d : Desk) → Determined (TellsHeld d)
held_determined d = one _

-- The session, the state, every buffer and what it says.
pub call_determined : (s : Session) (piece : List ℕ) (d : Desk) → Determined (λ (x : Session × Desk). CallsOn s piece d x.0 x.1)
call_determined s piece d x y e g =
    let a = x.1 in
    let b = y.1 in
    let same = line_determined d.state _ d.faults (e.number, a.state, a.picture, a.list, a.reply, a.faults, a.said) (g.number, b.state, b.picture, b.list, b.reply, b.faults, b.said) e.line g.line in
    let said = e.line.said ∙ sym g.line.said in
    let session = e.session ∙ ap (λ (said : List ℕ). with_call s (start_in s piece) (held_in d.state) (call_of said)) said ∙ sym g.session in
    λ i. (
      session i,
      record {
        state = (same i).1;
        picture = (same i).2;
        font = (e.font ∙ sym g.font) i;
        list = (same i).3;
        reply = (same i).4;
        faults = (same i).5;
        said = (same i).6;
      },
    )

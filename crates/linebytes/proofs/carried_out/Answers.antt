use Prim.Native.Nat.{ℕ}
use mathlib.Core.Path.{◌∙◌, ap}
use Rattle.panel.specs.declared.Body.{Body}
use Rattle.answers.specs.Answer.{numbers_of}
use Rattle.statebytes.specs.State.{state_with}
use Rattle.saidbytes.specs.Says.{said_bytes}
use Rattle.linebytes.proofs.carried_out.Goals as goal

pub returns : goal.returns
returns c =
    let a = c.args in
    let q = c.perform-d in
    let d = rw c.read_body.ensures at q.ensures in
    record {
      number = c.write-2.ensures.0;
      state = c.write.ensures ∙ ap (λ (b : Body). state_with a.state.now (record { line = a.h.line; body = b })) d.body;
      reply = d.replied;
      listed = q.result.listed;
      repaints = d.repaints;
      said = c.write-2.ensures.1 ∙ ap (λ (m : ℕ). said_bytes (numbers_of a.h.answer) a.h.counts m q.result.listed) d.written;
    }

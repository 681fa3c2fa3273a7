use Prim.Native.Nat.{ℕ}
use mathlib.Core.Path.{◌∙◌, ap}
use Rattle.panel.specs.State.{line_unfiled}
use Rattle.statebytes.specs.State.{line_with}
use Rattle.linebytes.proofs.turned_down.Goals as goal

pub returns : goal.returns
returns c =
    let a = c.args in
    record {
      number = c.write.ensures.0;
      state = c.write_line.ensures ∙ ap (λ (u : ℕ). line_with a.state.now (line_unfiled a.h.line u)) c.file-unfiled.ensures.0;
      faults = c.file-unfiled.ensures.1;
      said = c.write.ensures.1;
    }

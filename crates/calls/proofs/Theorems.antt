-- Any two results that the line call's promise allows are equal, the lent buffers and the register included.
use mathlib.Core.Path.{sym, ◌∙◌}
use mathlib.Core.List.{List}
use Prim.Native.Nat.{ℕ}
use Rattle.lists.specs.Promise.{Determined}
use Rattle.panel.specs.declared.Panel.{Panel}
use Rattle.filing.specs.declared.Record.{Record}
use Rattle.answers.specs.declared.Said.{Said}
use Rattle.linecall.specs.Line.{Lent, LineCall}

pub line_determined : (p : Panel) (l : Lent) (register : List Record)
    → Determined (λ (x : Said × List ℕ × List ℕ × List ℕ × List Record). LineCall p l register x.0 x.1 x.2 x.3 x.4)
line_determined p l register x y e f = λ i. ((e.0 ∙ sym f.0) i, (e.1 ∙ sym f.1) i, (e.2 ∙ sym f.2) i, (e.3 ∙ sym f.3) i, (e.4 ∙ sym f.4) i)

-- Any two results that its promise allows are equal: the number, the state, every buffer and what it says.
use Prim.Native.Nat.{ℕ}
use mathlib.Core.Path.{sym, ◌∙◌}
use mathlib.Core.List.{List}
use Rattle.lists.specs.Promise.{Determined}
use Rattle.linecall.specs.Line.{Lent}
use Rattle.linebytes.specs.Line.{LineBytes}

pub line_determined : (state : List ℕ) (l : Lent) (faults : List ℕ)
    → Determined (λ (x : ℕ × List ℕ × List ℕ × List ℕ × List ℕ × List ℕ × List ℕ). LineBytes state l faults x.0 x.1 x.2 x.3 x.4 x.5 x.6)
line_determined state l faults x y e f =
    λ i. (
      (e.number ∙ sym f.number) i,
      (e.state ∙ sym f.state) i,
      (e.picture ∙ sym f.picture) i,
      (e.list ∙ sym f.list) i,
      (e.reply ∙ sym f.reply) i,
      (e.faults ∙ sym f.faults) i,
      (e.said ∙ sym f.said) i,
    )

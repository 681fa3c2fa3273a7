-- Any two results that a call's promise allows are equal: the number, the state, every buffer and what it says.
use Prim.Native.Nat.{ℕ}
use mathlib.Core.Path.{sym, ◌∙◌}
use mathlib.Core.Bool.{Bool}
use mathlib.Core.List.{List}
use Rattle.lists.specs.Promise.{Determined}
use Rattle.linecall.specs.Line.{Lent}
use Rattle.linebytes.specs.Line.{LineBytes}
use Rattle.linebytes.proofs.Theorems as bytes
use Rattle.naupelys.specs.Calls.{PowerOnBytes, KeyBytes, PinBytes, CellsBytes}

pub naupelys_power_on_determined : (state picture font : List ℕ)
    → Determined (λ (x : ℕ × List ℕ × List ℕ × List ℕ). PowerOnBytes state picture font x.0 x.1 x.2 x.3)
naupelys_power_on_determined state picture font x y e f =
    λ i. ((e.number ∙ sym f.number) i, (e.state ∙ sym f.state) i, (e.picture ∙ sym f.picture) i, (e.said ∙ sym f.said) i)

pub naupelys_line_determined : (state : List ℕ) (l : Lent) (faults : List ℕ)
    → Determined (λ (x : ℕ × List ℕ × List ℕ × List ℕ × List ℕ × List ℕ × List ℕ). LineBytes state l faults x.0 x.1 x.2 x.3 x.4 x.5 x.6)
naupelys_line_determined = bytes.line_determined

pub naupelys_key_determined : (state : List ℕ) (key : ℕ) (down : Bool) (reply : List ℕ)
    → Determined (λ (x : ℕ × List ℕ × List ℕ × List ℕ). KeyBytes state key down reply x.0 x.1 x.2 x.3)
naupelys_key_determined state key down reply x y e f =
    λ i. ((e.0.number ∙ sym f.0.number) i, (e.0.state ∙ sym f.0.state) i, (e.1 ∙ sym f.1) i, (e.0.said ∙ sym f.0.said) i)

pub naupelys_pin_determined : (state : List ℕ) (pin : ℕ) (high : Bool) → Determined (λ (x : ℕ × List ℕ × List ℕ). PinBytes state pin high x.0 x.1 x.2)
naupelys_pin_determined state pin high x y e f = λ i. ((e.number ∙ sym f.number) i, (e.state ∙ sym f.state) i, (e.said ∙ sym f.said) i)

pub naupelys_symbol_cells_determined : (state : List ℕ) (glyph : ℕ) (list : List ℕ) → Determined (λ (x : ℕ × List ℕ × List ℕ). CellsBytes state glyph list x.0 x.1 x.2)
naupelys_symbol_cells_determined state glyph list x y e f = λ i. ((e.number ∙ sym f.number) i, (e.cells ∙ sym f.cells) i, (e.said ∙ sym f.said) i)

-- For each line of text, any two texts that its promise allows are equal, the lent buffer included.
use mathlib.Core.List.{List}
use Prim.Native.Nat.{ℕ}
use Rattle.lists.specs.Promise.{Determined}
use Rattle.wording.proofs.Theorems.{filled_determined}
use Rattle.tally.specs.declared.CallTold.{CallTold}
use Rattle.tally.specs.declared.Sums.{Sums}
use Rattle.lines.specs.Lines.{Events, Ends}

pub event_determined : (out : List ℕ) (packet offset : ℕ) (c : CallTold)
    → Determined (λ (x : ℕ × List ℕ). Events out packet offset c x.0 x.1)
event_determined out packet offset c = filled_determined out _ _

pub end_determined : (out : List ℕ) (s : Sums) (held : ℕ) → Determined (λ (x : ℕ × List ℕ). Ends out s held x.0 x.1)
end_determined out s held = filled_determined out _ _

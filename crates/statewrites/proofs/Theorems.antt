-- Any two results that the promise allows are equal, the lent bytes included.
use Prim.Native.Nat.{ℕ}
use mathlib.Core.List.{List}
use Rattle.lists.specs.Promise.{Determined}
use Rattle.lists.proofs.Theorems.{one}
use Rattle.panel.specs.declared.Line.{Line}
use Rattle.panel.specs.declared.Body.{Body}
use Rattle.statebytes.specs.State.{WritesState}

pub write_determined : (state : List ℕ) (l : Line) (b : Body) → Determined (WritesState state l b)
write_determined state l b = one _

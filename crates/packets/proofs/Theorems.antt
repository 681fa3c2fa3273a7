-- What holds of the functions' promises: any two results that the promise of a public function allows are equal, lent buffers
-- included.
use mathlib.Core.List.{List}
use Prim.Native.Nat.{ℕ}
use Rattle.lists.specs.Promise.{Determined}
use Rattle.lists.proofs.Theorems.{one, and}
use Rattle.packets.specs.Packet.{Composes}
use Rattle.packets.specs.Hold.{HoldsNothing}
use Rattle.packets.specs.Judge.{Judges}

pub empty_determined : Determined HoldsNothing
empty_determined = one _

pub judge_determined : (h : List ℕ) → Determined (Judges h)
judge_determined h = one _

pub compose_determined : (out : List ℕ) (kind : ℕ) (content : List ℕ) → Determined (λ (x : ℕ × List ℕ). Composes out kind content x.0 x.1)
compose_determined out kind content = and (one _) (one _)

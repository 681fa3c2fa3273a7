-- For each public function, any two results that its promise allows are equal.
use Prim.Native.Nat.{ℕ}
use mathlib.Core.List.{List}
use Rattle.lists.specs.Promise.{Determined}
use Rattle.lists.proofs.Theorems.{one}
use Rattle.statebytes.specs.State.{ReadsBody, RangesState}

pub read_body_determined : (state : List ℕ) → Determined (ReadsBody state)
read_body_determined state = one _

pub in_ranges_determined : (state : List ℕ) → Determined (RangesState state)
in_ranges_determined state = one _

-- Any two results that the promise allows are equal.
use Prim.Native.Nat.{ℕ}
use Rattle.lists.specs.Promise.{Determined}
use Rattle.lists.proofs.Theorems.{one}
use Rattle.tally.specs.declared.CallTold.{CallTold}
use Rattle.tally.specs.declared.Sums.{Sums}
use Rattle.tally.specs.Sums.{SumsCall}

pub with_call_determined : (s : Sums) (held : ℕ) (c : CallTold) → Determined (SumsCall s held c)
with_call_determined s held c = one _

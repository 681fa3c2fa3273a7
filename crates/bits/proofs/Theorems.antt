-- For each public function, any two results that its promise allows are equal.
use Prim.Native.Nat.{ℕ}
use Rattle.lists.specs.Promise.{Determined}
use Rattle.lists.proofs.Theorems.{one}
use Rattle.bits.specs.Bits.{Asks, SetsBit, Clears}

pub is_on_determined : (mask number : ℕ) → Determined (Asks mask number)
is_on_determined mask number = one _

pub with_bit_determined : (mask number : ℕ) → Determined (SetsBit mask number)
with_bit_determined mask number = one _

pub without_bit_determined : (mask number : ℕ) → Determined (Clears mask number)
without_bit_determined mask number = one _

-- What holds of the reader for C over and above its own promise.
use Prim.Native.Nat.{ℕ}
use mathlib.Core.List.{List}
use Rattle.lists.specs.Promise.{Determined}
use Rattle.lists.proofs.Theorems.{one, and}
use Rattle.hostreads.specs.Reads.{ReadBytes}

-- Any two results that the promise allows are equal, the 26 bytes included.
pub naupelys_read_reply_determined : (bytes : List ℕ) → Determined (λ (x : ℕ × List ℕ). ReadBytes bytes x.0 x.1)
naupelys_read_reply_determined bytes = and (one _) (one _)

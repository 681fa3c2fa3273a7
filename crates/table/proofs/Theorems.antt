-- What holds of the table over and above the functions' own promises.
use Prim.Native.Nat.{ℕ}
use Rattle.lists.specs.Promise.{Determined}
use Rattle.lists.proofs.Theorems.{one}
use Rattle.table.specs.Table.{Looks, Allows}

-- For each public function, any two results that its promise allows are equal.
pub look_determined : (code : ℕ) → Determined (Looks code)
look_determined code = one _

pub config_allowed_determined : (config : ℕ) → Determined (Allows config)
config_allowed_determined config = one _

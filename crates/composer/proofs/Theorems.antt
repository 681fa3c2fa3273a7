-- What holds of composing over and above the function's own promise.
use Prim.Native.Nat.{ℕ}
use mathlib.Core.List.{List}
use Rattle.std.specs.Prelude.{Result}
use Rattle.lists.specs.Promise.{Determined}
use Rattle.lists.proofs.Theorems.{one, and}
use Rattle.composer.specs.declared.Written.{Written}
use Rattle.composer.specs.declared.ComposeError.{ComposeError}
use Rattle.composer.specs.Compose.{ComposesFor}

-- Any two results that the promise allows are equal, the lent buffer included.
pub compose_determined : (packet : List ℕ) (code : ℕ) (d : List ℕ) → Determined (λ (x : Result Written ComposeError × List ℕ). ComposesFor packet code d x.0 x.1)
compose_determined packet code d = and (one _) (one _)

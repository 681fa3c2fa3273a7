-- What holds of the commands as values over and above the functions' own promises.
use Prim.Native.Nat.{ℕ}
use mathlib.Core.List.{List}
use Rattle.std.specs.Prelude.{Result}
use Rattle.lists.specs.Promise.{Determined}
use Rattle.lists.proofs.Theorems.{one, and}
use Rattle.composer.specs.declared.Written.{Written}
use Rattle.composer.specs.declared.ComposeError.{ComposeError}
use Rattle.commands.specs.declared.Command.{Command}
use Rattle.commands.specs.Commands.{ComposesCommand, ReadsBytes}

-- For each public function, any two results that its promise allows are equal, the lent buffer included.
pub compose_determined : (packet : List ℕ) (c : Command) (bytes : List ℕ) → Determined (λ (x : Result Written ComposeError × List ℕ). ComposesCommand packet c bytes x.0 x.1)
compose_determined packet c bytes = and (one _) (one _)

pub bytes_of_determined : (c : Command) (d : List ℕ) → Determined (ReadsBytes c d)
bytes_of_determined c d = one _

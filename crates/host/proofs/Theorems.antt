-- What holds of the composers for C over and above their own promises.
use Prim.Native.Nat.{ℕ}
use mathlib.Core.List.{List}
use Rattle.lists.specs.Promise.{Determined}
use Rattle.lists.proofs.Theorems.{one, and}
use Rattle.commands.specs.declared.Command.{Command}
use Rattle.commands.specs.Commands.{code_of, data_of}
use Rattle.host.specs.Calls.{ComposeBytes, CommandBytes}

-- the packet's buffer, the number and the 16 bytes
abbrev Results : Type 0
Results = List ℕ × (ℕ × List ℕ)

-- Any two results that the promise allows are equal, the lent bytes included.
pub naupelys_compose_determined : (code : ℕ) (d packet : List ℕ) → Determined (λ (x : Results). ComposeBytes code d packet x.1.0 x.0 x.1.1)
naupelys_compose_determined code d packet = and (one _) (and (one _) (one _))

-- So it is of `command`, and of each named composer with its own command.
pub command_determined : (c : Command) (bytes packet : List ℕ) → Determined (λ (x : Results). CommandBytes c bytes packet x.1.0 x.0 x.1.1)
command_determined c bytes packet = naupelys_compose_determined (code_of c) (data_of c bytes) packet

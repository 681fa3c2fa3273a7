-- For each public function, any two results that its promise allows are equal, the lent register included.
use mathlib.Core.List.{List}
use Prim.Native.Nat.{ℕ}
use Rattle.std.specs.Prelude.{Option}
use Rattle.lists.specs.Promise.{Determined}
use Rattle.lists.proofs.Theorems.{one, and}
use Rattle.filing.specs.declared.Record.{Record}
use Rattle.filing.specs.declared.Refusal.{Refusal}
use Rattle.register.specs.Run.{FilesIn, FilesBack}

pub file_determined : (register : List Record) (refusal : Option Refusal) (unfiled : ℕ)
    → Determined (λ (x : ℕ × List Record). FilesIn register refusal unfiled x.0 x.1)
file_determined register refusal unfiled = and (one _) (one _)

pub file_in_determined : (register : List Record) (refusal : Option Refusal) (unfiled : ℕ) → Determined (FilesBack register refusal unfiled)
file_in_determined register refusal unfiled = one _

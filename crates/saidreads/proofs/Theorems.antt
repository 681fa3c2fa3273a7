-- What holds of the reading over and above its own promise.
use Prim.Native.Nat.{ℕ}
use mathlib.Core.Path.{◌≡◌, ap}
use mathlib.Core.List.{List}
use Rattle.lists.specs.Promise.{Determined}
use Rattle.lists.proofs.Theorems.{one}
use Rattle.framing.specs.declared.Counts.{Counts}
use Rattle.answers.specs.declared.Numbers.{Numbers}
use Rattle.saidbytes.specs.Says.{said_parts, said_bytes, SaidFits}
use Rattle.saidbytes.proofs.Theorems.{said_read_back}
use Rattle.saidreads.specs.Told.{call_from, call_of, ReadsSaid}

-- What a call says is what a program reads, where its counts fit their bytes.
pub told_what_is_said : (n : Numbers) (c : Counts) (reply listed : ℕ) → SaidFits c reply listed
    → call_of (said_bytes n c reply listed) ≡ call_from (said_parts n c reply listed)
unfolding call_of
told_what_is_said n c reply listed fits = ap call_from (said_read_back n c reply listed fits)

-- Any two results that the promise allows are equal.
pub told_determined : (said : List ℕ) → Determined (ReadsSaid said)
told_determined said = one _

use mathlib.Core.Path.{◌≡◌}
use lib.ListN.{length, take}
use Rattle.lists.specs.Runs.{front}
use Rattle.registerbytes.specs.Register.{register_size, register_bytes}
use Rattle.registerbytes.proofs.write.Given as goal

abbrev pub invariant-loop-i : goal.invariant-loop-i
invariant-loop-i l = (l.faults ≡ front (register_bytes (take l.i l.r-items)) l.initial.faults) × (length l.faults ≡ register_size)

use mathlib.Core.Path.{◌≡◌}
use lib.ListN.{length, take, replicate}
use Rattle.lists.specs.Runs.{front}
use Rattle.listing.proofs.Laws.{shown}
use Rattle.listing.proofs.in_hex.Given as goal

abbrev pub invariant-loop-i : goal.invariant-loop-i
invariant-loop-i l = (l.form ≡ front (shown (take l.i l.content)) (replicate 55 0)) × (length l.form ≡ 55)

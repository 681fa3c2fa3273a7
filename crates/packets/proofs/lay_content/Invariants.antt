use mathlib.Core.Path.{◌≡◌}
use lib.ListN.{length}
use lib.Seq.{paste}
use Rattle.packets.proofs.lay_content.Given as goal

-- the bytes so far are laid
abbrev pub invariant-loop-i : goal.invariant-loop-i
invariant-loop-i l = record { laid : l.out ≡ paste l.initial.out 2 l.content l.i; kept : length l.out ≡ length l.initial.out }

use Rattle.std.proofs.Common.{ne_eqb, arith}
use Rattle.lists.proofs.Laws.{when_false}
use Rattle.effects.specs.Effects.{live_after}
use Rattle.effects.proofs.live_after.Goals as goal

pub returns-in_default : goal.returns-in_default
unfolding live_after
returns-in_default c = grind (arith, when_false, ne_eqb)

use Rattle.std.proofs.Common.{ne_eqb, arith}
use Rattle.lists.proofs.Laws.{when_false}
use Rattle.effects.specs.Effects.{effect}
use Rattle.effects.proofs.body_after.Goals as goal

pub returns-in_default : goal.returns-in_default
unfolding effect
returns-in_default c = grind (arith, when_false, ne_eqb)

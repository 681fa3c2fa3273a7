use mathlib.Core.Path.{◌∙◌}
use lib.Seq.{take-take}
use native.Mathlib.Omega.{arith}
use Rattle.shapes.specs.Shape.{value}
use Rattle.statereads.proofs.part.Goals as goal

pub returns : goal.returns
unfolding value
returns g c = record { is = c.in-Some.ensures.cases.same ∙ take-take _ _ _ (omega arith) }

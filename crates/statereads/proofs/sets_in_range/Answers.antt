use Rattle.shapes.specs.Shape.{value}
use Rattle.statebytes.specs.State.{panel_of}
use Rattle.statereads.proofs.sets_in_range.Goals as goal

pub returns : goal.returns
unfolding value panel_of
returns c = c.right.ensures

use Rattle.shapes.proofs.Laws.{stands}
use Rattle.statereads.proofs.cursor_of.Goals as goal

pub returns : goal.returns
returns c = search stands depth 20

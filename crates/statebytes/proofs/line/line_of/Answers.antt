use Rattle.shapes.proofs.Laws.{stands}
use Rattle.shapes.specs.Shape.{value, word, Stands}
use Rattle.statebytes.proofs.Parts.{part_stands}
use Rattle.statebytes.proofs.line.line_of.Goals as goal

pub returns : goal.returns
unfolding value
returns c =
    let unfiled : Stands word c.word_of.result c.args.state.now 26 = part_stands c.part-2.ensures (record { is = c.word_of.ensures }) in
    search stands depth 20

use Rattle.shapes.proofs.Laws.{stands}
use Rattle.shapes.specs.Shape.{Stands}
use Rattle.statebytes.specs.Layout.{settings_shape, settings_parts}
use Rattle.statebytes.proofs.Parts.{part_stands}
use Rattle.statereads.proofs.body_of.Goals as goal

pub returns : goal.returns
returns c =
    let live : Stands settings_shape (settings_parts c.settings_of.result) c.args.state.now 30 = part_stands c.part.ensures c.settings_of.ensures in
    let boot : Stands settings_shape (settings_parts c.settings_of-2.result) c.args.state.now 199 = part_stands c.part-2.ensures c.settings_of-2.ensures in
    search stands depth 20

use mathlib.Core.Path.{◌∙◌, ap}
use Rattle.shapes.specs.Shape.{value}
use Rattle.ranges.specs.Ranges.{parts_in_range}
use Rattle.statebytes.specs.Layout.{cursor_from, dials_from, masks_from, settings_shape, settings_from}
use Rattle.statereads.proofs.settings_in_range.Goals as goal

pub returns : goal.returns
unfolding value
returns c =
    let s = settings_from (value settings_shape c.args.bytes.now 0) in
    let cursor = ap cursor_from c.cursor_of.ensures.is in
    let dials = ap dials_from c.dials_of.ensures.is in
    let masks = ap masks_from c.masks_of.ensures.is in
    c.parts_in_range.ensures ∙ (λ i. parts_in_range s.shown.glyphs (cursor i) (dials i) (masks i) s.wires.levels s.wires.configs)

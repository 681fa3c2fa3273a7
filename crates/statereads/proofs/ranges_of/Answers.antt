use mathlib.Core.Path.{◌∙◌, ap}
use Rattle.shapes.specs.Shape.{Value, value}
use Rattle.ranges.specs.Ranges.{settings_in_range, inputs_in_range, in_ranges}
use Rattle.statebytes.specs.Layout.{settings_shape, settings_from, keys_from, pins_from}
use Rattle.statebytes.specs.State.{panel_of}
use Rattle.statebytes.proofs.Parts.{part_value}
use Rattle.statereads.proofs.ranges_of.Goals as goal

pub returns : goal.returns
unfolding value panel_of in_ranges
returns c =
    let keys = ap keys_from c.keys_of.ensures.is in
    let pins = ap pins_from c.pins_of.ensures.is in
    let inputs = c.inputs_in_range-inputs.ensures ∙ (λ i. inputs_in_range (keys i) (pins i)) in
    let test = λ (v : Value settings_shape). settings_in_range (settings_from v) in
    let live = c.settings_in_range-live.ensures ∙ ap test (part_value settings_shape c.part.ensures) in
    let boot = c.settings_in_range-boot.ensures ∙ ap test (part_value settings_shape c.part-2.ensures) in
    rw (c.sets_in_range-sets.ensures, boot, live, inputs)

use native.Mathlib.Omega.{arith}
use borrow.Author.Rules.{rules}
use Rattle.shapes.specs.Shape.{bytes}
use Rattle.shapes.proofs.Laws.{run_lays, then_lays}
use Rattle.statebytes.specs.Layout.{bits_shape, keys_parts, pins_parts}
use Rattle.statewrites.proofs.Parts.{part_lays, lent_lays}
use Rattle.statewrites.proofs.lay_body.Goals as goal

pub returns : goal.returns
unfolding bytes
returns c =
    let a = c.args in
    let live = lent_lays a.state.now 30 c.lay_settings.ensures (omega arith) in
    let keys = part_lays bits_shape {v = keys_parts a.b.keys} c.paste.ensures (tt, (tt, tt)) (omega arith) in
    let pins = part_lays bits_shape {v = pins_parts a.b.pins} c.paste-2.ensures (tt, (tt, tt)) (omega arith) in
    let flash = run_lays {n = 16} c.paste-3.ensures (search rules) in
    let sets = run_lays {n = 80} c.paste-4.ensures (search rules) in
    then_lays (then_lays (then_lays (then_lays (then_lays sets flash) pins) keys) (lent_lays _ 199 c.lay_settings-2.ensures (omega arith))) live

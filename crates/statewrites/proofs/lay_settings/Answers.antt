use native.Mathlib.Omega.{arith}
use borrow.Author.Rules.{rules}
use Rattle.shapes.specs.Shape.{bytes}
use Rattle.shapes.proofs.Laws.{run_lays, then_lays}
use Rattle.statebytes.specs.Layout.{cursor_shape, cursor_parts, dials_shape, dials_parts, masks_shape, masks_parts}
use Rattle.statewrites.proofs.Parts.{part_lays}
use Rattle.statewrites.proofs.lay_settings.Goals as goal

pub returns : goal.returns
unfolding bytes
returns c =
    let s = c.args.s in
    let text = run_lays {n = 80} c.paste.ensures (search rules) in
    let glyphs = run_lays {n = 64} c.paste-2.ensures (search rules) in
    let cursor = part_lays cursor_shape {v = cursor_parts s.cursor} c.paste-3.ensures (tt, tt) (omega arith) in
    let dials = part_lays dials_shape {v = dials_parts s.dials} c.paste-4.ensures (tt, (tt, tt)) (omega arith) in
    let masks = part_lays masks_shape {v = masks_parts s.masks} c.paste-5.ensures (tt, tt) (omega arith) in
    let levels = run_lays {n = 13} c.paste-6.ensures (search rules) in
    let configs = run_lays {n = 5} c.paste-7.ensures (search rules) in
    then_lays (then_lays (then_lays (then_lays (then_lays configs levels) masks) dials) cursor) (then_lays glyphs text)

use Prim.Native.Nat.{◌%◌}
use mathlib.Core.Path.{◌∙◌, sym, ap}
use native.Mathlib.Omega.{arith}
use lib.ListN.{get_or}
use Rattle.glyphs.specs.Glyphs.{nested_of}
use Rattle.glyphs.proofs.Flat.{eight_whole}
use Rattle.picture.specs.Draw.{low_six}
use Rattle.picture.proofs.Codes.{drawn_special, drawn_font}
use Rattle.picture.proofs.Symbols.{glyph_nested}
use Rattle.picture.proofs.draw.draw.Goals as goal

pub returns-then-is_special : goal.returns-then-is_special
returns-then-is_special c =
    let a = c.args in
    let flat = a.s.now.glyphs in
    let code = get_or a.s.now.text a.cell 0 in
    rw c.from.ensures at c.glyph.ensures
    ∙ sym (eight_whole _ (glyph_nested flat (code % 8) (omega arith)))
    ∙ sym (drawn_special (nested_of flat) a.font.now code (sym c.is_special.ensures ∙ c.if-is_special.true))

pub returns-else-is_special : goal.returns-else-is_special
returns-else-is_special c =
    let a = c.args in
    let code = get_or a.s.now.text a.cell 0 in
    c.low_six.ensures
    ∙ ap low_six (rw c.from-else-is_special.ensures at c.eight.ensures)
    ∙ sym (drawn_font (nested_of a.s.now.glyphs) a.font.now code (sym c.is_special.ensures ∙ c.if-is_special.false))

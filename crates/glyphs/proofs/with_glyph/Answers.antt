use Rattle.std.proofs.Common.{◌∙◌, rules}
use Rattle.glyphs.proofs.Flat.{glyph_laid}
use Rattle.glyphs.proofs.with_glyph.Goals as goal

pub returns : goal.returns
returns c =
    let a = c.args in
    c.paste.ensures ∙ rw c.wide.ensures.0 (glyph_laid a.flat a.number a.rows (search rules) (search rules))

use Prim.Native.Nat.{◌-◌}
use mathlib.Core.Path.{sym, ◌∙◌}
use native.Mathlib.Omega.{arith}
use lib.ListN.{get_or}
use mathlib.Core.List.{[]}
use Rattle.glyphs.specs.Glyphs.{nested_of}
use Rattle.picture.specs.Repaint.{glyph_stays}
use Rattle.picture.proofs.Changes.{alike_eight}
use Rattle.picture.proofs.Codes.{stays_named}
use Rattle.picture.proofs.Symbols.{glyph_nested}
use Rattle.picture.proofs.repaint.glyph_stays.Goals as goal

pub returns-then-mark-eq0 : goal.returns-then-mark-eq0
unfolding glyph_stays
returns-then-mark-eq0 c = rw c.if-mark-eq0.true

pub returns : goal.returns
returns c =
    let a = c.args in
    let h = c.requires in
    let n = c.if-mark-eq0.false in
    let before = a.before.now.glyphs in
    let after = a.after.now.glyphs in
    let at = a.mark - 1 in
    let was = rw c.from-number.ensures at c.glyph.ensures in
    let is = rw c.from-number.ensures at c.glyph-2.ensures in
    rw (was, is) at c.eq.ensures
    ∙ alike_eight (get_or (nested_of before) at []) (get_or (nested_of after) at []) (glyph_nested before at (omega arith)) (glyph_nested after at (omega arith))
    ∙ sym (stays_named a.mark (nested_of before) (nested_of after) n)

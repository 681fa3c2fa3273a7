use mathlib.Core.Path.{◌∙◌, sym}
use Rattle.std.proofs.lemmas.Slice.Eq.{bytes_eq-Decides}
use Rattle.glyphs.specs.Glyphs.{nested_of}
use Rattle.picture.specs.Draw.{screen, screen_of}
use Rattle.picture.proofs.Changes.{both}
use Rattle.picture.proofs.Sizes.{screen_again, picture_left, list_left, sized_repaints}
use Rattle.picture.proofs.repaint.repaint.Goals as goal

pub returns-then-same-kept : goal.returns-then-same-kept
returns-then-same-kept c =
    let a = c.args in
    let h = both c.eq-same.result c.eq-kept.result c.if-same-kept.true in
    let glyphs = (bytes_eq-Decides a.before.glyphs a.after.glyphs).0 (sym c.eq-same.ensures ∙ h.0) in
    let text = (bytes_eq-Decides a.before.text a.after.text).0 (sym c.eq-kept.ensures ∙ h.1) in
    screen_again (screen_of a.before) (screen_of a.after) a.font.now a.picture.now a.list.now (λ i. screen (text i) (nested_of (glyphs i)))

pub returns-in_default : goal.returns-in_default
returns-in_default c = let a = c.args in picture_left (screen_of a.before) (screen_of a.after) a.font.now a.picture.now a.list.now c.in_default.ensures.cases

pub returns-in_default-as_mut_array : goal.returns-in_default-as_mut_array
returns-in_default-as_mut_array c =
    let a = c.args in
    let p = c.in-Some.ensures.cases in
    rw p.same (list_left (screen_of a.before) (screen_of a.after) a.font.now a.picture.now a.list.now p.long c.in_default-as_mut_array.ensures.cases)

pub returns : goal.returns
returns c =
    let a = c.args in
    let p = c.in-Some.ensures.cases in
    let l = c.in-Some-as_mut_array.ensures.cases in
    sized_repaints (screen_of a.before) (screen_of a.after) a.font.now a.picture.now a.list.now _ _ _ p.long l.long (rw (p.same, l.same) at c.repaint_cells.ensures)

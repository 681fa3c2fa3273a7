use Prim.Native.Nat.{ℕ}
use mathlib.Core.Path.{◌≡◌, sym, ◌∙◌, ap}
use mathlib.Core.Bool.{true≢false}
use mathlib.Core.List.{List}
use native.Mathlib.Omega.{arith}
use borrow.Author.Tests.{not-false}
use lib.ListN.{length, get_or, length-map}
use Rattle.std.specs.Str.{bytes_eq}
use Rattle.std.proofs.lemmas.Slice.Eq.{bytes_eq-Decides}
use Rattle.glyphs.specs.Glyphs.{nested_of}
use Rattle.sets.specs.Sets.{mark_of, is_search}
use Rattle.sets.proofs.Laws.{searched_at, is_searched}
use Rattle.picture.specs.Repaint.{glyph_stays, code_stays}
use Rattle.picture.proofs.Changes.{both}
use Rattle.picture.proofs.Codes.{stays_alike, mark_alike, searched_marks}
use Rattle.picture.proofs.repaint.looked.Goals as goal

pub looked_by_sets-requires : goal.looked_by_sets-requires
looked_by_sets-requires c cell =
    let a = c.args in
    let asked = both (bytes_eq a.before.now.text a.after.now.text) (is_search a.after.now.text a.sets.now) (sym c.sets_serve.ensures ∙ c.if-sets_serve.true) in
    rw (is_searched a.after.now.text a.sets.now asked.1) (searched_marks a.after.now.text cell)

pub returns-then-sets_serve : goal.returns-then-sets_serve
returns-then-sets_serve c =
    let a = c.args in
    let text = a.after.now.text in
    let asked = both (bytes_eq a.before.now.text text) (is_search text a.sets.now) (sym c.sets_serve.ensures ∙ c.if-sets_serve.true) in
    let kept = (bytes_eq-Decides a.before.now.text text).0 asked.0 in
    let found = is_searched text a.sets.now asked.1 in
    let size : length text ≡ 80 = sym (length-map text mark_of) ∙ sym (ap length found) ∙ c.told-sets in
    let before = nested_of a.before.now.glyphs in
    let after = nested_of a.after.now.glyphs in (
      λ cell h e font.
          let m : get_or a.sets.now cell 0 ≡ mark_of (get_or text cell 0) = ap (λ (l : List ℕ). get_or l cell 0) found ∙ searched_at text cell (omega arith) in
          rw kept (mark_alike before after font (get_or text cell 0) (rw m at (not-false (glyph_stays (get_or a.sets.now cell 0) before after) (sym (c.looked_by_sets.ensures cell h) ∙ e)))),
      λ _. c.looked_by_sets.ensures,
    )

pub returns-else-sets_serve : goal.returns-else-sets_serve
returns-else-sets_serve c =
    let a = c.args in
    let same = bytes_eq a.before.now.glyphs a.after.now.glyphs in (
      λ cell h e font.
          let was = get_or a.before.now.text cell 0 in
          let is = get_or a.after.now.text cell 0 in
          stays_alike _ _ font was is same (λ t. ap nested_of ((bytes_eq-Decides a.before.now.glyphs a.after.now.glyphs).0 t)) (not-false (code_stays was is same) (sym (c.looked_by_codes.ensures cell h) ∙ e)),
      λ t. absurd (true≢false (sym t ∙ sym c.sets_serve.ensures ∙ c.if-sets_serve.false)),
    )

use mathlib.Core.Path.{◌∙◌}
use native.Mathlib.Omega.{arith}
use borrow.Author.Tests.{eq-eqb, ne_eqb}
use lib.ListN.{length-set}
use Rattle.lists.proofs.Rising.{listing_first, listing_over, listing_one}
use Rattle.sets.specs.Sets.{is_in}
use Rattle.symbols.proofs.list_cells.Goals as goal
use Rattle.symbols.proofs.list_cells.Goals.{then-mark-glyph, else-mark-glyph}

pub loop-cell-init : goal.loop-cell-init
loop-cell-init c = (c.requires.1, listing_first (is_in c.args.sets c.args.glyph) c.args.list.now)

pub loop-cell-preserved : goal.loop-cell-preserved
loop-cell-preserved c =
    let a = c.args in
    let l = c.loop-cell in
    elim c.if-mark-glyph.branch [
      | then-mark-glyph w ↦ rw (w.list-is, w.listed-is) (length-set l.list l.listed _ ∙ l.invariant.0, listing_one (is_in a.sets a.glyph) a.list.now l.cell l.list l.listed l.invariant.1 (omega (arith, c.requires.1)) (eq-eqb _ _ w.if-mark-glyph.true))
      | else-mark-glyph w ↦ rw (w.list-is, w.listed-is) (l.invariant.0, listing_over (is_in a.sets a.glyph) a.list.now l.cell l.list l.listed l.invariant.1 (ne_eqb _ _ w.if-mark-glyph.false))
    ]

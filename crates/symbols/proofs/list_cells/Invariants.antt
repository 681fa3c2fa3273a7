use mathlib.Core.Path.{◌≡◌}
use lib.ListN.{length}
use Rattle.lists.proofs.Rising.{Listing}
use Rattle.sets.specs.Sets.{is_in}
use Rattle.symbols.proofs.list_cells.Given as goal

abbrev pub invariant-loop-cell : goal.invariant-loop-cell
invariant-loop-cell l = (length l.list ≡ 80) × Listing (is_in l.fn.sets l.glyph) l.initial.list l.cell l.list l.listed

use Prim.Native.Nat.{ℕ}
use mathlib.Core.Path.{◌∙◌, ap}
use mathlib.Core.List.{List}
use Rattle.lists.proofs.Laws.{take-most}
use Rattle.packets.specs.Hold.{held}
use Rattle.framing.specs.Scan.{scan, scanned_of, piece_most}
use lib.ListN.{length-take}
use native.Mathlib.Omega.{arith}
use Rattle.framing.proofs.scan.Goals as goal

pub slice_bounds-scan_part-end : goal.slice_bounds-scan_part-end
slice_bounds-scan_part-end c = simp length-take (omega (arith, c.at_most-n.ensures))

pub scan_part-requires : goal.scan_part-requires
scan_part-requires c = simp length-take (omega (arith, c.at_most-n.ensures))

pub returns : goal.returns
returns c =
    let a = c.args in
    c.scan_part.ensures ∙ ap (λ (p : List ℕ). scanned_of (scan (held a.hold) p)) (take-most _ piece_most a.piece.now c.at_most-n.ensures)

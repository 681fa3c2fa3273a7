use Prim.Native.Nat.{ℕ, ◌+◌}
use mathlib.Core.Path.{◌≡◌, sym, ◌∙◌, ap}
use mathlib.Core.List.{List}
use lib.ListN.{length, take, length-take}
use Rattle.lists.proofs.Laws.{take_limited, take-most}
use Rattle.packets.specs.Hold.{held}
use Rattle.framing.specs.Scan.{scan, scanned_of}
use Rattle.framing.proofs.Windows.{Window, laid, none_held}
use native.Mathlib.Omega.{arith}
use borrow.Author.Rules.{rules}
use Rattle.framing.proofs.scan_part.Goals as goal
use Rattle.framing.proofs.scan_part.Goals.{After-window-5-1}

-- the window as it is lent
window : (c : After-window-5-1)
    → Window c.args.hold.bytes c.args.piece.now
    (take (c.at_most-count.result + c.at_most-near.result) c.paste-2.new.out)
    c.at_most-count.result c.at_most-near.result
window c =
    let full : length c.args.hold.bytes ≡ 25 = search rules in
    let e = c.at_most-count.ensures in
    laid c.args.hold.bytes _ _ _ _ _ full (omega arith) (omega (arith, c.at_most-near.ensures)) (omega (arith, c.at_most-near.ensures)) c.paste.ensures c.paste-2.ensures

pub returns-then-count-eq0 : goal.returns-then-count-eq0
returns-then-count-eq0 c =
    let g = c.args in
    c.scan_rest.ensures ∙ ap scanned_of (none_held g.hold.bytes g.piece.now g.hold.count c.at_most-count.result c.at_most-count.ensures c.if-count-eq0.true)

pub slice_bounds-paste-end-4 : goal.slice_bounds-paste-end-4
slice_bounds-paste-end-4 c = simp length-take (omega (arith, c.at_most-near.ensures))

pub slice_bounds-scan_window-end : goal.slice_bounds-scan_window-end
slice_bounds-scan_window-end c = sym (window c).size

pub scan_window-requires : goal.scan_window-requires
scan_window-requires c =
    let w = window c in
    (w.behind ∙ take-most _ 25 c.args.piece.now c.at_most-near.ensures, omega (arith, w.size), omega (arith, c.at_most-count.ensures), c.requires)

pub returns : goal.returns
returns c =
    let h = c.args.hold in
    let full : length h.bytes ≡ 25 = search rules in
    let w = laid h.bytes _ _ _ _ _ full (omega arith) (omega (arith, c.at_most-near.ensures)) (omega (arith, c.at_most-near.ensures)) c.paste.ensures c.paste-2.ensures in
    let e : take c.at_most-count.result h.bytes ≡ held h = take_limited _ h.count 25 h.bytes c.at_most-count.ensures (omega arith) in
    c.scan_window.ensures ∙ ap (λ (l : List ℕ). scanned_of (scan l c.args.piece.now)) (w.held ∙ e)

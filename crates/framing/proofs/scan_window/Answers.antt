use Prim.Native.Nat.{◌-◌}
use mathlib.Core.Path.{◌≡◌, sym, ◌∙◌, ap}
use lib.ListN.{take, length-take}
use Rattle.framing.specs.Scan.{after, settle, scan, scanned_of}
use Rattle.framing.specs.Walk.{between}
use Rattle.framing.proofs.Windows.{window_size, to_packet, to_wait, gone, to_rest}
use native.Mathlib.Omega.{arith}
use Rattle.framing.proofs.scan_window.Goals as goal
use Rattle.framing.proofs.scan_window.Goals.{then-w-via-then-w, then-w-via-else-w+then-taken-piece}

pub walk-w-requires : goal.walk-w-requires
walk-w-requires c =
    let g = c.args in
    let p = c.requires in
    (omega arith, omega arith, p.1, omega (arith, window_size g.window.now g.piece.now g.count p.0 p.1))

pub ended-requires : goal.ended-requires
ended-requires c =
    let g = c.args in
    let p = c.requires in
    let v = c.walk-w.ensures.reached in
    (c.walk-w.ensures.judged, simp length-take (omega (arith, v.room)), omega (arith, v.work, v.order, v.within, window_size g.window.now g.piece.now g.count p.0 p.1))

pub returns-then-w : goal.returns-then-w
returns-then-w c =
    let g = c.args in
    let p = c.requires in
    let r = c.walk-w.result in
    let e : scan (take g.count g.window.now) g.piece.now ≡ after (r.end - g.count) r.start r.checked (settle (between r.start r.end g.window.now)) = elim c.then-w.branch [
      | then-w-via-then-w w ↦ to_packet _ _ _ _ p.0 p.1 c.walk-w.ensures w.if-w.true
      | then-w-via-else-w+then-taken-piece w ↦ to_wait _ _ _ _ p.0 p.1 c.walk-w.ensures w.if-w.false w.if-taken-piece.true
    ] in
    c.ended.ensures ∙ ap scanned_of (sym e)

pub overflow_sub-w : goal.overflow_sub-w
overflow_sub-w c =
    let p = c.requires in
    (gone _ _ _ _ p.0 p.1 c.walk-w.ensures c.if-w.false c.if-taken-piece.false).0

pub scan_rest-requires : goal.scan_rest-requires
scan_rest-requires c =
    let g = c.args in
    let p = c.requires in
    let v = c.walk-w.ensures.reached in
    let h = gone g.window.now g.piece.now g.count c.walk-w.result p.0 p.1 c.walk-w.ensures c.if-w.false c.if-taken-piece.false in
    (omega (arith, h.0, v.order), omega (arith, h.0, v.room), h.1, p.3, p.2, omega (arith, v.work, v.order, v.within, window_size g.window.now g.piece.now g.count p.0 p.1))

pub returns : goal.returns
returns c =
    let p = c.requires in
    c.scan_rest.ensures ∙ ap scanned_of (sym (to_rest _ _ _ _ p.0 p.1 c.walk-w.ensures c.if-w.false c.if-taken-piece.false))

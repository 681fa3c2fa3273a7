use mathlib.Core.Path.{sym, ◌∙◌, ap}
use Rattle.framing.specs.Scan.{scanned_of}
use Rattle.framing.proofs.Turns.{on_to_end}
use Rattle.framing.proofs.scan_rest.Goals as goal

pub returns : goal.returns
returns c =
    let g = c.args in
    c.ended.ensures ∙ ap scanned_of (sym (on_to_end _ _ _ _ c.walk-w.ensures g.dropped g.checked))

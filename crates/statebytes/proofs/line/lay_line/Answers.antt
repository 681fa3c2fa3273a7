use Rattle.shapes.proofs.Laws.{run_lays, counter_lays, then_lays}
use borrow.Author.Rules.{rules}
use Rattle.statebytes.proofs.line.lay_line.Goals as goal

pub returns : goal.returns
returns c =
    let count = counter_lays c.lay_byte.ensures in
    let held = run_lays {n = 25} c.paste.ensures (search rules) in
    search then_lays depth 20

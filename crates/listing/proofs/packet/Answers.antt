use mathlib.Core.Path.{sym, ◌∙◌}
use native.Mathlib.Omega.{arith}
use lib.ListN.{take, length-take}
use lib.Seq.{length-take-le}
use Rattle.lists.proofs.Laws.{take-most}
use Rattle.listing.proofs.Laws.{whole_form, some_data, no_data}
use Rattle.listing.proofs.packet.Goals as goal

pub returns-then-n-eq0-clause-told : goal.returns-then-n-eq0-clause-told
returns-then-n-eq0-clause-told c =
    let content = c.args.content.now in
    let n = c.min-n.ensures in
    let z = c.if-n-eq0.true in
    rw (no_data (take 22 content) (length-take 22 content ∙ omega arith)) c.filled.ensures.filled

pub returns-clause-told : goal.returns-clause-told
returns-clause-told c =
    let content = c.args.content.now in
    let n = c.min-n in
    let z = c.if-n-eq0.false in
    let form = c.in_hex-form.ensures in
    let short = length-take-le n.result content (omega (arith, n.ensures)) in
    let whole = whole_form (take n.result content) (omega (arith, n.ensures)) n.result (sym short) in
    let same = take-most n.result 22 content n.ensures in
    let some = some_data (take 22 content) (λ z. omega (arith, length-take 22 content, n.ensures)) in
    rw (some, sym same, sym whole, sym form) c.filled-2.ensures.filled

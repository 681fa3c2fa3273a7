use Rattle.std.proofs.Common.{arith, ◌<◌, ◌+◌, length, sym}
use Rattle.shapes.proofs.Laid.{filled_short, filled_lent}
use Rattle.shapes.proofs.fill.Goals as goal
use Rattle.shapes.proofs.fill.Goals.{else-place-bytes-via-then-place-bytes+else-out-bytes, else-place-bytes-via-else-place-bytes}

pub returns-then-out-bytes : goal.returns-then-out-bytes
returns-then-out-bytes c = let a = c.args in cc (filled_lent a.out.now a.bytes.now a.place (omega arith))

pub returns-else-place-bytes : goal.returns-else-place-bytes
returns-else-place-bytes c =
    let a = c.args in
    let short : length a.bytes.now < a.place + length a.out.now = elim c.else-place-bytes.branch [
      | else-place-bytes-via-then-place-bytes+else-out-bytes w ↦ omega arith
      | else-place-bytes-via-else-place-bytes w ↦ omega arith
    ] in
    sym (filled_short a.out.now a.bytes.now a.place short)

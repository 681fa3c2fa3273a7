use mathlib.Core.Path.{sym, ◌∙◌}
use native.Mathlib.Omega.{arith}
use borrow.Author.Tests.{le-ltb}
use Rattle.bits.proofs.Laws.{asked, byte_off}
use Rattle.bits.proofs.is_on.Goals as goal

pub returns-then-number-lt8 : goal.returns-then-number-lt8
returns-then-number-lt8 c = rw c.bit.ensures (asked c.args.mask c.args.number)

pub returns-else-number-lt8 : goal.returns-else-number-lt8
returns-else-number-lt8 c = le-ltb c.args.number 8 (omega arith) ∙ sym (byte_off c.args.mask c.args.number (omega arith) (omega arith))

use mathlib.Core.Path.{sym}
use native.Mathlib.Omega.{arith}
use Rattle.lists.proofs.Laws.{when_false}
use Rattle.bits.specs.Bits.{without_bit}
use Rattle.bits.proofs.Laws.{and_not_bit, byte_off}
use Rattle.bits.proofs.without_bit.Goals as goal

pub returns-then-number-lt8 : goal.returns-then-number-lt8
returns-then-number-lt8 c = rw c.bit.ensures (and_not_bit c.args.mask c.args.number (omega arith) (omega arith))

pub returns-else-number-lt8 : goal.returns-else-number-lt8
unfolding without_bit
returns-else-number-lt8 c = sym (when_false _ _ _ (byte_off c.args.mask c.args.number (omega arith) (omega arith)))

use mathlib.Core.Path.{sym, ◌∙◌}
use native.Mathlib.Omega.{arith}
use borrow.Author.Tests.{lt-ltb, le-ltb}
use Rattle.lists.proofs.Laws.{when_true, when_false}
use Rattle.bits.proofs.Laws.{or_bit}
use Rattle.bits.proofs.with_bit.Goals as goal

pub returns-then-number-lt8 : goal.returns-then-number-lt8
returns-then-number-lt8 c = rw c.bit.ensures (or_bit c.args.mask c.args.number) ∙ sym (when_true _ _ _ (lt-ltb c.args.number 8 (omega arith)))

pub returns-else-number-lt8 : goal.returns-else-number-lt8
returns-else-number-lt8 c = sym (when_false _ _ _ (le-ltb c.args.number 8 (omega arith)))

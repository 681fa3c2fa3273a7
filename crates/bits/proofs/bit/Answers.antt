use native.Mathlib.Omega.{arith}
use Rattle.bits.proofs.Laws.{shifted}
use Rattle.bits.proofs.bit.Goals as goal

pub returns : goal.returns
returns c = shifted c.args.number (omega arith)

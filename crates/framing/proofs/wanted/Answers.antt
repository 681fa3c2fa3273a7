use mathlib.Core.Path.{sym}
use Rattle.framing.proofs.Waits.{needed_short, needed_part}
use native.Mathlib.Omega.{arith}
use Rattle.framing.proofs.wanted.Goals as goal

pub returns-then-held-lt2 : goal.returns-then-held-lt2
returns-then-held-lt2 c = sym (needed_short _ (omega arith))

pub returns : goal.returns
returns c = omega (arith, c.wide.ensures.0, needed_part c.args.held.now (omega arith))

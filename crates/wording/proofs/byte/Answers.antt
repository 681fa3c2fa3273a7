use mathlib.Core.List.{[], ◌∷◌}
use native.Mathlib.Omega.{arith}
use Rattle.wording.proofs.Laws.{byte_fits, left_out}
use Rattle.wording.proofs.byte.Goals as goal

pub returns-then-out-size-clause-added : goal.returns-then-out-size-clause-added
returns-then-out-size-clause-added c = let a = c.args in left_out a.out.now a.size (a.b ∷ []) (omega arith)

pub returns-clause-added : goal.returns-clause-added
returns-clause-added c = let a = c.args in byte_fits a.out.now a.size a.b (omega arith)

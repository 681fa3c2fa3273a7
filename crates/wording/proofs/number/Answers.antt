use mathlib.Core.Path.{◌∙◌, ap}
use mathlib.Core.List.{List}
use Prim.Native.Nat.{ℕ}
use Rattle.wording.specs.Text.{text, ◌then◌}
use Rattle.wording.proofs.Laws.{one_digit}
use Rattle.wording.proofs.number.Goals as goal

pub returns-then-n-lt10-clause-added : goal.returns-then-n-lt10-clause-added
returns-then-n-lt10-clause-added c =
    let a = c.args in
    c.byte.ensures.added ∙ ap (λ (run : List ℕ). text a.out.now a.size then run) (one_digit a.n c.if-n-lt10.true)

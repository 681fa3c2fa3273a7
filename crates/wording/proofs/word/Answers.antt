use Rattle.std.proofs.Common.{◌∙◌, ap, List, ℕ, ◌+◌, length, arith}
use Rattle.wording.specs.Text.{text}
use Rattle.wording.proofs.Laws.{fits, left_out}
use Rattle.wording.proofs.word.Goals as goal

pub returns-then-out-size-clause-added : goal.returns-then-out-size-clause-added
returns-then-out-size-clause-added c = let a = c.args in left_out a.out.now a.size a.run.now (omega arith)

pub returns-clause-added : goal.returns-clause-added
returns-clause-added c =
    let a = c.args in
    ap (λ (o : List ℕ). text o (a.size + length a.run.now)) c.paste.ensures ∙ fits a.out.now a.size a.run.now (omega arith)

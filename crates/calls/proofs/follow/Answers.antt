use mathlib.Core.Path.{refl, sym, ◌∙◌}
use mathlib.Core.Bool.{true≢false}
use Rattle.answers.proofs.Matched.{done_told, not_done}
use Rattle.calls.proofs.follow.Goals as goal

pub returns-in-Done : goal.returns-in-Done
returns-in-Done c = record { done = λ t. c.perform.ensures; left = λ t. absurd (true≢false (sym (done_told c.in-Done.is) ∙ t)) }

pub returns : goal.returns
returns c = record { done = λ t. absurd (true≢false (sym t ∙ not_done _ c.in_default.not-Done)); left = λ t. (refl, refl, refl, refl) }

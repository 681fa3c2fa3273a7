use mathlib.Core.Path.{◌≡◌, sym, ◌∙◌, ap}
use mathlib.Core.List.{List}
use Prim.Native.Nat.{ℕ}
use native.Mathlib.Omega.{arith}
use lib.ListN.{length}
use borrow.Author.Tests.{eq-eqb, ne_eqb}
use Rattle.lists.proofs.Laws.{when_true, when_false}
use Rattle.shapes.specs.Shape.{laid, Sized, Lays}
use Rattle.shapes.proofs.Laws.{laid_whole, laid_all}
use Rattle.panel.specs.declared.Panel.{Panel}
use Rattle.statebytes.specs.Layout.{line_shape, line_parts, body_shape, body_parts, body_place, panel_shape, panel_parts}
use Rattle.statebytes.specs.State.{state_size, bytes_of, state_with, line_with, WritesLine}
use Rattle.statebytes.proofs.Theorems.{line_sized}
use borrow.Author.Rules.{rules}
use Rattle.statewrites.proofs.write.Goals as goal

-- a body laid behind a line that was written over a state is the panel written
behind : (p : Panel) {b₁ b₂ : List ℕ} (b : List ℕ) → length b ≡ state_size → Sized line_shape (line_parts p.line) → WritesLine b p.line b₁
    → Lays body_shape (body_parts p.body) b₁ body_place b₂ → b₂ ≡ bytes_of p
unfolding line_with bytes_of laid
behind p b e sized w lays =
    let line = w ∙ when_true _ _ _ (eq-eqb _ state_size e) ∙ sym (laid_whole line_shape b 0 (line_parts p.line) sized (omega arith)) in
    lays.is ∙ ap (λ (o : List ℕ). laid body_shape o body_place (body_parts p.body)) line ∙ laid_all panel_shape b (panel_parts p) (sized, lays.sized) e

written : (p : Panel) {o b b₁ b₂ : List ℕ} → o ≡ b → length b ≡ state_size → Sized line_shape (line_parts p.line) → WritesLine o p.line b₁
    → Lays body_shape (body_parts p.body) b₁ body_place b₂ → b₂ ≡ state_with b p
unfolding state_with
written p {o} {b} same e sized w lays = behind p b e sized (rw same at w) lays ∙ sym (when_true _ _ _ (eq-eqb _ state_size e))

pub returns-in-Some : goal.returns-in-Some
returns-in-Some c =
    let a = c.args in
    let h = c.in-Some.ensures.cases in
    written (record { line = a.l; body = a.b }) h.same h.long (line_sized a.l (search rules)) c.write_line.ensures c.lay_body.ensures

pub returns-in_default : goal.returns-in_default
unfolding state_with
returns-in_default c = sym (when_false _ _ _ (ne_eqb _ state_size c.in_default.ensures.cases))

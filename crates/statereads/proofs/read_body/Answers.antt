use mathlib.Core.Path.{◌≡◌, sym, ◌∙◌, ap}
use mathlib.Core.List.{List}
use Prim.Native.Nat.{ℕ}
use borrow.Author.Tests.{eq-eqb, ne_eqb}
use lib.ListN.{length}
use Rattle.lists.proofs.Laws.{when_true, when_false}
use Rattle.shapes.specs.Shape.{value, Stands}
use Rattle.panel.specs.declared.Panel.{Panel}
use Rattle.panel.specs.declared.Body.{Body}
use Rattle.statebytes.specs.Layout.{body_shape, body_parts, body_place, body_from}
use Rattle.statebytes.specs.State.{state_size, panel_of, body_read_of, ReadsBody}
use Rattle.statereads.proofs.read_body.Goals as goal

body_stands : {o b : List ℕ} {r : Body} → o ≡ b → length b ≡ state_size → Stands body_shape (body_parts r) o body_place → ReadsBody b r
unfolding body_read_of panel_of value
body_stands e h s = ap body_from (s.is ∙ ap (λ (x : List ℕ). value body_shape x body_place) e) ∙ sym (when_true _ _ _ (eq-eqb _ state_size h))

pub returns-in-Some : goal.returns-in-Some
returns-in-Some c = let h = c.in-Some.ensures.cases in body_stands h.same h.long c.body_of.ensures

pub returns-in-None : goal.returns-in-None
unfolding body_read_of
returns-in-None c = ap (λ (p : Panel). p.body) c.powered_on.ensures ∙ sym (when_false _ _ _ (ne_eqb _ state_size c.in-None.ensures.cases))

-- A line call put together of its parts: what is heard, and what follows from it.
use Prim.Native.Nat.{ℕ}
use mathlib.Core.Path.{◌≡◌, refl, ◌∙◌, ap}
use mathlib.Core.Bool.{Bool, true, false}
use mathlib.Core.List.{List}
use Rattle.panel.specs.declared.Panel.{Panel}
use Rattle.answers.specs.Answer.{is_done}
use Rattle.listen.specs.declared.Heard.{Heard}
use Rattle.perform.specs.declared.Performed.{Performed}
use Rattle.linecall.specs.Line.{Lent, line_heard, said_with, LineSays}
use Rattle.linecall.proofs.Ways.{reply_once_heard, says_performed, says_left}
use Rattle.calls.specs.Line.{Follows}

module _ (p : Panel) (l : Lent) where
  pub says_followed : {h : Heard} {d : Performed} {reply₁ picture' list' reply' : List ℕ} → h ≡ line_heard p l → reply₁ ≡ reply_once_heard p l
      → Follows p.body h l.picture l.font l.list reply₁ d picture' list' reply'
      → LineSays p l (said_with h d) picture' list' reply'
  says_followed {h} {d} {reply₁} {picture'} {list'} {reply'} e r f = go (is_done h.answer) refl
    where
      go : (t : Bool) → is_done h.answer ≡ t → LineSays p l (said_with h d) picture' list' reply'
      go true t = says_performed p l e r t (f.done t)
      go false t = let w = says_left p l e r t in let q = f.left t in (ap (said_with h) q.0 ∙ w.0, q.1 ∙ w.1, q.2 ∙ w.2, q.3 ∙ w.3)

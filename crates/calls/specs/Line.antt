-- The parts of the call by value.
use Rattle.std.specs.Prelude.{ℕ, ◌≡◌, true, false, List}
use Rattle.panel.specs.declared.Body.{Body}
use Rattle.answers.specs.Answer.{is_done}
use Rattle.listen.specs.declared.Heard.{Heard}
use Rattle.perform.specs.declared.Performed.{Performed}
use Rattle.perform.specs.Perform.{Performs}

-- what `follow` promises of its result and of the three lent buffers
pub record Follows (b : Body) (h : Heard) (picture font list reply : List ℕ) (d : Performed) (picture' list' reply' : List ℕ) : Type 0 where
  pub done : is_done h.answer ≡ true → Performs b h.packet picture font list reply d picture' list' reply'
  pub left : is_done h.answer ≡ false → (d ≡ record { body = b; reply = h.reply; listed = 0 }) × (picture' ≡ picture) × (list' ≡ list) × (reply' ≡ reply)

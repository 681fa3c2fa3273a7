-- What is heard is not refused by number; where it is done, the call's checks passed and nothing is replied yet.
use Prim.Native.Nat.{ℕ, ◌<◌}
use mathlib.Core.Path.{◌≡◌, refl, sym, ◌∙◌, ap}
use mathlib.Core.Bool.{Bool, true, true≢false}
use mathlib.Core.List.{List}
use native.Mathlib.Omega.{arith}
use lib.ListN.{length}
use Rattle.std.specs.Prelude.{Option, Some, None, Result, Ok, Err}
use Rattle.lists.specs.Tests.{when◌then◌else◌, ◌<?◌}
use Rattle.lists.proofs.Laws.{when_either}
use Rattle.packets.specs.declared.Packet.{Packet}
use Rattle.verdict.specs.declared.Objection.{Objection}
use Rattle.panel.specs.declared.Line.{Line}
use Rattle.answers.specs.declared.Answer.{Answer}
use Rattle.answers.specs.declared.Answer.TheVariants.{Waiting, Stray, Done, Refused, CallRefused}
use Rattle.answers.specs.Answer.{numbers_of, is_done}
use Rattle.answers.proofs.Checks.{Pass, either_way, refused_by, accepted_by}
use Rattle.listen.specs.declared.Sizes.{Sizes}
use Rattle.listen.specs.declared.Heard.{Heard}
use Rattle.listen.specs.Reply.{ruling, answer_to, refused_reply}
use Rattle.listen.specs.Listen.{line_tests, answer_in, listened, listened_reply}

-- 3: "done"
pub done_number : (a : Answer) → is_done a ≡ true → (numbers_of a).number ≡ 3
unfolding is_done numbers_of
done_number Waiting e = absurd (true≢false (sym e))
done_number (Stray command) e = absurd (true≢false (sym e))
done_number (Done command) e = refl
done_number (Refused command reason place) e = absurd (true≢false (sym e))
done_number (CallRefused check) e = absurd (true≢false (sym e))

-- a number that is no check's
abbrev below : Answer → Type 0
below a = (numbers_of a).number < 10

ruled_number : (v : Result (Unit {0}) Objection) (code : ℕ) → below (ruling v code)
unfolding ruling numbers_of
ruled_number (Ok _) code = omega arith
ruled_number (Err o) code = omega arith

pub heard_number : (p : Option Packet) → (numbers_of (answer_in p)).number < 10
unfolding answer_in answer_to numbers_of
heard_number None = omega arith
heard_number (Some p) = when_either below (p.kind <? 64) _ _ (λ _. ruled_number _ p.kind) (λ _. omega arith)

-- an error reply is a refused packet's
pub done_unreplied : (a : Answer) (out : List ℕ) → is_done a ≡ true → refused_reply a out ≡ out
unfolding is_done refused_reply numbers_of when◌then◌else◌
done_unreplied Waiting out e = refl
done_unreplied (Stray command) out e = refl
done_unreplied (Done command) out e = refl
done_unreplied (Refused command reason place) out e = absurd (true≢false (sym e))
done_unreplied (CallRefused check) out e = absurd (true≢false (sym e))

module _ (in_range : Bool) (line : Line) (piece : List ℕ) (sizes : Sizes) (reply : List ℕ) (e : is_done (listened in_range line piece sizes reply).answer ≡ true) where
  pub done_passed : Pass (line_tests in_range (length piece) sizes (length reply))
  unfolding is_done listened
  done_passed = either_way (line_tests in_range (length piece) sizes (length reply)) (λ c f. absurd (true≢false (sym e ∙ ap (λ (h : Heard). is_done h.answer) (refused_by f _ _)))) (λ q. q)

  pub done_silent : listened_reply in_range line piece sizes reply ≡ reply
  unfolding listened listened_reply
  done_silent =
      let q = done_passed in
      accepted_by _ q _ _ ∙ done_unreplied _ reply (sym (ap (λ (h : Heard). is_done h.answer) (accepted_by _ q _ _)) ∙ e)

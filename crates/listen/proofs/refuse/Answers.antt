use Prim.Native.Nat.{ℕ}
use mathlib.Core.Path.{◌≡◌, refl, sym}
use mathlib.Core.Bool.{false}
use native.Mathlib.Omega.{arith}
use borrow.Author.Tests.{ne_eqb}
use Rattle.lists.specs.Tests.{◌=?◌}
use Rattle.lists.proofs.Laws.{when_false}
use Rattle.verdict.specs.declared.Reason.{Reason}
use Rattle.answers.specs.declared.Answer.{Answer}
use Rattle.answers.specs.declared.Answer.TheVariants.{Waiting, Stray, Done, Refused, CallRefused}
use Rattle.answers.specs.Answer.{check_number, numbers_of}
use Rattle.answers.proofs.Checks.{from_ten}
use Rattle.listen.specs.Reply.{refused_length, refused_reply}
use Rattle.listen.proofs.refuse.Goals as goal

-- a call refused by number answers 10 or more, and so no 4
others : (a : Answer) → ((command : ℕ) → (reason : Reason) → (place : ℕ) → a ≡ Refused command reason place → ⊥) → (numbers_of a).number =? 4 ≡ false
unfolding numbers_of
others Waiting k = refl
others (Stray command) k = refl
others (Done command) k = refl
others (Refused command reason place) k = absurd (k command reason place refl)
others (CallRefused check) k = ne_eqb (check_number check) 4 (omega (arith, from_ten check))

pub returns-in_default : goal.returns-in_default
unfolding refused_length refused_reply
returns-in_default c = let e = others c.args.answer c.in_default.not-Refused in (sym (when_false _ _ _ e), sym (when_false _ _ _ e))

-- Whether an answer is done, by what a match on it tells.
use mathlib.Core.Path.{◌≡◌, refl}
use mathlib.Core.Bool.{true, false}
use Prim.Native.Nat.{ℕ}
use Rattle.answers.specs.declared.Answer.{Answer}
use Rattle.answers.specs.declared.Answer.TheVariants.{Waiting, Stray, Done, Refused, CallRefused}
use Rattle.answers.specs.Answer.{is_done}

pub done_told : {a : Answer} {command : ℕ} → a ≡ Done command → is_done a ≡ true
unfolding is_done
done_told e = rw e

pub not_done : (a : Answer) → ((command : ℕ) → a ≡ Done command → ⊥) → is_done a ≡ false
unfolding is_done
not_done Waiting k = refl
not_done (Stray command) k = refl
not_done (Done command) k = absurd (k command refl)
not_done (Refused command reason place) k = refl
not_done (CallRefused check) k = refl

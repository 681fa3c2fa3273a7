-- How a call's checks come out: the first that fails answers, or all pass.
use Prim.Native.Nat.{ℕ, ◌<◌, ◌≤◌}
use mathlib.Core.Path.{◌≡◌, refl, sym, ◌∙◌, ap}
use mathlib.Core.Bool.{Bool, true, false}
use mathlib.Core.List.{List, [], ◌∷◌, ◌++◌}
use native.Mathlib.Omega.{arith}
use Rattle.std.specs.Prelude.{Result, Ok, Err, OnOk}
use Rattle.lists.specs.Tests.{when◌then◌else◌}
use Rattle.lists.proofs.Laws.{when_true, when_false}
use Rattle.panel.specs.declared.Panel.{Panel}
use Rattle.answers.specs.declared.Check.{Check}
use Rattle.answers.specs.declared.Check.TheVariants.{StateRange, PieceSize, PictureSize, FontSize, ListSize, ReplySize, RegisterSize, KeyOrPin, KeyAsTold, GlyphNumber}
use Rattle.answers.specs.declared.Answer.TheVariants.{CallRefused}
use Rattle.answers.specs.declared.Said.{Said}
use Rattle.answers.specs.Answer.{check_number, numbers_of, refused_call}
use Rattle.answers.specs.Checks.{Test, test, decided, checked_by, also_checked, Checks}

-- a check fails and those before it pass, so that it is the call's answer
pub data First : List Test → Check → Type 0 where
  here : {c : Check} {t : Bool} {tests : List Test} → t ≡ false → First (test t c ∷ tests) c
  later : {c d : Check} {t : Bool} {tests : List Test} → t ≡ true → First tests c → First (test t d ∷ tests) c

abbrev pub Pass : List Test → Type 0
Pass [] = Unit
Pass (test t _ ∷ tests) = (t ≡ true) × Pass tests

pub refused_by {ℓ} : {A : Type ℓ} {tests : List Test} {c : Check} → First tests c → (refused : Check → A) (accepted : A) → decided tests refused accepted ≡ refused c
unfolding decided
refused_by (here e) refused accepted = when_false _ _ _ e
refused_by (later e f) refused accepted = when_true _ _ _ e ∙ refused_by f refused accepted

pub accepted_by {ℓ} : {A : Type ℓ} (tests : List Test) → Pass tests → (refused : Check → A) (accepted : A) → decided tests refused accepted ≡ accepted
unfolding decided
accepted_by [] p refused accepted = refl
accepted_by (test t _ ∷ tests) p refused accepted = when_true _ _ _ p.0 ∙ accepted_by tests p.1 refused accepted

-- one of the two is so
pub either_way {ℓ} : {P : Type ℓ} (tests : List Test) → ((c : Check) → First tests c → P) → (Pass tests → P) → P
either_way [] f g = g tt
either_way (test true c ∷ tests) f g = either_way tests (λ d h. f d (later refl h)) (λ p. g (refl, p))
either_way (test false c ∷ tests) f g = f c (here refl)

-- the code folds the checks from the first to the last: one more behind those that are decided
pub also_decided : (tests : List Test) (t : Bool) (c : Check) → also_checked (checked_by tests) t c ≡ checked_by (tests ++ test t c ∷ [])
unfolding decided also_checked when◌then◌else◌
also_decided [] true c = refl
also_decided [] false c = refl
also_decided (test true d ∷ tests) t c = also_decided tests t c
also_decided (test false d ∷ tests) t c = refl

pub first_one : (t : Bool) (c : Check) {r : Result (Unit {0}) Check} → Checks (Ok tt) t c r → r ≡ checked_by (test t c ∷ [])
unfolding decided
first_one t c e = e ∙ also_decided [] t c

pub one_more : (tests : List Test) (t : Bool) (c : Check) {s r : Result (Unit {0}) Check} → s ≡ checked_by tests → Checks s t c r → r ≡ checked_by (tests ++ test t c ∷ [])
one_more tests t c e f = f ∙ ap (λ (s : Result (Unit {0}) Check). also_checked s t c) e ∙ also_decided tests t c

-- how checks that come out one way or the other decide a call
pub decided_fails {ℓ} : {A : Type ℓ} (tests : List Test) {c : Check} → checked_by tests ≡ Err c → (refused : Check → A) (accepted : A) → decided tests refused accepted ≡ refused c
decided_fails tests {c} e refused accepted =
    either_way tests
    (λ d f. let same : Err d ≡ Err c = sym (refused_by f Err (Ok tt)) ∙ e in refused_by f refused accepted ∙ ap refused (cc))
    (λ p. let apart : Ok tt ≡ Err c = sym (accepted_by tests p Err (Ok tt)) ∙ e in cc)

pub decided_passes : (tests : List Test) → checked_by tests ≡ Ok tt → Pass tests
decided_passes tests e =
    either_way tests (λ d f. let apart : Err d ≡ Ok tt = sym (refused_by f Err (Ok tt)) ∙ e in absurd (cc)) (λ p. p)

-- what follows where checks pass holds if they come out so
pub on_pass : (tests : List Test) {P : Type 0} {r : Result (Unit {0}) Check} → r ≡ checked_by tests → (Pass tests → P) → OnOk r P
on_pass tests {r = Ok _} e f = f (decided_passes tests (sym e))
on_pass tests {r = Err c} e f = tt

-- a call refused by number answers 10 or more
pub from_ten : (c : Check) → 10 ≤ check_number c
unfolding check_number
from_ten StateRange = omega arith
from_ten PieceSize = omega arith
from_ten PictureSize = omega arith
from_ten FontSize = omega arith
from_ten ListSize = omega arith
from_ten ReplySize = omega arith
from_ten RegisterSize = omega arith
from_ten KeyOrPin = omega arith
from_ten KeyAsTold = omega arith
from_ten GlyphNumber = omega arith

pub refused_from_ten : (c : Check) → 10 ≤ (numbers_of (CallRefused c)).number
unfolding numbers_of
refused_from_ten c = from_ten c

-- "The lowest number that applies is given": the numbers of a call's checks rise
abbrev pub Rising : ℕ → List Test → Type 0
Rising n [] = Unit
Rising n (test _ c ∷ tests) = (n < check_number c) × Rising (check_number c) tests

-- a call that is decided by its checks
module _ (p : Panel) (tests : List Test) (accepted : Said) (r : Said) (e : r ≡ decided tests (refused_call p) accepted) where
  pub call_keeps : (P : Panel → Type 0) → (Pass tests → P accepted.panel) → P p → P r.panel
  call_keeps P g h = either_way tests (λ c f. rw (e ∙ refused_by f _ _) h) (λ q. rw (e ∙ accepted_by tests q _ _) (g q))

  pub call_refused : (numbers_of accepted.answer).number < 10 → 10 ≤ (numbers_of r.answer).number → (c : Check) × First tests c
  call_refused l h = either_way tests (λ c f. (c, f)) (λ q. absurd (omega (arith, rw (e ∙ accepted_by tests q _ _) at h)))

  pub call_unchanged : {c : Check} → First tests c → r ≡ refused_call p c
  call_unchanged f = e ∙ refused_by f _ _

  pub call_passed : (numbers_of r.answer).number < 10 → Pass tests
  call_passed h = either_way tests (λ c f. absurd (omega (arith, refused_from_ten c, rw (e ∙ refused_by f _ _) at h))) (λ q. q)

-- A call that is refused by number is refused by the check that its answer names.
use Prim.Native.Nat.{◌<◌}
use mathlib.Core.Path.{◌≡◌, sym, ◌∙◌, ap}
use mathlib.Core.List.{List}
use Rattle.panel.specs.declared.Panel.{Panel}
use Rattle.answers.specs.declared.Check.{Check}
use Rattle.answers.specs.declared.Answer.TheVariants.{CallRefused}
use Rattle.answers.specs.declared.Said.{Said}
use Rattle.answers.specs.Answer.{numbers_of, refused_call}
use Rattle.answers.specs.Checks.{Test, decided}
use Rattle.answers.proofs.Checks.{First, refused_from_ten, call_refused, call_unchanged}

same_check : {c d : Check} → CallRefused c ≡ CallRefused d → c ≡ d
same_check e = cc

module _ (p : Panel) (tests : List Test) (accepted r : Said) (e : r ≡ decided tests (refused_call p) accepted) (l : (numbers_of accepted.answer).number < 10) where
  pub refused_first : (check : Check) → r.answer ≡ CallRefused check → First tests check
  refused_first check a =
      let f = call_refused p tests accepted r e l (rw a (refused_from_ten check)) in
      rw (same_check (sym (ap (λ (s : Said). s.answer) (call_unchanged p tests accepted r e f.1)) ∙ a)) at f.1

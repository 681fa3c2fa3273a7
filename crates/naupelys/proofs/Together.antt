-- How a call over bytes comes out, put together from the promises of what it calls.
use Prim.Native.Nat.{ℕ}
use mathlib.Core.Path.{◌≡◌, refl, sym, ◌∙◌, ap}
use mathlib.Core.Bool.{Bool, true, false}
use mathlib.Core.List.{List}
use lib.ListN.{length}
use borrow.Author.Tests.{eq-eqb, ne_eqb}
use Rattle.std.specs.Prelude.{Some, None}
use Rattle.lists.specs.Tests.{when◌then◌else◌, ◌<?◌}
use Rattle.lists.proofs.Laws.{when_true, when_false}
use Rattle.panel.specs.declared.Panel.{Panel}
use Rattle.panel.specs.State.{powered_on}
use Rattle.answers.specs.declared.Check.TheVariants.{StateRange}
use Rattle.answers.specs.declared.Said.{Said}
use Rattle.answers.specs.Answer.{check_number, numbers_of, refused_call, accepted_call}
use Rattle.answers.proofs.Checks.{either_way, refused_by, accepted_by}
use Rattle.power.specs.Power.{PowersOn, power_tests, power_said}
use Rattle.statebytes.specs.State.{state_size, bytes_of, panel_of, is_state, on_state, state_with, WritesState}
use Rattle.saidbytes.specs.Says.{number_of, bytes_said, no_state, SaysRefused}
use Rattle.linebytes.specs.Line.{state_after}
use Rattle.linebytes.proofs.OnState.{on_state_lem, on_none}
use Rattle.naupelys.specs.Calls.{panel_in, PowerOnBytes, OnBytes, Told, EndsCall}

with_state_lem : (state : List ℕ) (p : Panel) → is_state state ≡ true → state_with state p ≡ bytes_of p
unfolding state_with
with_state_lem state p e = when_true _ _ _ e

module _ (state : List ℕ) where
  pub unread : None ≡ panel_in state → is_state state ≡ false
  unfolding panel_in
  unread e = go (is_state state) refl
    where
      go : (t : Bool) → is_state state ≡ t → is_state state ≡ false
      go true t = let z : None ≡ Some (panel_of state) = e ∙ on_state_lem state None Some t in absurd (cc)
      go false t = t

  pub was_read : {p : Panel} → Some p ≡ panel_in state → (is_state state ≡ true) × (p ≡ panel_of state)
  unfolding panel_in
  was_read {p} e = go (is_state state) refl
    where
      go : (t : Bool) → is_state state ≡ t → (is_state state ≡ true) × (p ≡ panel_of state)
      go true t = let z : Some p ≡ Some (panel_of state) = e ∙ on_state_lem state None Some t in (t, cc)
      go false t = let z : Some p ≡ None = e ∙ on_none state None Some t in absurd (cc)

  -- a call on bytes that are no state
  pub none_called : is_state state ≡ false → (said_on : Panel → Said) {number : ℕ} {said' : List ℕ} → SaysRefused StateRange number said' → OnBytes said_on state number state said'
  unfolding numbers_of check_number
  none_called none said_on says =
      record { number = says.0 ∙ sym (on_none state _ _ none); state = sym (on_none state _ _ none); said = says.1 ∙ sym (on_none state _ _ none) }

  -- a call on the panel that was read
  module _ (is : is_state state ≡ true) {p : Panel} (q : p ≡ panel_of state) (said_on : Panel → Said) {s : Said} (e : s ≡ said_on p) where
    on_panel : s ≡ said_on (panel_of state)
    on_panel = e ∙ ap said_on q

    pub told_on : {number : ℕ} {said' : List ℕ} → Told s number said' → (number ≡ on_state state 10 (λ (p : Panel). number_of (said_on p))) × (said' ≡ on_state state no_state (λ (p : Panel). bytes_said (said_on p)))
    told_on w = (w.0 ∙ ap number_of on_panel ∙ sym (on_state_lem state _ _ is), w.1 ∙ ap bytes_said on_panel ∙ sym (on_state_lem state _ _ is))

    pub called : {number : ℕ} {state' said' : List ℕ} → EndsCall state s number state' said' → OnBytes said_on state number state' said'
    unfolding state_after
    called w =
        let told = told_on (w.0, w.2) in
        let kept = ap (λ (b : List ℕ). when number_of s <? 10 then b else state) (with_state_lem state s.panel is) in
        record { number = told.0; state = w.1 ∙ kept ∙ ap (state_after state) on_panel ∙ sym (on_state_lem state _ _ is); said = told.1 }

-- power-on returns the power-on state, refused or not
pub power_panel : (picture font : List ℕ) → (power_said picture font).panel ≡ powered_on
power_panel picture font =
    let tests = power_tests (length picture) (length font) in
    either_way tests (λ c f. ap (λ (s : Said). s.panel) (refused_by f (refused_call powered_on) (accepted_call powered_on 0)))
    (λ q. ap (λ (s : Said). s.panel) (accepted_by tests q (refused_call powered_on) (accepted_call powered_on 0)))

module _ (state picture font : List ℕ) {number : ℕ} {said' : List ℕ} where
  pub power_on_refused : (length state ≡ state_size → ⊥) → (number ≡ 10) × (said' ≡ no_state) → PowerOnBytes state picture font number state picture said'
  power_on_refused other told =
      let e = ne_eqb (length state) state_size other in
      record { number = told.0 ∙ sym (when_false _ _ _ e); state = sym (when_false _ _ _ e); picture = sym (when_false _ _ _ e); said = told.1 ∙ sym (when_false _ _ _ e) }

  pub power_on_called : length state ≡ state_size → (s : Said) {state' picture' : List ℕ} → PowersOn picture font s picture' → WritesState state s.panel.line s.panel.body state' → Told s number said'
      → PowerOnBytes state picture font number state' picture' said'
  power_on_called size s h w t =
      let e = eq-eqb (length state) state_size size in
      let q = h.0 in
      record {
        number = t.0 ∙ ap number_of q ∙ sym (when_true _ _ _ e);
        state = w ∙ with_state_lem state s.panel e ∙ ap (λ (u : Said). bytes_of u.panel) q ∙ ap bytes_of (power_panel picture font) ∙ sym (when_true _ _ _ e);
        picture = h.1 ∙ sym (when_true _ _ _ e);
        said = t.1 ∙ ap bytes_said q ∙ sym (when_true _ _ _ e);
      }

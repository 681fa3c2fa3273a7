-- What a key call comes to: refused by the first check that fails, or accepted, with a report or without.
use Prim.Native.Nat.{ℕ, ◌+◌, ◌<◌}
use mathlib.Core.Path.{◌≡◌, sym, ◌∙◌, ap}
use mathlib.Core.Bool.{Bool, true}
use mathlib.Core.List.{List, [], ◌∷◌}
use native.Mathlib.Omega.{arith}
use lib.ListN.{length}
use borrow.Author.Tests.{eqb-true, leb-true}
use Rattle.lists.specs.Tests.{when◌then◌else◌}
use Rattle.lists.specs.Runs.{front}
use Rattle.lists.proofs.Laws.{when_true}
use Rattle.bits.specs.Bits.{is_on}
use Rattle.packets.specs.Packet.{composable, composed_length, composed}
use Rattle.packets.proofs.Composing.{fitting}
use Rattle.panel.specs.declared.Keys.{Keys}
use Rattle.panel.specs.declared.Panel.{Panel}
use Rattle.panel.specs.State.{with_keys, with_body}
use Rattle.ranges.specs.Ranges.{in_ranges}
use Rattle.ranges.proofs.InRange.{panel_parts_lem, panel_whole, keys_parts_lem, keys_whole}
use Rattle.answers.specs.declared.Check.{Check}
use Rattle.std.specs.Prelude.{Err}
use Rattle.answers.specs.declared.Said.{Said}
use Rattle.answers.specs.Answer.{numbers_of, refused_call, accepted_call}
use Rattle.answers.specs.Checks.{Test, checked_by}
use Rattle.answers.proofs.Checks.{Pass, decided_fails, accepted_by, call_passed}
use Rattle.events.specs.Keys.{key_event, mask_for, report_code, report_bytes, key_tests, reports, key_accepted, ReportsBy, Presses}
use Rattle.events.proofs.Events.{event_in_range}

-- the checks of a call
abbrev pub key_checks : Panel → ℕ → Bool → List ℕ → List Test
key_checks p number down reply = key_tests (in_ranges p) (length reply) number down p.body.keys

module _ (p : Panel) (number : ℕ) (down : Bool) (reply : List ℕ) where
  pub key_refused : (check : Check) (r : Said) → checked_by (key_checks p number down reply) ≡ Err check → r ≡ refused_call p check → Presses p number down reply r reply
  key_refused check r f e =
      (e ∙ sym (decided_fails (key_checks p number down reply) f _ _), sym (decided_fails (key_checks p number down reply) f _ _))

  module _ (passed : Pass (key_checks p number down reply)) where
    pub key_number : number < 6
    key_number = omega (arith, leb-true number 5 passed.1.1.0)

    composes : composable reply (report_code down number ∷ []) ≡ true
    composes = fitting reply (report_code down number ∷ []) (eqb-true _ _ passed.1.0) (omega arith)

    -- the event and its report, put together
    pub key_accepted_lem : (keys : Keys) (mask written : ℕ) (reply' : List ℕ) (r : Said)
        → keys ≡ key_event down number p.body.keys → mask ≡ mask_for down p.body.live.masks
        → ReportsBy mask number down reply written reply' → r ≡ accepted_call (with_body p (with_keys p.body keys)) written → Presses p number down reply r reply'
    unfolding composed_length composed
    key_accepted_lem keys mask written reply' r ek em w er =
        let n : written ≡ (when reports p number down then 5 else 0) =
        w.0 ∙ (λ i. when is_on (em i) number then when_true _ (length (report_code down number ∷ []) + 4) 0 composes i else 0) in
        let o : reply' ≡ (when reports p number down then front (report_bytes down number) reply else reply) =
        w.1 ∙ (λ i. when is_on (em i) number then when_true _ (front (report_bytes down number) reply) reply composes i else reply) in
        (er ∙ (λ i. accepted_call (with_body p (with_keys p.body (ek i))) (n i)) ∙ sym (accepted_by _ passed _ _), o ∙ sym (accepted_by _ passed _ _))

    pub key_in_range : in_ranges (key_accepted p number down).panel ≡ true
    key_in_range =
        let h = panel_parts_lem p passed.0 in
        let k = event_in_range number key_number p.body.keys (keys_parts_lem _ h.keys) down in
        panel_whole _ record { count = h.count; live = h.live; boot = h.boot; keys = keys_whole _ k; pins = h.pins; sets = h.sets }

  -- in a call that is not refused the event happened
  pub key_happened : (r : Said) (reply' : List ℕ) → Presses p number down reply r reply' → (numbers_of r.answer).number < 10
      → r.panel.body.keys ≡ key_event down number p.body.keys
  key_happened r reply' pressed l =
      let passed = call_passed p (key_checks p number down reply) (key_accepted p number down) r pressed.0 l in
      ap (λ (s : Said). s.panel.body.keys) (pressed.0 ∙ accepted_by _ passed _ _)

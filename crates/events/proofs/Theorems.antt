-- What holds of key and pin calls, over and above the functions' own promises.
use Prim.Native.Nat.{ℕ, ◌<◌}
use mathlib.Core.Path.{◌≡◌, ◌∙◌}
use mathlib.Core.Bool.{Bool, true, false}
use mathlib.Core.List.{List}
use native.Mathlib.Omega.{arith}
use borrow.Author.Tests.{leb-true}
use Rattle.lists.specs.Promise.{Determined}
use Rattle.lists.proofs.Theorems.{one, and}
use Rattle.bits.specs.Bits.{is_on}
use Rattle.panel.specs.declared.Keys.{Keys}
use Rattle.panel.specs.declared.Panel.{Panel}
use Rattle.ranges.specs.Ranges.{in_ranges}
use Rattle.ranges.proofs.InRange.{panel_parts_lem, panel_whole, pins_parts_lem, pins_whole}
use Rattle.answers.specs.declared.Check.{Check}
use Rattle.answers.specs.declared.Answer.TheVariants.{CallRefused}
use Rattle.answers.specs.declared.Said.{Said}
use Rattle.answers.specs.Answer.{check_number, numbers_of, refused_call}
use Rattle.answers.proofs.Checks.{Rising, refused_by, call_keeps, call_unchanged}
use Rattle.events.specs.Keys.{key_tests, key_accepted, Presses}
use Rattle.events.specs.Pins.{pin_tests, pin_accepted, Moves}
use Rattle.events.proofs.Events.{moved_in_range, press_follows, release_follows, others_stay}
use Rattle.events.proofs.KeyCalls.{key_checks, key_in_range, key_happened}
use Rattle.answers.proofs.Refusals.{refused_first}

-- The numbers of a key call's checks rise, so that the first that fails is the lowest that applies.
pub key_checks_rise : (in_range : Bool) (reply number : ℕ) (down : Bool) (keys : Keys) → Rising 0 (key_tests in_range reply number down keys)
unfolding check_number
key_checks_rise in_range reply number down keys = (omega arith, (omega arith, (omega arith, (omega arith, tt))))

-- So do those of a pin call's checks.
pub pin_checks_rise : (in_range : Bool) (number : ℕ) → Rising 0 (pin_tests in_range number)
unfolding check_number
pin_checks_rise in_range number = (omega arith, (omega arith, tt))

module _ (p : Panel) (number : ℕ) (down : Bool) (reply : List ℕ) (r : Said) (reply' : List ℕ) (pressed : Presses p number down reply r reply') where
  -- A key call takes a state in its ranges to one in its ranges.
  pub key_stays_in_range : in_ranges p ≡ true → in_ranges r.panel ≡ true
  key_stays_in_range h =
      call_keeps p (key_checks p number down reply) (key_accepted p number down) r pressed.0 (λ (q : Panel). in_ranges q ≡ true) (λ q. key_in_range p number down reply q) h

  -- A key call that is refused by number leaves the panel and the reply buffer as they came, and counts nothing.
  pub refused_key_changes_nothing : (check : Check) → r.answer ≡ CallRefused check → (r ≡ refused_call p check) × (reply' ≡ reply)
  unfolding numbers_of
  refused_key_changes_nothing check a =
      let f = refused_first p (key_checks p number down reply) (key_accepted p number down) r pressed.0 (omega arith) check a in
      (pressed.0 ∙ refused_by f _ _, pressed.1 ∙ refused_by f _ _)

  module _ (accepted : (numbers_of r.answer).number < 10) where
    abbrev keys : Keys
    keys = p.body.keys

    abbrev keys' : Keys
    keys' = r.panel.body.keys

    -- A press that is not refused sets the key's bit in command 24's bytes down and pressed.
    pub poll_bytes_follow_a_press : down ≡ true → (is_on keys'.down number ≡ true) × (is_on keys'.pressed number ≡ true) × (keys'.released ≡ keys.released)
    poll_bytes_follow_a_press d = rw (key_happened p number down reply r reply' pressed accepted, d) (press_follows number keys)

    -- A release that is not refused clears the key's bit in down and sets it in released.
    pub poll_bytes_follow_a_release : down ≡ false → (is_on keys'.down number ≡ false) × (keys'.pressed ≡ keys.pressed) × (is_on keys'.released number ≡ true)
    poll_bytes_follow_a_release d = rw (key_happened p number down reply r reply' pressed accepted, d) (release_follows number keys)

    -- Neither touches the bits of another key.
    pub other_keys_stay : (other : ℕ) → (other ≡ number → ⊥)
        → (is_on keys'.down other ≡ is_on keys.down other) × (is_on keys'.pressed other ≡ is_on keys.pressed other)
        × (is_on keys'.released other ≡ is_on keys.released other)
    other_keys_stay other apart = rw (key_happened p number down reply r reply' pressed accepted) (others_stay number keys other apart down)

module _ (p : Panel) (number : ℕ) (high : Bool) (r : Said) (moved : Moves p number high r) where
  -- A pin call takes a state in its ranges to one in its ranges.
  pub pin_stays_in_range : in_ranges p ≡ true → in_ranges r.panel ≡ true
  pin_stays_in_range h =
      let b = panel_parts_lem p h in
      call_keeps p (pin_tests (in_ranges p) number) (pin_accepted p number high) r moved (λ (q : Panel). in_ranges q ≡ true)
      (λ q. panel_whole _ record { count = b.count; live = b.live; boot = b.boot; keys = b.keys; pins = pins_whole _ (moved_in_range number (omega (arith, leb-true number 4 q.1.0)) p.body.pins (pins_parts_lem _ b.pins) _ high); sets = b.sets })
      h

  -- A pin call that is refused by number leaves the panel as it came, and counts nothing.
  pub refused_pin_changes_nothing : (check : Check) → r.answer ≡ CallRefused check → r ≡ refused_call p check
  unfolding numbers_of
  refused_pin_changes_nothing check a =
      call_unchanged p _ _ r moved (refused_first p (pin_tests (in_ranges p) number) (pin_accepted p number high) r moved (omega arith) check a)

-- For each public function, any two results that its promise allows are equal, the lent buffer included.
pub key_determined : (p : Panel) (number : ℕ) (down : Bool) (reply : List ℕ) → Determined (λ (x : Said × List ℕ). Presses p number down reply x.0 x.1)
key_determined p number down reply = and (one _) (one _)

pub pin_determined : (p : Panel) (number : ℕ) (high : Bool) → Determined (Moves p number high)
pin_determined p number high = one _

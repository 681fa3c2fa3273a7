-- Some panel for each report that a host reads.
use Prim.Native.Nat.{ℕ, suc, ◌-◌, ◌<◌, ◌≤◌}
use mathlib.Core.Path.{◌≡◌, refl, ap}
use mathlib.Core.Bool.{Bool, true, false, not}
use native.Mathlib.Omega.{arith}
use borrow.Author.Tests.{eqb-true}
use lib.Pow.{pow_pos}
use Rattle.lists.specs.Tests.{when◌then◌else◌, ◌=?◌}
use Rattle.lists.specs.First.{first_below}
use Rattle.lists.proofs.Firsts.{found_holds}
use Rattle.bits.specs.Bits.{is_on}
use Rattle.bits.proofs.Laws.{off_above}
use Rattle.panel.specs.declared.Keys.{Keys}
use Rattle.panel.specs.State.{factory_settings, no_keys, low_pins}
use Rattle.ranges.proofs.InRange.{keys_whole}
use Rattle.events.specs.Keys.{press_code, report_bytes, as_told}
use Rattle.reading.specs.Reading.{key_pressed}
use Rattle.exchange.specs.Writes.{report_meant, Writes}
use Rattle.exchange.proofs.Meant.{six}
use Rattle.exchange.proofs.Made.{some_report}
use Rattle.exchange.proofs.Panels.{Own, panel_with, Proper, possible_with}
use Rattle.exchange.proofs.Some.{own, plain, plain_proper}

-- the key that a press of a code reports
six_codes : (code : ℕ) → code < 6 → key_pressed (suc code) < 6
unfolding key_pressed first_below when◌then◌else◌
six_codes = six (λ (c : ℕ). key_pressed (suc c) < 6) (omega arith) (omega arith) (omega arith) (omega arith) (omega arith) (omega arith)

module _ (code : ℕ) (low : 1 ≤ code) (high : code ≤ 6) where
  pub pressed_key : key_pressed code < 6
  pressed_key =
      let e : suc (code - 1) ≡ code = omega arith in
      rw e at (six_codes (code - 1) (omega arith))

  pub pressed_code : press_code (key_pressed code) ≡ code
  unfolding key_pressed
  pressed_code = eqb-true _ _ (found_holds (λ number. press_code number =? code) 6 pressed_key)

-- all keys up for a press, all down for a release
abbrev keys_for : Bool → Keys
keys_for true = no_keys
keys_for false = record { down = 63; pressed = 0; released = 0 }

all_on : (number : ℕ) → number < 6 → is_on 63 number ≡ true
unfolding is_on
all_on = six (λ (n : ℕ). is_on 63 n ≡ true) refl refl refl refl refl refl

abbrev own_keys : Bool → Own
own_keys down = own plain.shown plain.wires (keys_for down) low_pins plain.flash

keys_proper : (down : Bool) → Proper (own_keys down)
keys_proper true = plain_proper
keys_proper false =
    let p = plain_proper in
    record { shown = p.shown; wires = p.wires; keys = keys_whole (keys_for false) record { down = omega arith; pressed = omega arith; released = omega arith }; pins = p.pins; flash_size_lem = p.flash_size_lem; flash = p.flash }

pub report_some : (number : ℕ) (down : Bool) → number < 6 → Writes (report_meant number down) (report_bytes down number)
unfolding as_told factory_settings
report_some number true key = some_report (panel_with (own_keys true)) (possible_with _ (keys_proper true)) number true key (off_above 0 number (pow_pos number)) (all_on number key)
report_some number false key = some_report (panel_with (own_keys false)) (possible_with _ (keys_proper false)) number false key (ap not (all_on number key)) (all_on number key)

-- Some panel for each reply of command 35 that a host reads: its pin has the edges, the level and the config.
use Prim.Native.Nat.{ℕ, ◌+◌, ◌*◌, ◌/◌, ◌%◌, ◌<◌, ◌≤◌}
use mathlib.Core.Path.{◌≡◌, refl, sym, ◌∙◌, ap}
use mathlib.Core.Bool.{Bool, true, false, ◌&&◌, true≢false, and-eq-true_iff}
use mathlib.Core.List.{List, [], ◌∷◌}
use native.Mathlib.Omega.{arith}
use borrow.Author.Tests.{eqb-true, eqb-false, leb-true, leb-false, le-leb}
use lib.ListN.{length, get_or, take, set, length-set, get_or-eq_default}
use lib.Seq.{get_or-set_same}
use lib.Pow.{pow_pos}
use Rattle.std.specs.Prelude.{Ok, is_ok}
use Rattle.lists.specs.Tests.{when◌then◌else◌, ◌≤?◌, ◌=?◌}
use Rattle.lists.proofs.Laws.{when_either}
use Rattle.table.specs.Table.{look_up, config_allowed}
use Rattle.shapes.specs.Shape.{Bytes}
use Rattle.verdict.specs.Verdict.{in_range, verdict_of}
use Rattle.panel.specs.declared.Wires.{Wires}
use Rattle.panel.specs.declared.Pins.{Pins}
use Rattle.panel.specs.State.{no_keys}
use Rattle.ranges.proofs.InRange.{pins_whole}
use Rattle.bits.specs.Bits.{is_on, with_bit}
use Rattle.bits.proofs.Laws.{off_above, with_bit_on, with_bit_below}
use Rattle.glyphs.proofs.Every.{all_set}
use Rattle.glyphs.proofs.Flat.{all_elements}
use Rattle.replies.specs.Replies.{bit, edges, reply_data}
use Rattle.reading.specs.Reading.{pin_reply_size, is_wired, is_pin}
use Rattle.exchange.proofs.Made.{some_reply}
use Rattle.exchange.proofs.AreBytes.{each_bytes}
use Rattle.exchange.proofs.Data.{known}
use Rattle.exchange.proofs.Panels.{panel_with, ProperWires, Proper, possible_with, holds_nothing}
use Rattle.exchange.proofs.Some.{Replied, own, plain, plain_proper, allowed_is}

-- a mask with one bit on, or none
unfoldable flag : Bool → ℕ → ℕ
flag t number = when t then with_bit 0 number else 0

flag_is : (t : Bool) (number : ℕ) → is_on (flag t number) number ≡ t
unfolding flag when◌then◌else◌
flag_is true number = with_bit_on 0 number
flag_is false number = off_above 0 number (pow_pos number)

flag_small : (t : Bool) (number : ℕ) → (t ≡ true → number < 5) → flag t number ≤ 31
unfolding flag when◌then◌else◌
flag_small true number h = let below : with_bit 0 number < 32 = with_bit_below 0 number 5 (omega arith) (h refl) in omega arith
flag_small false number h = omega arith

-- the bits of an edges byte
bit_is : (x : ℕ) → bit (x % 2 =? 1) ≡ x % 2
bit_is x = go (x % 2 =? 1) refl
  where
    go : (t : Bool) → (x % 2 =? 1) ≡ t → bit (x % 2 =? 1) ≡ x % 2
    go true e = rw e (sym (eqb-true _ _ e))
    go false e = let odd : (x % 2 ≡ 1 → ⊥) = eqb-false _ _ e in rw e (omega arith)

bits_are : (e : ℕ) → e ≤ 7 → bit (is_on e 0) + 2 * bit (is_on e 1) + 4 * bit (is_on e 2) ≡ e
unfolding is_on
bits_are e h = omega (arith, bit_is (e / 1), bit_is (e / 2), bit_is (e / 4))

-- a pin that the command allows, its edges, a level and its config
module _ (d : List ℕ) (bytes : Bytes d) (four : length d ≡ pin_reply_size) (v : verdict_of 35 (take 1 d) ≡ Ok tt) (level : get_or d 2 0 ≤ 100) where
  abbrev pin : ℕ
  pin = get_or d 0 0

  abbrev edges_byte : ℕ
  edges_byte = get_or d 1 0

  abbrev config : ℕ
  config = get_or d 3 0

  all_four : pin ∷ edges_byte ∷ get_or d 2 0 ∷ config ∷ [] ≡ d
  all_four = all_elements 0 d 0 4 four

  allows_pin : verdict_of 35 (pin ∷ []) ≡ Ok tt
  allows_pin = ap (λ (x : List ℕ). verdict_of 35 (take 1 x)) all_four ∙ v

  pin_few : pin ≤ 12
  unfolding look_up in_range when◌then◌else◌
  pin_few = leb-true _ _ ((known _ (pin ∷ []) allows_pin).each 0 (omega arith))

  abbrev wires_for : Wires
  wires_for = record { levels = set plain.wires.levels pin (get_or d 2 0); configs = set plain.wires.configs pin config }

  abbrev pins_for : Pins
  pins_for = record { last = flag (is_on edges_byte 0) pin; fell = flag (is_on edges_byte 1) pin; rose = flag (is_on edges_byte 2) pin }

  module _ (few : edges_byte ≤ 7) (input : (i : ℕ) → is_on edges_byte i ≡ true → pin < 5) (right : config_allowed config ≡ true) (stands : get_or wires_for.configs pin 0 ≡ config) where
    edges_are : edges pins_for pin ≡ edges_byte
    unfolding edges
    edges_are = rw (flag_is (is_on edges_byte 0) pin, flag_is (is_on edges_byte 1) pin, flag_is (is_on edges_byte 2) pin) (bits_are edges_byte few)

    level_is : get_or wires_for.levels pin 0 ≡ get_or d 2 0
    level_is = get_or-set_same plain.wires.levels pin (get_or d 2 0) 0 (omega (arith, pin_few, plain_proper.wires.levels_size))

    -- a panel whose pin has them replies them
    pin_some : Replied 35 d
    unfolding reply_data when◌then◌else◌
    pin_some =
        let o = own plain.shown wires_for no_keys pins_for plain.flash in
        let p = plain_proper in
        let wires : ProperWires wires_for =
        record {
          levels_size = length-set plain.wires.levels pin (get_or d 2 0) ∙ p.wires.levels_size;
          levels = all_set (λ x. x ≤? 100) plain.wires.levels pin (get_or d 2 0) (le-leb _ _ level) p.wires.levels;
          configs_size = length-set plain.wires.configs pin config ∙ p.wires.configs_size;
          configs = all_set config_allowed plain.wires.configs pin config right p.wires.configs;
        } in
        let pins = pins_whole pins_for record { last = flag_small _ pin (input 0); fell = flag_small _ pin (input 1); rose = flag_small _ pin (input 2) } in
        let proper : Proper o = record { shown = p.shown; wires = wires; keys = p.keys; pins = pins; flash_size_lem = p.flash_size_lem; flash = p.flash } in
        some_reply (panel_with o) (possible_with o proper) (holds_nothing o) 35 (omega arith) (pin ∷ []) (omega arith) (each_bytes (pin ∷ []) (bytes 0, tt)) allows_pin d
        ((λ i. pin ∷ edges_are i ∷ level_is i ∷ stands i ∷ []) ∙ all_four)

  -- pins 0 to 4, and the others
  input_some : pin ≤ 4 → edges_byte ≤ 7 → config_allowed config ≡ true → Replied 35 d
  input_some h few right =
      pin_some few (λ i on. omega arith) right (get_or-set_same plain.wires.configs pin config 0 (omega (arith, plain_proper.wires.configs_size)))

  other_some : 5 ≤ pin → edges_byte ≡ 0 → config ≡ 0 → Replied 35 d
  unfolding config_allowed
  other_some h none bare =
      pin_some (omega arith) (λ i on. absurd (true≢false (sym on ∙ ap (λ (e : ℕ). is_on e i) none ∙ off_above 0 i (pow_pos i)))) (ap config_allowed bare)
      (get_or-eq_default wires_for.configs 0 {n = pin} (omega (arith, length-set plain.wires.configs pin config, plain_proper.wires.configs_size)) ∙ sym bare)

pub pin_can_some : (d : List ℕ) → Bytes d → is_pin d ≡ true → Replied 35 d
unfolding is_pin is_wired
pin_can_some d bytes can =
    let wired = (and-eq-true_iff ((length d =? pin_reply_size) && is_ok (verdict_of 35 (take 1 d)) && (get_or d 2 0 ≤? 100)) _).0 can in
    let high = (and-eq-true_iff ((length d =? pin_reply_size) && is_ok (verdict_of 35 (take 1 d))) _).0 wired.0 in
    let known = (and-eq-true_iff (length d =? pin_reply_size) _).0 high.0 in
    let four = eqb-true _ _ known.0 in
    let v = allowed_is _ known.1 in
    let level = leb-true _ _ high.1 in
    when_either (λ (t : Bool). t ≡ true → Replied 35 d) (get_or d 0 0 ≤? 4) _ _
    (λ e w. let h = (and-eq-true_iff (get_or d 1 0 ≤? 7) _).0 w in input_some d bytes four v level (leb-true _ _ e) (leb-true _ _ h.0) h.1)
    (λ e w. let h = (and-eq-true_iff (get_or d 1 0 =? 0) _).0 w in other_some d bytes four v level (leb-false _ _ e) (eqb-true _ _ h.0) (eqb-true _ _ h.1))
    wired.1

-- What key and pin events do to the bits of keys and pins.
use Prim.Native.Nat.{ℕ, ◌-◌, ◌^◌, ◌<◌, ◌≤◌}
use mathlib.Core.Path.{◌≡◌, refl, sym, ap}
use mathlib.Core.Bool.{Bool, true, false, not, beq}
use native.Mathlib.Omega.{arith}
use lib.Pow.{le_ones, lt_of_le_ones}
use Rattle.bits.specs.Bits.{is_on, with_bit}
use Rattle.bits.proofs.Laws.{with_bit_below, without_bit_at_most, with_bit_on, without_bit_off, with_bit_leaves, without_bit_leaves}
use Rattle.panel.specs.declared.Keys.{Keys}
use Rattle.panel.specs.declared.Pins.{Pins}
use Rattle.ranges.proofs.InRange.{KeysParts, PinsParts}
use Rattle.events.specs.Keys.{key_event, as_told}
use Rattle.events.specs.Pins.{pin_moved}

beq_true : (b : Bool) → beq b true ≡ b
beq_true true = refl
beq_true false = refl

beq_false : (b : Bool) → beq b false ≡ not b
beq_false true = refl
beq_false false = refl

-- a key is as told where its bit is what it is told
pub as_told_lem : (down : Bool) (number : ℕ) (k : Keys) → beq (is_on k.down number) down ≡ as_told down number k
unfolding as_told
as_told_lem true number k = beq_true (is_on k.down number)
as_told_lem false number k = beq_false (is_on k.down number)

-- a key without a bit is up
pub up_as_told : (down : Bool) (number : ℕ) (k : Keys) → is_on k.down number ≡ false → not down ≡ as_told down number k
unfolding as_told
up_as_told true number k e = sym e
up_as_told false number k e = ap not (sym e)

-- a mask of so many bits stays one
set_at_most : (width mask number : ℕ) → number < width → mask ≤ 2 ^ width - 1 → with_bit mask number ≤ 2 ^ width - 1
set_at_most width mask number n m = le_ones width (with_bit_below mask number width (lt_of_le_ones width m) n)

pub event_in_range : (number : ℕ) → number < 6 → (k : Keys) → KeysParts k → (down : Bool) → KeysParts (key_event down number k)
unfolding key_event
event_in_range number n k h true =
    record { down = set_at_most 6 k.down number n h.down; pressed = set_at_most 6 k.pressed number n h.pressed; released = h.released }
event_in_range number n k h false =
    record { down = omega (arith, without_bit_at_most k.down number); pressed = h.pressed; released = set_at_most 6 k.released number n h.released }

pub moved_in_range : (number : ℕ) → number < 5 → (p : Pins) → PinsParts p → (level high : Bool) → PinsParts (pin_moved level high number p)
unfolding pin_moved
moved_in_range number n p h true true = h
moved_in_range number n p h false false = h
moved_in_range number n p h false true =
    record { last = set_at_most 5 p.last number n h.last; fell = h.fell; rose = set_at_most 5 p.rose number n h.rose }
moved_in_range number n p h true false =
    record { last = omega (arith, without_bit_at_most p.last number); fell = set_at_most 5 p.fell number n h.fell; rose = h.rose }

module _ (number : ℕ) (k : Keys) where
  pub press_follows : (is_on (key_event true number k).down number ≡ true) × (is_on (key_event true number k).pressed number ≡ true) × ((key_event true number k).released ≡ k.released)
  unfolding key_event
  press_follows = (with_bit_on k.down number, with_bit_on k.pressed number, refl)

  pub release_follows : (is_on (key_event false number k).down number ≡ false) × ((key_event false number k).pressed ≡ k.pressed) × (is_on (key_event false number k).released number ≡ true)
  unfolding key_event
  release_follows = (without_bit_off k.down number, refl, with_bit_on k.released number)

  pub others_stay : (other : ℕ) → (other ≡ number → ⊥) → (down : Bool) → (is_on (key_event down number k).down other ≡ is_on k.down other)
      × (is_on (key_event down number k).pressed other ≡ is_on k.pressed other)
      × (is_on (key_event down number k).released other ≡ is_on k.released other)
  unfolding key_event
  others_stay other apart true = (with_bit_leaves k.down number other apart, with_bit_leaves k.pressed number other apart, refl)
  others_stay other apart false = (without_bit_leaves k.down number other apart, refl, with_bit_leaves k.released number other apart)

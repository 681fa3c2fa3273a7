-- Laws of single bits, in masks of any width.
use Prim.Native.Nat.{ℕ, ◌*◌, ◌-◌, ◌/◌, ◌%◌, ◌^◌, ◌<◌, ◌≤◌}
use mathlib.Core.Path.{◌≡◌, refl, sym, ◌∙◌, ap}
use mathlib.Core.Bool.{Bool, true, false, not}
use native.Mathlib.Nat.{one-mul, mod-eq_of_lt, div-eq_of_lt}
use native.Mathlib.Omega.{arith}
use lib.Pow.{pow_pos, pow-lt, pow_mono}
use borrow.Author.Tests.{eqb-true, eqb-false, eq-eqb, ne_eqb}
use Rattle.std.specs.Prelude.{◌==◌}
use Rattle.std.specs.Int.{bit_at}
use Rattle.std.specs.Int.Bits.{bit_and, bit_or, bit_xor, or_add_and, xor_add_and, and_self}
use Rattle.std.proofs.lemmas.Nat.{and-not, and_comm, and_assoc, or_lt}
use Rattle.std.proofs.lemmas.Nat.Bits.{and_pow, bit_at_and, bit_at_or, bit_at_xor, bit_at-lt, bit_at-pow_same, bit_at-pow_other}
use Rattle.lists.proofs.Laws.{when_either}
use Rattle.bits.specs.Bits.{is_on, with_bit, without_bit}

-- 1 shifted in a byte
pub shifted : (k : ℕ) → k < 8 → 1 * 2 ^ k % 256 ≡ 2 ^ k
shifted k h = rw (one-mul, mod-eq_of_lt (pow-lt h))

-- A mask has no bit above its width.
pub off_above : (mask number : ℕ) → mask < 2 ^ number → is_on mask number ≡ false
unfolding is_on
off_above mask number h = let q : mask / 2 ^ number ≡ 0 = div-eq_of_lt h in rw q

-- A byte has eight bits.
pub byte_off : (mask number : ℕ) → mask < 256 → 8 ≤ number → is_on mask number ≡ false
byte_off mask number m h = off_above mask number (omega (arith, pow_mono {i = 8} {j = number} h))

module _ (mask number : ℕ) where
  -- the bit's place, of a mask in which it is on or off
  mask_on : is_on mask number ≡ true → bit_and mask (2 ^ number) ≡ 2 ^ number
  unfolding is_on
  mask_on on = let e : bit_at mask number ≡ 1 = eqb-true _ 1 on in and_pow mask number ∙ rw (e, one-mul)

  mask_off : is_on mask number ≡ false → bit_and mask (2 ^ number) ≡ 0
  unfolding is_on
  mask_off off =
      let h : (bit_at mask number ≡ 1 → ⊥) = eqb-false _ 1 off in
      let e : bit_at mask number ≡ 0 = omega (arith, bit_at-lt mask number) in
      and_pow mask number ∙ rw e (omega arith)

  -- the code's test
  asked_at : (t : Bool) → is_on mask number ≡ t → not (bit_and mask (2 ^ number) == 0) ≡ t
  asked_at true on = ap not (ne_eqb _ 0 (λ (z : bit_and mask (2 ^ number) ≡ 0). omega (arith, mask_on on, pow_pos number)))
  asked_at false off = ap not (eq-eqb _ 0 (mask_off off))

  pub asked : not (bit_and mask (2 ^ number) == 0) ≡ is_on mask number
  asked = asked_at (is_on mask number) refl

  -- what the code writes is what the paper says
  pub or_bit : bit_or mask (2 ^ number) ≡ with_bit mask number
  unfolding with_bit
  or_bit =
      let s = or_add_and mask (2 ^ number) in
      when_either (λ m. bit_or mask (2 ^ number) ≡ m) (is_on mask number) _ _ (λ on. omega (arith, mask_on on)) (λ off. omega (arith, mask_off off))

  pub xor_bit : bit_xor mask (bit_and mask (2 ^ number)) ≡ without_bit mask number
  unfolding without_bit
  xor_bit =
      let s = xor_add_and mask (bit_and mask (2 ^ number)) in
      let t : bit_and mask (bit_and mask (2 ^ number)) ≡ bit_and mask (2 ^ number) = sym (and_assoc (2 ^ number) mask mask) ∙ ap (λ m. bit_and m (2 ^ number)) (and_self mask) in
      when_either (λ m. bit_xor mask (bit_and mask (2 ^ number)) ≡ m) (is_on mask number) _ _ (λ on. omega (arith, mask_on on)) (λ off. omega (arith, mask_off off))

  pub and_not_bit : mask < 256 → number < 8 → bit_and mask (255 - 2 ^ number) ≡ without_bit mask number
  unfolding without_bit
  and_not_bit m h =
      let s = and-not 8 (2 ^ number) mask (pow-lt h) m in
      let t = and_comm (255 - 2 ^ number) mask in
      let u = and_comm (2 ^ number) mask in
      when_either (λ (k : ℕ). bit_and mask (255 - 2 ^ number) ≡ k) (is_on mask number) _ _ (λ on. omega (arith, mask_on on)) (λ off. omega (arith, mask_off off))

  pub with_bit_on : is_on (with_bit mask number) number ≡ true
  unfolding is_on
  with_bit_on =
      rw (← or_bit) (eq-eqb (bit_at (bit_or mask (2 ^ number)) number) 1 (omega (arith, bit_at_or mask (2 ^ number) number, bit_at-pow_same number, bit_at-lt mask number)))

  pub without_bit_off : is_on (without_bit mask number) number ≡ false
  unfolding is_on
  without_bit_off =
      let x : bit_at (bit_xor mask (bit_and mask (2 ^ number))) number ≡ 0 =
      omega (arith, bit_at_xor mask (bit_and mask (2 ^ number)) number, bit_at_and mask (2 ^ number) number, bit_at-pow_same number, bit_at-lt mask number) in
      rw (← xor_bit) (rw x)

  -- Of another bit neither says anything.
  pub with_bit_leaves : (other : ℕ) → (other ≡ number → ⊥) → is_on (with_bit mask number) other ≡ is_on mask other
  unfolding is_on
  with_bit_leaves other apart =
      let x : bit_at (bit_or mask (2 ^ number)) other ≡ bit_at mask other =
      omega (arith, bit_at_or mask (2 ^ number) other, bit_at-pow_other number other apart) in
      rw (← or_bit) (rw x)

  pub without_bit_leaves : (other : ℕ) → (other ≡ number → ⊥) → is_on (without_bit mask number) other ≡ is_on mask other
  unfolding is_on
  without_bit_leaves other apart =
      let x : bit_at (bit_xor mask (bit_and mask (2 ^ number))) other ≡ bit_at mask other =
      omega (arith, bit_at_xor mask (bit_and mask (2 ^ number)) other, bit_at_and mask (2 ^ number) other, bit_at-pow_other number other apart, bit_at-lt mask other) in
      rw (← xor_bit) (rw x)

  -- A mask keeps its width.
  pub with_bit_below : (width : ℕ) → mask < 2 ^ width → number < width → with_bit mask number < 2 ^ width
  with_bit_below width m h = rw (← or_bit) (or_lt width mask (2 ^ number) m (pow-lt h))

  pub without_bit_at_most : without_bit mask number ≤ mask
  unfolding without_bit
  without_bit_at_most = when_either (λ k. k ≤ mask) (is_on mask number) _ _ (λ on. omega arith) (λ off. omega arith)

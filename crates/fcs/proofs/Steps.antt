-- The polynomial's steps: what stands above the lowest bits is moved down by them, and not changed otherwise.
use Prim.Native.Nat.{ℕ, zero, suc, ◌*◌, ◌/◌, ◌%◌, ◌^◌, ◌<◌}
use mathlib.Core.Path.{◌≡◌, refl, sym, ◌∙◌, ap}
use mathlib.Core.Bool.{Bool, true, false}
use native.Mathlib.Nat.{mul-one, mul_assoc, mul_comm, pow-suc, div-add-mod', div-eq_of_lt}
use native.Mathlib.Omega.{arith}
use lib.Bits.{bit_xor, xor_lt, xor_mod, xor_shr, xor_zero_r, xor_shifted}
use lib.Dec.{lit<}
use Rattle.std.specs.Int.Bits.{xor_assoc}
use Rattle.lists.specs.Tests.{when◌then◌else◌, ◌=?◌}
use Rattle.lists.proofs.Laws.{when_either}
use Rattle.fcs.specs.Fcs.{polynomial, after_bit, after_bits, after_byte}

xor_when : (odd : Bool) (h c : ℕ) → when odd then bit_xor (bit_xor h c) polynomial else bit_xor h c ≡ bit_xor h (when odd then bit_xor c polynomial else c)
unfolding when◌then◌else◌
xor_when true h c = xor_assoc h c polynomial
xor_when false h c = refl

-- one step: h stands above the lowest bit
above_bit : (h c : ℕ) → after_bit (bit_xor (h * 2) c) ≡ bit_xor h (after_bit c)
unfolding after_bit
above_bit h c =
    let even : h * 2 % 2 ≡ 0 = omega arith in
    let half : h * 2 / 2 ≡ h = omega arith in
    rw (xor_mod (h * 2) c 1, even, xor_shr (h * 2) c 1, half) (xor_when (c % 2 =? 1) h (c / 2))

-- n steps: h stands above the lowest n bits
above_bits : (n h c : ℕ) → after_bits n (bit_xor (h * 2 ^ n) c) ≡ bit_xor h (after_bits n c)
above_bits zero h c = rw mul-one
above_bits (suc n) h c =
    let e : h * 2 ^ suc n ≡ (h * 2) * 2 ^ n = rw (pow-suc, mul_comm (2 ^ n) 2, ← mul_assoc) in
    rw (e, above_bits n (h * 2) c) (above_bit h (after_bits n c))

-- a byte: (c >> 8) xor T[(c xor b) mod 256], where T[i] is eight steps on i
pub byte_step : (c b : ℕ) → b < 256 → after_byte c b ≡ bit_xor (c / 256) (after_bits 8 (bit_xor c b % 256))
unfolding after_byte
byte_step c b h =
    let x = bit_xor c b in
    let high : x / 256 ≡ c / 256 = xor_shr c b 8 ∙ rw (div-eq_of_lt h) (xor_zero_r (c / 256)) in
    let split : x ≡ bit_xor (x / 256 * 2 ^ 8) (x % 256) = sym (xor_shifted (x / 256) 8 (x % 256) (omega arith) ∙ div-add-mod' x 256) in
    ap (after_bits 8) (split ∙ ap (λ (q : ℕ). bit_xor (q * 2 ^ 8) (x % 256)) high) ∙ above_bits 8 (c / 256) (x % 256)

-- A register of sixteen bits stays one.
bit_fits : (c : ℕ) → c < 2 ^ 16 → after_bit c < 2 ^ 16
unfolding after_bit
bit_fits c h = when_either (λ (r : ℕ). r < 2 ^ 16) (c % 2 =? 1) _ _ (λ _. xor_lt 16 (c / 2) polynomial (omega arith) (lit< tt)) (λ _. omega arith)

pub bits_fit : (n c : ℕ) → c < 2 ^ 16 → after_bits n c < 2 ^ 16
bits_fit zero c h = h
bits_fit (suc n) c h = bit_fits (after_bits n c) (bits_fit n c h)

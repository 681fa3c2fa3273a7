-- Numbers of two and of four bytes, there and back.
use mathlib.Core.Path.{◌≡◌}
use mathlib.Core.List.{[], ◌∷◌}
use Prim.Native.Nat.{ℕ, ◌/◌, ◌%◌, ◌<◌}
use native.Mathlib.Omega.{arith}
use Rattle.std.proofs.lemmas.Nat.{from_le_bytes-to_le_bytes_4}
use Rattle.shapes.specs.Words.{half_of, half_bytes, word_of, word_bytes}

pub half_back : (n : ℕ) → n < 65536 → half_of (n % 256) (n / 256 % 256) ≡ n
half_back n h = omega arith

pub half_written : (a b : ℕ) → a < 256 → b < 256 → half_bytes (half_of a b) ≡ a ∷ b ∷ []
half_written a b ha hb =
    let e₀ : half_of a b % 256 ≡ a = omega arith in
    let e₁ : half_of a b / 256 % 256 ≡ b = omega arith in
    λ i. e₀ i ∷ e₁ i ∷ []

pub word_back : (n : ℕ) → n < 4294967296 → word_of (n % 256) (n / 256 % 256) (n / 65536 % 256) (n / 16777216 % 256) ≡ n
word_back n h = omega (arith, from_le_bytes-to_le_bytes_4 n h)

pub word_written : (a b c d : ℕ) → a < 256 → b < 256 → c < 256 → d < 256 → word_bytes (word_of a b c d) ≡ a ∷ b ∷ c ∷ d ∷ []
word_written a b c d ha hb hc hd =
    let e₀ : word_of a b c d % 256 ≡ a = omega arith in
    let e₁ : word_of a b c d / 256 % 256 ≡ b = omega arith in
    let e₂ : word_of a b c d / 65536 % 256 ≡ c = omega arith in
    let e₃ : word_of a b c d / 16777216 % 256 ≡ d = omega arith in
    λ i. e₀ i ∷ e₁ i ∷ e₂ i ∷ e₃ i ∷ []

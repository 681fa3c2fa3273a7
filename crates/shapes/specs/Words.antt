-- Numbers of two and of four bytes, "little end first".
use Rattle.std.specs.Prelude.{ℕ, ◌+◌, ◌*◌, ◌/◌, ◌%◌, ◌≡◌, List, [], ◌∷◌}

abbrev pub half_of : ℕ → ℕ → ℕ
half_of a b = a + 256 * b

abbrev pub half_bytes : ℕ → List ℕ
half_bytes n = n % 256 ∷ n / 256 % 256 ∷ []

abbrev pub word_of : ℕ → ℕ → ℕ → ℕ → ℕ
word_of a b c d = a + 256 * b + 65536 * c + 16777216 * d

abbrev pub word_bytes : ℕ → List ℕ
word_bytes n = n % 256 ∷ n / 256 % 256 ∷ n / 65536 % 256 ∷ n / 16777216 % 256 ∷ []

-- what `word_of` and `word_bytes` promise
abbrev pub ReadsWord : ℕ → ℕ → ℕ → ℕ → ℕ → Type 0
ReadsWord a b c d r = r ≡ word_of a b c d

abbrev pub WritesWord : ℕ → List ℕ → Type 0
WritesWord n r = r ≡ word_bytes n

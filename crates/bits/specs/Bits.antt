-- Single bits of a byte, by their number.
use Rattle.std.specs.Prelude.{ℕ, ◌+◌, ◌-◌, ◌/◌, ◌%◌, ◌^◌, ◌≡◌, Bool}
use Rattle.lists.specs.Tests.{when◌then◌else◌, ◌<?◌, ◌=?◌}

unfoldable pub is_on : ℕ → ℕ → Bool
is_on mask number = mask / 2 ^ number % 2 =? 1

unfoldable pub with_bit : ℕ → ℕ → ℕ
with_bit mask number = when is_on mask number then mask else mask + 2 ^ number

unfoldable pub without_bit : ℕ → ℕ → ℕ
without_bit mask number = when is_on mask number then mask - 2 ^ number else mask

-- what `is_on` promises
abbrev pub Asks : ℕ → ℕ → Bool → Type 0
Asks mask number r = r ≡ is_on mask number

-- what `with_bit` promises: a byte has eight bits
abbrev pub SetsBit : ℕ → ℕ → ℕ → Type 0
SetsBit mask number r = r ≡ (when number <? 8 then with_bit mask number else mask)

-- what `without_bit` promises
abbrev pub Clears : ℕ → ℕ → ℕ → Type 0
Clears mask number r = r ≡ without_bit mask number

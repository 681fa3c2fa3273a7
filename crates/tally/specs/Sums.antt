-- What is added up from call to call.
use Rattle.std.specs.Prelude.{ℕ, ◌+◌, ◌-◌, min, ◌≡◌, Bool, ◌&&◌}
use Rattle.lists.specs.Tests.{when◌then◌else◌, ◌<?◌}
use Rattle.tally.specs.declared.CallTold.{CallTold}
use Rattle.tally.specs.declared.Sums.{Sums}

-- the largest number of 64 bits
abbrev pub largest : ℕ
largest = 18446744073709551615

-- a sum that stops there
abbrev pub sum_of : ℕ → ℕ → ℕ
sum_of a b = min (a + b) largest

-- where a packet begins: the first byte that was still held, and then what the call dropped before it
abbrev pub offset_of : ℕ → ℕ → ℕ → ℕ
offset_of taken held dropped = sum_of (taken - held) dropped

-- an answer between 1, waiting, and 10, the first that refuses a call, is a packet's
abbrev pub is_found : ℕ → Bool
is_found number = (1 <? number) && (number <? 10)

unfoldable pub packets_by : ℕ → ℕ
packets_by number = when is_found number then 1 else 0

abbrev pub sums_with : Sums → ℕ → CallTold → Sums
sums_with s held c =
    record {
      events = sum_of s.events (packets_by c.number);
      offset = offset_of s.taken held c.dropped;
      taken = sum_of s.taken c.taken;
      dropped = sum_of s.dropped c.dropped;
      checked = sum_of s.checked c.checked;
    }

-- what `with_call` promises
abbrev pub SumsCall : Sums → ℕ → CallTold → Sums → Type 0
SumsCall s held c r = r ≡ sums_with s held c

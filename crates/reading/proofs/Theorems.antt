-- What holds of a reading over and above the function's own promise.
use Prim.Native.Nat.{ℕ, ◌≤◌}
use mathlib.Core.List.{List}
use native.Mathlib.Omega.{arith}
use lib.ListN.{length, drop, get_or, length-take}
use Rattle.std.specs.Prelude.{Option, None, Some, IfSome, option_map}
use Rattle.lists.specs.Promise.{Determined}
use Rattle.lists.proofs.Laws.{when_either}
use Rattle.lists.proofs.Theorems.{one}
use Rattle.packets.specs.Judge.{length_byte}
use Rattle.reading.specs.declared.Meaning.{Meaning}
use Rattle.reading.specs.declared.Meaning.TheVariants.{Reply, ErrorReply, Report}
use Rattle.reading.specs.declared.Reading.{Reading}
use Rattle.reading.specs.Reading.{meaning_of, data_in, values_for, reading_with, read_of, ReadsReply}
use Rattle.reading.proofs.OnePacket.{size}

-- Any two results that the promise of `read` allows are equal.
pub read_determined : (bytes : List ℕ) → Determined (ReadsReply bytes)
read_determined bytes = one _

values_of_data : (m : Meaning) (d : List ℕ) → length (values_for m d) ≤ length d
values_of_data (Reply code) d = omega arith
values_of_data (ErrorReply code) d = omega arith
values_of_data (Report number down) d = omega arith

-- A reading has at most 22 values.
pub values_at_most_22 : (bytes : List ℕ) → IfSome (read_of bytes) (λ r. r.count ≤ 22)
unfolding read_of
values_at_most_22 bytes =
    when_either (λ (r : Option Reading). IfSome r (λ x. x.count ≤ 22)) _ _ _
    (λ one.
    let d = data_in bytes in
    few d (omega (arith, (size bytes one).0, length-take (length_byte bytes) (drop 2 bytes))) (meaning_of (get_or bytes 0 0) d))
    (λ _. tt)
  where
    few : (d : List ℕ) → length d ≤ 22 → (m : Option Meaning) → IfSome (option_map (λ m. reading_with m (values_for m d)) m) (λ x. x.count ≤ 22)
    few d h None = tt
    few d h (Some m) = omega (arith, values_of_data m d)

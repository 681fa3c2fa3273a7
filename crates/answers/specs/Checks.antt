-- The checks of a call: "The lowest number that applies is given."
use Rattle.std.specs.Prelude.{◌≡◌, Bool, true, false, List, [], ◌∷◌, Result, Ok, Err}
use Rattle.lists.specs.Tests.{when◌then◌else◌}
use Rattle.answers.specs.declared.Check.{Check}

-- whether a check passes
pub data Test : Type 0 where
  test : Bool → Check → Test

-- the checks stand in the order of their numbers, and the first that fails answers
unfoldable pub decided {ℓ} : {A : Type ℓ} → List Test → (Check → A) → A → A
decided [] refused accepted = accepted
decided (test passes check ∷ tests) refused accepted = when passes then decided tests refused accepted else refused check

-- how they come out
abbrev pub checked_by : List Test → Result (Unit {0}) Check
checked_by tests = decided tests Err (Ok tt)

-- one check more behind them
unfoldable pub also_checked : Result (Unit {0}) Check → Bool → Check → Result (Unit {0}) Check
also_checked (Ok _) true check = Ok tt
also_checked (Ok _) false check = Err check
also_checked (Err first) passes check = Err first

-- what `also` promises
abbrev pub Checks : Result (Unit {0}) Check → Bool → Check → Result (Unit {0}) Check → Type 0
Checks c passes check r = r ≡ also_checked c passes check

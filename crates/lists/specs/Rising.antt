-- The numbers that pass a test, as a rising list.
use Rattle.std.specs.Prelude.{ℕ, zero, suc, ◌<◌, ◌≡◌, Bool, List, [], ◌∷◌, ◌++◌, get_or}
use Rattle.lists.specs.Tests.{when◌then◌else◌}

-- those below n that pass the test, rising
unfoldable pub passing : (ℕ → Bool) → ℕ → List ℕ
passing test zero = []
passing test (suc n) =
    when test n then passing test n ++ n ∷ []
    else passing test n

-- a number stands in the first n places of a list
abbrev pub ListedIn : List ℕ → ℕ → ℕ → Type 0
ListedIn list n x = (i : ℕ) × (i < n) × (get_or list i 0 ≡ x)

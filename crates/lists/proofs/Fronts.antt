-- What is written to the front of a buffer stands there, and the bytes behind keep their values.
use Prim.Native.Nat.{ℕ, ◌+◌, ◌-◌, ◌<◌, ◌≤◌}
use mathlib.Core.Path.{◌≡◌, sym, ◌∙◌}
use mathlib.Core.Logic.{◌↔◌}
use mathlib.Core.List.{List}
use native.Mathlib.Omega.{arith}
use lib.ListN.{length, drop, get_or, get_or-append}
use lib.Seq.{get_or-append-add, get_or-drop}
use Rattle.lists.specs.Runs.{front}
use Rattle.lists.specs.Rising.{ListedIn}

module _ (run o : List ℕ) where
  pub front_own : (i : ℕ) → i < length run → get_or (front run o) i 0 ≡ get_or run i 0
  front_own i h = get_or-append run (drop (length run) o) 0 i h

  pub front_behind : (i : ℕ) → length run ≤ i → get_or (front run o) i 0 ≡ get_or o i 0
  front_behind i h =
      let e : length run + (i - length run) ≡ i = omega arith in
      rw (← e) (get_or-append-add run (drop (length run) o) (i - length run) 0 ∙ get_or-drop (length run) o (i - length run) 0)

  -- a number stands at the front where it stands in what was written there, and it rises there as it does here
  pub front_listed : (x : ℕ) → ListedIn (front run o) (length run) x ↔ ListedIn run (length run) x
  front_listed x = (λ l. (l.0, l.1, sym (front_own l.0 l.1) ∙ l.2), λ l. (l.0, l.1, front_own l.0 l.1 ∙ l.2))

  pub front_rising : ((i j : ℕ) → i < j → j < length run → get_or run i 0 < get_or run j 0) → (i j : ℕ) → i < j → j < length run → get_or (front run o) i 0 < get_or (front run o) j 0
  front_rising rises i j h g = rw (front_own i (omega arith), front_own j g) (rises i j h g)

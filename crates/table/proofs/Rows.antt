-- Laws of looking a code up in the table.
use Prim.Native.Nat.{ℕ, ◌≤◌, max}
use mathlib.Core.Path.{◌≡◌}
use mathlib.Core.List.{List, [], ◌∷◌}
use native.Mathlib.Omega.{arith}
use Rattle.std.specs.Prelude.{Some, IfSome}
use Rattle.std.proofs.lemmas.Option.{IfSome_then}
use Rattle.lists.proofs.Laws.{when_either}
use Rattle.table.specs.declared.Row.{Row}
use Rattle.table.specs.Table.{TableRow, row, table, look_up}

-- the largest length in the table
abbrev widest : List TableRow → ℕ
widest [] = 0
widest (row _ _ longest _ ∷ rows) = max longest (widest rows)

within_widest : (code : ℕ) (rows : List TableRow) → IfSome (look_up code rows) (λ r. r.longest ≤ widest rows)
unfolding look_up
within_widest code [] = tt
within_widest code (row _ _ longest _ ∷ rows) =
    when_either (λ o. IfSome o (λ (r : Row). r.longest ≤ max longest (widest rows))) _ _ _ (λ _. omega arith)
    (λ _. IfSome_then (look_up code rows) (within_widest code rows) (λ r h. omega arith))

-- No command has more than 22 data bytes: antt computes the widest row.
pub longest_22 : (code : ℕ) {r : Row} → look_up code table ≡ Some r → r.longest ≤ 22
longest_22 code e = rw e at (within_widest code table)

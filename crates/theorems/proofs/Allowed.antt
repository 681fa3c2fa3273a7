-- What is known of the data of a command that is allowed.
use Prim.Native.Nat.{ℕ, ◌<◌, ◌≤◌}
use mathlib.Core.Path.{◌≡◌, subst}
use mathlib.Core.Bool.{true, not}
use mathlib.Core.List.{List}
use native.Mathlib.Omega.{arith}
use lib.ListN.{length}
use borrow.Author.Tests.{eqb-true, not-false}
use Rattle.std.specs.Prelude.{Option, Some, Ok}
use Rattle.lists.specs.Tests.{◌=?◌}
use Rattle.lists.proofs.Firsts.{none_before}
use Rattle.table.specs.declared.Row.{Row}
use Rattle.table.specs.declared.Rule.{Rule}
use Rattle.table.specs.Table.{table, look_up}
use Rattle.verdict.specs.Verdict.{in_range, first_out, verdict_of}
use Rattle.verdict.proofs.Reasons.{Seen, together, see}

-- the data bytes are enough, and each is in its range
pub record Sound (shortest : ℕ) (rule : Rule) (d : List ℕ) : Type 0 where
  pub enough : shortest ≤ length d
  pub each : (i : ℕ) → i < length d → in_range rule d i ≡ true

sound : {o : Option Row} {d : List ℕ} → Seen o d (Ok tt) → (r : Row) → o ≡ Some r → Sound r.shortest r.rule d
unfolding first_out
sound {o} {d} (together f h e) r k =
    let same : f.row ≡ r = let w = f.command in cc in
    subst (λ (x : Row). Sound x.shortest x.rule d) same
    (record { enough = f.enough; each = λ i l. not-false _ (none_before (λ i. not (in_range f.row.rule d i)) (length d) i (omega arith)) })

-- what the verdict asks of the data of a code that has a row
pub allowed : (code : ℕ) (d : List ℕ) → verdict_of code d ≡ Ok tt → (c : ℕ) → code =? c ≡ true → (r : Row) → look_up c table ≡ Some r → Sound r.shortest r.rule d
allowed code d v c e r k = sound (see (look_up code table) d _ v) r (rw (eqb-true code c e) k)

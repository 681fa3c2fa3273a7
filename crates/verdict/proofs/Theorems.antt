-- What holds of the verdict over and above the functions' own promises.
use Prim.Native.Nat.{ℕ, ◌+◌, ◌<◌, ◌≤◌}
use mathlib.Core.Path.{◌≡◌, refl, sym}
use mathlib.Core.Bool.{true, false}
use mathlib.Core.List.{List}
use native.Mathlib.Omega.{arith}
use lib.ListN.{length}
use borrow.Author.Tests.{not-true, not-false}
use Rattle.std.specs.Prelude.{Some}
use Rattle.lists.specs.Promise.{Determined}
use Rattle.lists.proofs.Theorems.{one}
use Rattle.lists.proofs.Firsts.{found_holds, none_before}
use Rattle.table.specs.declared.Row.{Row}
use Rattle.table.specs.declared.Rule.{Rule}
use Rattle.verdict.specs.declared.Reason.{Reason}
use Rattle.verdict.specs.declared.Reason.TheVariants.{DataOutOfRange}
use Rattle.table.specs.Table.{table, look_up}
use Rattle.verdict.specs.Verdict.{in_range, first_out, GivesNumber, refused, Rules}
use Rattle.table.proofs.Rows.{longest_22}
use Rattle.verdict.proofs.Reasons.{Seen, no_command, short, long, out, together, see, late}

-- place is 2 + the index of a data byte out of its range, and all before it are in theirs
abbrev pub AtFirstOut : Rule → List ℕ → ℕ → Type 0
AtFirstOut rule d place =
    (i : ℕ) × (place ≡ 2 + i) × (i < length d) × (in_range rule d i ≡ false) × ((k : ℕ) → k < i → in_range rule d k ≡ true)

at_first_out : (rule : Rule) (d : List ℕ) → first_out rule d < length d → AtFirstOut rule d (2 + first_out rule d)
unfolding first_out
at_first_out rule d h = (_, refl, h, not-true _ (found_holds _ (length d) h), λ k l. not-false _ (none_before _ (length d) k l))

module _ (code : ℕ) (content : List ℕ) where
  -- The place of a refusal is at most 24, so it fits a byte.
  pub refused_place : (reason : Reason) (place : ℕ) → Rules code content (refused reason place) → place ≤ 24
  refused_place reason place e = go (see (look_up code table) content _ (sym e))
    where
      go : {reason : Reason} {place : ℕ} → Seen (look_up code table) content (refused reason place) → place ≤ 24
      go (no_command k) = omega arith
      go (short k h) = omega arith
      go (long k h) = omega arith
      go (out f e h) = omega (arith, f.few, longest_22 code f.command)
      go (together f h e) = (rw e at (late f.row.rule content)).1

  -- The place of reason 3 is that of the first data byte out of its range, as the code's row has it.
  pub first_out_is_first : (place : ℕ) → Rules code content (refused DataOutOfRange place) → (r : Row) × (look_up code table ≡ Some r) × AtFirstOut r.rule content place
  first_out_is_first place e = go (see (look_up code table) content _ (sym e))
    where
      go : {place : ℕ} → Seen (look_up code table) content (refused DataOutOfRange place) → (r : Row) × (look_up code table ≡ Some r) × AtFirstOut r.rule content place
      go (out f e h) = (f.row, f.command, rw e (at_first_out f.row.rule content (rw e at h)))
      go (together f h e) = absurd (omega (arith, (rw e at (late f.row.rule content)).0))

-- For each public function, any two results that its promise allows are equal.
pub verdict_on_determined : (code : ℕ) (content : List ℕ) → Determined (Rules code content)
verdict_on_determined code content = one _

pub from_determined : (reason : Reason) → Determined (GivesNumber reason)
from_determined reason = one _

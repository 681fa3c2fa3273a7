-- The panel's verdict on what a packet cannot have, and what is known of a packet that it allows.
use Prim.Native.Nat.{ℕ, ◌<◌, ◌≤◌, max}
use mathlib.Core.Path.{◌≡◌, refl, sym, ◌∙◌}
use mathlib.Core.Logic.{dite}
use mathlib.Core.List.{List, [], ◌∷◌}
use native.Mathlib.Decide.{dec_lt}
use native.Mathlib.Omega.{arith}
use lib.ListN.{length}
use borrow.Author.Tests.{ne_eqb}
use Rattle.std.specs.Prelude.{Option, Some, None, Ok}
use Rattle.lists.proofs.Laws.{when_false}
use Rattle.table.specs.declared.Row.{Row}
use Rattle.table.specs.Table.{TableRow, row, table, look_up}
use Rattle.table.proofs.Rows.{longest_22}
use Rattle.verdict.specs.declared.Reason.TheVariants.{UnknownCommand}
use Rattle.verdict.specs.Verdict.{verdict_of, refused}
use Rattle.verdict.proofs.Reasons.{Fits, Seen, no_command, long, together, shown, see}

-- the largest code in the table
abbrev highest : List TableRow → ℕ
highest [] = 0
highest (row code _ _ _ ∷ rows) = max code (highest rows)

above_highest : (code : ℕ) (rows : List TableRow) → highest rows < code → look_up code rows ≡ None
unfolding look_up
above_highest code [] h = refl
above_highest code (row c _ _ _ ∷ rows) h = when_false _ _ _ (ne_eqb code c (λ e. absurd (omega arith))) ∙ above_highest code rows (omega arith)

-- "a code above 63 is unknown": antt computes the largest.
pub above_63 : (code : ℕ) (d : List ℕ) → 63 < code → verdict_of code d ≡ refused UnknownCommand 0
above_63 code d h =
    let k : 35 < code = omega arith in
    shown (look_up code table) d (no_command (above_highest code table k))

-- more than 22 data bytes are refused alike, whichever they are
pub too_long : (code : ℕ) (d d' : List ℕ) → 22 < length d → 22 < length d' → verdict_of code d ≡ verdict_of code d'
too_long code d d' l l' = go (look_up code table) refl
  where
    go : (o : Option Row) → look_up code table ≡ o → verdict_of code d ≡ verdict_of code d'
    go None k = shown (look_up code table) d (no_command k) ∙ sym (shown (look_up code table) d' (no_command k))
    go (Some r) k =
        let few = longest_22 code k in
        shown (look_up code table) d (long k (omega (arith, few))) ∙ sym (shown (look_up code table) d' (long k (omega (arith, few))))

module _ (code : ℕ) (d : List ℕ) (v : verdict_of code d ≡ Ok tt) where
  -- an allowed packet has as many data bytes as its row says
  pub allowed_fits : Fits (look_up code table) d
  allowed_fits = go (see (look_up code table) d _ v)
    where
      go : Seen (look_up code table) d (Ok tt) → Fits (look_up code table) d
      go (together f h e) = f

  -- so it has at most 22
  pub allowed_short : length d ≤ 22
  allowed_short = omega (arith, allowed_fits.few, longest_22 code allowed_fits.command)

  -- and its code is at most 63
  pub allowed_code : code ≤ 63
  allowed_code = dite (dec_lt 63 code) (λ h. absurd (cc (above_63 code d h))) (λ h. omega arith)

-- The verdict, sentence by sentence.
use Prim.Native.Nat.{ℕ, ◌+◌, ◌<◌, ◌≤◌}
use mathlib.Core.Path.{◌≡◌, refl, ◌∙◌}
use mathlib.Core.Logic.{dite}
use mathlib.Core.Bool.{or-true}
use mathlib.Core.List.{List}
use native.Mathlib.Decide.{dec_lt}
use native.Mathlib.Omega.{arith}
use lib.ListN.{length}
use borrow.Author.Tests.{lt-ltb, le-ltb}
use Rattle.std.specs.Prelude.{Option, Some, None, Result, Ok, Err}
use Rattle.lists.specs.Tests.{when◌then◌else◌, ◌<?◌}
use Rattle.lists.proofs.Laws.{when_either}
use Rattle.table.specs.declared.Row.{Row}
use Rattle.table.specs.declared.Rule.{Rule}
use Rattle.table.specs.declared.Rule.TheVariants.{Free, UpTo, Glyph, Address, Place, Reboot, Pin}
use Rattle.verdict.specs.declared.Reason.TheVariants.{UnknownCommand, LengthNotAllowed, DataOutOfRange}
use Rattle.verdict.specs.declared.Objection.{Objection}
use Rattle.verdict.specs.Verdict.{first_out, whole_verdict, verdict_by, reason_number, refused}

module _ (o : Option Row) (d : List ℕ) where
  -- neither reason 1 nor reason 2
  pub record Fits : Type 0 where
    pub row : Row
    pub command : o ≡ Some row
    pub enough : row.shortest ≤ length d
    pub few : length d ≤ row.longest

  -- what is known of the data bytes under each verdict: reasons 1, 2 (two ways) and 3, and what looks at the bytes together
  pub data Seen : Result (Unit {0}) Objection → Type 0 where
    no_command : o ≡ None → Seen (refused UnknownCommand 0)
    short : {r : Row} → o ≡ Some r → length d < r.shortest → Seen (refused LengthNotAllowed 1)
    long : {r : Row} → o ≡ Some r → r.longest < length d → Seen (refused LengthNotAllowed 1)
    out : (f : Fits) {i : ℕ} → i ≡ first_out f.row.rule d → i < length d → Seen (refused DataOutOfRange (2 + i))
    together : (f : Fits) → length d ≤ first_out f.row.rule d → {v : Result (Unit {0}) Objection} → whole_verdict f.row.rule d ≡ v → Seen v

  fitting : (f : Fits) → verdict_by o d ≡ (when first_out f.row.rule d <? length d then refused DataOutOfRange (2 + first_out f.row.rule d) else whole_verdict f.row.rule d)
  unfolding verdict_by when◌then◌else◌
  fitting f = rw (f.command, le-ltb (length d) f.row.shortest f.enough, le-ltb f.row.longest (length d) f.few)

  pub shown : {v : Result (Unit {0}) Objection} → Seen v → verdict_by o d ≡ v
  unfolding verdict_by when◌then◌else◌
  shown (no_command k) = rw k
  shown (short {r} k a) = rw (k, lt-ltb (length d) r.shortest a)
  shown (long {r} k a) = rw (k, lt-ltb r.longest (length d) a, or-true)
  shown (out f e h) = fitting f ∙ rw (← e, lt-ltb _ _ h)
  shown (together f h e) = fitting f ∙ rw (le-ltb (first_out f.row.rule d) (length d) h) e

  pub see : (v : Result (Unit {0}) Objection) → verdict_by o d ≡ v → Seen v
  see v e = rw e at (go o refl)
    where
      at : {v : Result (Unit {0}) Objection} → Seen v → Seen (verdict_by o d)
      at s = rw (shown s) s

      go : (r : Option Row) → o ≡ r → Seen (verdict_by o d)
      go None k = at (no_command k)
      go (Some r) k =
          dite (dec_lt (length d) r.shortest) (λ p. at (short k p))
          (λ p. dite (dec_lt r.longest (length d)) (λ q. at (long k q))
          (λ q.
          let f : Fits = record { row = r; command = k; enough = omega arith; few = omega arith } in
          dite (dec_lt (first_out r.rule d) (length d)) (λ h. at (out f refl h)) (λ h. at (together f (omega arith) refl))))

-- what looks at the bytes together gives reason 4 or 5, with a place of at most 24, or none
abbrev pub Late : Result (Unit {0}) Objection → Type 0
Late (Ok _) = Unit
Late (Err o) = (4 ≤ reason_number o.reason) × (o.place ≤ 24)

pub late : (rule : Rule) (d : List ℕ) → Late (whole_verdict rule d)
unfolding whole_verdict
late Free d = tt
late (UpTo most) d = tt
late Glyph d = tt
late Address d = tt
late Place d = when_either Late _ _ _ (λ _. omega arith) (λ _. tt)
late Reboot d = when_either Late _ _ _ (λ _. tt) (λ _. omega arith)
late Pin d = tt

-- The slot of a refusal is found by two searches: for a record in use with the key, and for a free one.
use Rattle.std.proofs.Common.{◌≡◌, ◌<◌, ◌≤◌, ℕ, Bool, List, length, get_or, arith, refl}
use Rattle.std.specs.Prelude.{Option, None, Some, position, MatchOption}
use Rattle.std.specs.List.{position_or_len}
use Rattle.std.proofs.lemmas.List.Sums.{position_or_len_is}
use mathlib.Core.Logic.{dite}
use native.Mathlib.Decide.{dec_lt}
use borrow.Author.Tests.{lt-ltb, le-ltb}
use Rattle.lists.proofs.Laws.{when_true, when_false}
use Rattle.lists.proofs.Firsts.{first_at_most, none_before, found_holds}
use Rattle.filing.specs.declared.Record.{Record}
use Rattle.filing.specs.declared.Refusal.{Refusal}
use Rattle.filing.specs.Filing.{blank, is_free, is_with, first_record, slot}
use Rattle.register.specs.Run.{FindsSlot}

module _ (records : List Record) where
  -- the first that passes is where the library's search finds it
  library_first : (test : Record → Bool) → position_or_len test records ≡ first_record test records (length records)
  library_first test =
      position_or_len_is test records (first_record test records (length records)) blank (first_at_most _ _) (none_before _ _) (found_holds _ _)

  first_is : (test : Record → Bool) (o : Option ℕ) → o ≡ position test records
      → MatchOption o (first_record test records (length records) ≡ length records) (λ i. (first_record test records (length records) ≡ i) × (i < length records))
  first_is test o e =
      let f = first_record test records (length records) in
      let n = length records in
      rw e (dite (dec_lt f n) (λ h. rw (library_first test, lt-ltb f n h) (refl, h))
      (λ h. let m : n ≤ f = omega arith in rw (library_first test, le-ltb f n m) (omega (arith, first_at_most (λ i. test (get_or records i blank)) n))))

  pub finds : (k : Refusal) (o r : Option ℕ) → o ≡ position (is_with k) records → MatchOption o (r ≡ position is_free records) (λ i. r ≡ Some i) → FindsSlot records k r
  unfolding slot
  finds k None r e f =
      let n = length records in
      let h : n ≤ first_record (is_with k) records n = omega (arith, first_is (is_with k) None e) in
      rw (when_false _ _ _ (le-ltb (first_record (is_with k) records n) n h)) (first_is is_free r f)
  finds k (Some i) r e f =
      let h = first_is (is_with k) (Some i) e in
      rw (f, h.0, when_true _ _ _ (lt-ltb _ _ h.1)) (refl, h.1)

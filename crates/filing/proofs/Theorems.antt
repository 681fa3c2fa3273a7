-- What holds of filing over and above the functions' own promises.
use mathlib.Core.Path.{◌≡◌, refl, ◌∙◌, ap}
use mathlib.Core.Logic.{dite}
use mathlib.Core.Bool.{Bool, true, false}
use mathlib.Core.List.{List}
use Rattle.std.specs.Prelude.{Option, None, Some}
use Prim.Native.Nat.{ℕ, ◌+◌, ◌<◌}
use native.Mathlib.Decide.{dec_lt}
use native.Mathlib.Omega.{arith}
use borrow.Author.Tests.{ltb-true, ltb-false}
use lib.ListN.{length, get_or, get_or-replicate, length-set}
use Rattle.lists.specs.Promise.{Determined}
use Rattle.lists.specs.First.{first_below}
use Rattle.lists.proofs.Laws.{when_either}
use Rattle.lists.proofs.Firsts.{first_at_most, found_holds, none_before}
use Rattle.lists.proofs.Theorems.{one}
use Rattle.filing.specs.declared.Record.{Record}
use Rattle.filing.specs.declared.Refusal.{Refusal}
use Rattle.filing.specs.Filing.{Files, blank, most, is_free, is_with, slot, filed_at, filed, filed_if, filed_all, total, FilesOne, Unfiles, Empties}
use Rattle.filing.proofs.Counting as counting

-- What i is where filing picks the record at i: known, the first in use with the key; taken, none being so, the first free one;
-- full, neither being there, past the end.
pub data Picked (k : Refusal) (records : List Record) (i : ℕ) : Type 0 where
  known : i < length records → is_with k (get_or records i blank) ≡ true → ((j : ℕ) → j < i → is_with k (get_or records j blank) ≡ false)
      → Picked k records i
  taken : i < length records → is_free (get_or records i blank) ≡ true → ((j : ℕ) → j < i → is_free (get_or records j blank) ≡ false)
      → ((j : ℕ) → j < length records → is_with k (get_or records j blank) ≡ false)
      → Picked k records i
  full : i ≡ length records → ((j : ℕ) → j < length records → is_free (get_or records j blank) ≡ false)
      → ((j : ℕ) → j < length records → is_with k (get_or records j blank) ≡ false)
      → Picked k records i

-- The record that filing picks is the first in use with the key, else the first free one, else none.
pub first_with_key : (k : Refusal) (records : List Record) → Picked k records (slot k records)
unfolding slot
first_with_key k records =
    let n = length records in
    let with-key : ℕ → Bool = λ i. is_with k (get_or records i blank) in
    let free : ℕ → Bool = λ i. is_free (get_or records i blank) in
    when_either (Picked k records) _ _ _
    (λ e. let l = ltb-true _ _ e in known l (found_holds with-key n l) (none_before with-key n))
    (λ e. let l = ltb-false (first_below with-key n) n e in
    let none-with : (j : ℕ) → j < n → with-key j ≡ false = λ j h. none_before with-key n j (omega arith) in
    dite (dec_lt (first_below free n) n) (λ h. taken h (found_holds free n h) (none_before free n) none-with)
    (λ h. full (omega (arith, first_at_most free n)) (λ j m. none_before free n j (omega arith)) none-with))

-- One filing adds one to the counts and the unfiled number together, as long as that number is not full.
pub one_more : (k : Refusal) (f : Files) → f.unfiled < most → total (filed k f) ≡ total f + 1
one_more k f h = counting.one_more k f h

-- From a register of free records and nothing unfiled, below 4,294,967,296 refusals, the counts plus unfiled equal the refusals filed.
pub counts_add_up : (ks : List Refusal) (f : Files) → ((i : ℕ) → i < length f.register → is_free (get_or f.register i blank) ≡ true)
    → f.unfiled ≡ 0 → length ks < 4294967296 → total (filed_all ks f) ≡ length ks
counts_add_up ks f free unfiled few = let e = counting.counts_free f.register free in omega (arith, counting.adds_up ks f (omega arith))

-- The records that `empty` returns are all free.
pub empty_is_free : (register : List Record) → Empties register → (i : ℕ) → i < length register → is_free (get_or register i blank) ≡ true
empty_is_free register e i h =
    let l : i < 64 = omega (arith, ap length e) in
    ap is_free (ap (λ (r : List Record). get_or r i blank) e ∙ get_or-replicate 64 i blank blank l)

-- A call without a refusal changes neither the register nor the unfiled number.
pub not_refused_changes_nothing : (f : Files) → filed_if None f ≡ f
unfolding filed_if
not_refused_changes_nothing f = refl

-- a filing changes no length
length_at : (k : Refusal) (i : ℕ) (f : Files) → length (filed_at k i f).register ≡ length f.register
unfolding filed_at
length_at k i f = when_either (λ (g : Files). length g.register ≡ length f.register) _ _ _ (λ _. simp length-set) (λ _. refl)

-- The register keeps its length.
pub length-filed : (refusal : Option Refusal) (f : Files) → length (filed_if refusal f).register ≡ length f.register
unfolding filed_if filed
length-filed None f = refl
length-filed (Some k) f = length_at k (slot k f.register) f

-- For each public function, any two results that its promise allows are equal.
pub filed_in_determined : (k : Refusal) (r : Record) (unfiled : ℕ) → Determined (FilesOne k r unfiled)
filed_in_determined k r unfiled = one _

pub unfiled_more_determined : (unfiled : ℕ) → Determined (Unfiles unfiled)
unfiled_more_determined unfiled = one _

pub empty_determined : Determined Empties
empty_determined = one _

-- The counts of all records, as filings change them.
use mathlib.Core.Path.{◌≡◌, refl}
use mathlib.Core.Bool.{true}
use mathlib.Core.List.{List, [], ◌∷◌}
use Prim.Native.Nat.{ℕ, zero, suc, ◌+◌, ◌<◌, ◌≤◌}
use native.Mathlib.Omega.{arith}
use borrow.Author.Tests.{ltb-true, eqb-true}
use lib.ListN.{length, get_or, set}
use Rattle.lists.proofs.Laws.{when_either}
use Rattle.filing.specs.declared.Record.{Record}
use Rattle.filing.specs.declared.Refusal.{Refusal}
use Rattle.filing.specs.declared.Filed.{Filed}
use Rattle.filing.specs.Filing.{Files, blank, most, is_free, filed_in, filed_at, filed, filed_all, counts, total}

-- one record replaced changes the sum by that record
counts_set : (records : List Record) (i : ℕ) (r : Record) → i < length records
    → counts (set records i r) + (get_or records i blank).count ≡ counts records + r.count
unfolding counts
counts_set [] i r h = absurd (omega arith)
counts_set (q ∷ records) zero r h = omega arith
counts_set (q ∷ records) (suc i) r h = omega (arith, counts_set records i r (omega arith))

-- a record and the unfiled number together get one more
one_more_in : (k : Refusal) (r : Record) (unfiled : ℕ) → unfiled < most
    → (filed_in k r unfiled).fault.count + (filed_in k r unfiled).unfiled ≡ r.count + unfiled + 1
unfolding filed_in
one_more_in k r unfiled h =
    when_either (λ (q : Filed). q.fault.count + q.unfiled ≡ r.count + unfiled + 1) _ _ _ (λ _. omega arith) (λ _. omega arith)

one_more_at : (k : Refusal) (i : ℕ) (f : Files) → f.unfiled < most → total (filed_at k i f) ≡ total f + 1
unfolding filed_at
one_more_at k i f h =
    let r = get_or f.register i blank in
    when_either (λ (g : Files). total g ≡ total f + 1) _ _ _
    (λ e. omega (arith, counts_set f.register i (filed_in k r f.unfiled).fault (ltb-true _ _ e), one_more_in k r f.unfiled h))
    (λ _. omega arith)

pub one_more : (k : Refusal) (f : Files) → f.unfiled < most → total (filed k f) ≡ total f + 1
unfolding filed
one_more k f h = one_more_at k _ f h

-- refusals filed add up, as long as the unfiled number cannot be full
pub adds_up : (ks : List Refusal) (f : Files) → total f + length ks ≤ most → total (filed_all ks f) ≡ total f + length ks
unfolding filed_all
adds_up [] f h = omega arith
adds_up (k ∷ ks) f h =
    let e = one_more k f (omega arith) in
    omega (arith, adds_up ks (filed k f) (omega arith))

-- free records count nothing
pub counts_free : (records : List Record) → ((i : ℕ) → i < length records → is_free (get_or records i blank) ≡ true) → counts records ≡ 0
unfolding counts
counts_free [] h = refl
counts_free (r ∷ records) h = omega (arith, eqb-true r.count 0 (h 0 (omega arith)), counts_free records (λ i l. h (suc i) (omega arith)))

-- A recording's entries, one at a time.
use mathlib.Core.Path.{◌≡◌, refl, sym, ◌∙◌}
use mathlib.Core.List.{List, [], ◌∷◌}
use mathlib.Core.Logic.{dite}
use Prim.Native.Nat.{ℕ, zero, suc, ◌+◌, ◌<◌, ◌≤◌, min}
use native.Mathlib.Decide.{dec_lt}
use native.Mathlib.Nat.{add-zero}
use native.Mathlib.Omega.{arith}
use borrow.Author.Tests.{lt-ltb, le-ltb}
use Rattle.std.specs.Prelude.{Ok, Err}
use Rattle.recordings.specs.declared.Flaw.{Flaw}
use Rattle.recordings.specs.declared.Flaw.TheVariants.{Direction, CutShort}
use lib.ListN.{length, drop, drop_of_length-le}
use lib.Seq.{drop-cons, drop-drop}
use Rattle.lists.proofs.Laws.{when_true, when_false}
use Rattle.recordings.specs.Recording.{low16, direction, entry_end, entries_from, entries_of, entry_fault, first_fault}

-- the bytes that belong to the entry before are passed over
passed : (r : List ℕ) (at k : ℕ) (bytes : List ℕ) → entries_from r at k bytes ≡ entries_from r (at + k) 0 (drop k bytes)
unfolding entries_from
passed r at zero [] = refl
passed r at zero (b ∷ bytes) = simp add-zero
passed r at (suc k) [] = refl
passed r at (suc k) (b ∷ bytes) = let e : at + suc k ≡ suc at + k = omega arith in rw e (passed r (suc at) k bytes)

module _ (r : List ℕ) (at : ℕ) where
  pub no_entry : length r ≤ at → entries_of r at ≡ []
  unfolding entries_from
  no_entry h = rw (drop_of_length-le r h)

  pub an_entry : at < length r → entries_of r at ≡ at ∷ entries_of r (entry_end r at)
  unfolding entries_from entry_end
  an_entry h =
      let n = low16 r (at + 1) in
      let e : suc at + (n + 2) ≡ at + (3 + n) = omega arith in
      rw (drop-cons r at 0 h, passed r (suc at) (n + 2) (drop (suc at) r), drop-drop, e)

  pub bad_direction : 1 < direction r at → entry_fault r at ≡ Err Direction
  unfolding entry_fault
  bad_direction h = when_true _ _ _ (lt-ltb 1 (direction r at) h)

  pub cut_short : direction r at ≤ 1 → length r < entry_end r at → entry_fault r at ≡ Err CutShort
  unfolding entry_fault
  cut_short h k = when_false _ _ _ (le-ltb 1 (direction r at) h) ∙ when_true _ _ _ (lt-ltb (length r) (entry_end r at) k)

  pub no_fault : direction r at ≤ 1 → entry_end r at ≤ length r → entry_fault r at ≡ Ok tt
  unfolding entry_fault
  no_fault h k = when_false _ _ _ (le-ltb 1 (direction r at) h) ∙ when_false _ _ _ (le-ltb (length r) (entry_end r at) k)

  -- the first fault at an entry that has one, and behind one that has none
  pub fault_here : (flaw : Flaw) → at < length r → entry_fault r at ≡ Err flaw → first_fault r (entries_of r at) ≡ Err flaw
  unfolding first_fault
  fault_here flaw h e = rw (an_entry h, e)

  pub fault_behind : at < length r → entry_fault r at ≡ Ok tt → first_fault r (entries_of r at) ≡ first_fault r (entries_of r (entry_end r at))
  unfolding first_fault
  fault_behind h e = rw (an_entry h, e)

  pub fault_none : length r ≤ at → first_fault r (entries_of r at) ≡ Ok tt
  unfolding first_fault
  fault_none h = rw (no_entry h)

  pub end_behind : at + 3 ≤ entry_end r at
  unfolding entry_end
  end_behind = omega arith

-- from behind the recording on there are no entries, as from its end on
pub entries_most : (r : List ℕ) (at at' : ℕ) → at' ≡ min at (length r) → entries_of r at' ≡ entries_of r at
entries_most r at at' e =
    dite (dec_lt (length r) at) (λ p. no_entry r at' (omega arith) ∙ sym (no_entry r at (omega arith))) (λ p. let s : at' ≡ at = omega arith in rw s)

-- the entries from one on are that one and those behind it, and no place behind the recording is one
pub in_turn : (r : List ℕ) (at next : ℕ) → at < length r → next ≡ min (entry_end r at) (length r) → entries_of r at ≡ at ∷ entries_of r next
in_turn r at next h p = rw (entries_most r (entry_end r at) next p) (an_entry r at h)

pub first_of_entries : (r : List ℕ) (a at : ℕ) (more : List ℕ) → entries_of r a ≡ at ∷ more → (at ≡ a) × (a < length r) × (more ≡ entries_of r (entry_end r a))
first_of_entries r a at more e =
    dite (dec_lt a (length r)) (λ h. let s = an_entry r a h in (cc, h, cc)) (λ h. let s = no_entry r a (omega arith) in cc)

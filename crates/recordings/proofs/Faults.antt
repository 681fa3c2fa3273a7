-- The check of a recording, sentence by sentence.
use mathlib.Core.Path.{◌≡◌, refl, sym, ◌∙◌}
use mathlib.Core.Bool.{Bool, true, false, not}
use mathlib.Core.List.{List, ◌∷◌}
use mathlib.Core.Logic.{dite}
use Rattle.std.specs.Prelude.{Result, Ok, Err}
use Rattle.recordings.specs.declared.Flaw.{Flaw}
use Rattle.recordings.specs.declared.Flaw.TheVariants.{TooLong, Mark, Version, Direction, CutShort}
use Prim.Native.Nat.{ℕ, ◌<◌, ◌≤◌}
use native.Mathlib.Decide.{dec_lt}
use native.Mathlib.Omega.{arith}
use borrow.Author.Tests.{lt-ltb, le-ltb}
use lib.ListN.{length}
use Rattle.lists.specs.Tests.{when◌then◌else◌, ◌<?◌}
use Rattle.lists.proofs.Laws.{when_true, when_false}
use Rattle.recordings.specs.declared.Fault.{Fault}
use Rattle.recordings.specs.Recording.{marked, versioned, direction, entry_end, entries_of, entry_fault, first_fault, first_faulty, recording_fault, faulty_place, fault_of, entries_checked}
use Rattle.recordings.proofs.Entries.{bad_direction, cut_short, no_fault, fault_here, fault_behind}

module _ (r : List ℕ) where
  pub too_long : 65535 < length r → (recording_fault r ≡ Err TooLong) × (faulty_place r ≡ 65535)
  unfolding recording_fault faulty_place
  too_long h = let l = lt-ltb 65535 (length r) h in (when_true _ _ _ l, when_true _ _ _ l)

  module _ (h : length r ≤ 65535) where
    short : (65535 <? length r) ≡ false
    short = le-ltb 65535 (length r) h

    pub unmarked : not (marked r) ≡ true → (recording_fault r ≡ Err Mark) × (faulty_place r ≡ 0)
    unfolding recording_fault faulty_place
    unmarked m = (when_false _ _ _ short ∙ when_true _ _ _ m, when_false _ _ _ short ∙ when_true _ _ _ m)

    module _ (m : not (marked r) ≡ false) where
      pub unversioned : not (versioned r) ≡ true → (recording_fault r ≡ Err Version) × (faulty_place r ≡ 3)
      unfolding recording_fault faulty_place
      unversioned v = (when_false _ _ _ short ∙ when_false _ _ _ m ∙ when_true _ _ _ v, when_false _ _ _ short ∙ when_false _ _ _ m ∙ when_true _ _ _ v)

      pub by_entries : not (versioned r) ≡ false → (recording_fault r ≡ first_fault r (entries_of r 5)) × (faulty_place r ≡ first_faulty r (entries_of r 5))
      unfolding recording_fault faulty_place
      by_entries v = (when_false _ _ _ short ∙ when_false _ _ _ m ∙ when_false _ _ _ v, when_false _ _ _ short ∙ when_false _ _ _ m ∙ when_false _ _ _ v)

  -- a recording that is fine is short enough, and so are its entries
  pub fine : recording_fault r ≡ Ok tt → (length r ≤ 65535) × (first_fault r (entries_of r 5) ≡ Ok tt)
  fine z =
      dite (dec_lt 65535 (length r)) (λ p. absurd (unlike (sym (too_long p).0 ∙ z)))
      (λ p. go (not (marked r)) refl (not (versioned r)) refl (omega arith))
    where
      unlike : {flaw : Flaw} → ◌≡◌ {A = Result (Unit {0}) Flaw} (Err flaw) (Ok tt) → ⊥
      unlike e = cc

      go : (m : Bool) → not (marked r) ≡ m → (v : Bool) → not (versioned r) ≡ v → length r ≤ 65535 → (length r ≤ 65535) × (first_fault r (entries_of r 5) ≡ Ok tt)
      go true e v f h = absurd (unlike (sym (unmarked h e).0 ∙ z))
      go false e true f h = absurd (unlike (sym (unversioned h e f).0 ∙ z))
      go false e false f h = (h, sym (by_entries h e f).0 ∙ z)

-- an entry without a fault, and one with one
module _ (r : List ℕ) (at : ℕ) (more : List ℕ) where
  pub checked_on : fault_of (entry_fault r at) at ≡ Ok tt → entries_checked r (at ∷ more) ≡ entries_checked r more
  unfolding first_fault first_faulty fault_of when◌then◌else◌
  checked_on h = go (entry_fault r at) refl
    where
      go : (f : Result (Unit {0}) Flaw) → entry_fault r at ≡ f → entries_checked r (at ∷ more) ≡ entries_checked r more
      go (Ok _) e = rw e
      go (Err flaw) e = let z = rw e at h in cc

  pub checked_at : (fault : Fault) → fault_of (entry_fault r at) at ≡ Err fault → entries_checked r (at ∷ more) ≡ Err fault
  unfolding first_fault first_faulty fault_of when◌then◌else◌
  checked_at fault h = go (entry_fault r at) refl
    where
      go : (f : Result (Unit {0}) Flaw) → entry_fault r at ≡ f → entries_checked r (at ∷ more) ≡ Err fault
      go (Ok _) e = let z = rw e at h in cc
      go (Err flaw) e = let z = rw e at h in rw e z

-- where no fault is found from an entry on, it ends inside the recording, and none is found behind it
pub fine_entry : (r : List ℕ) (at : ℕ) → at < length r → first_fault r (entries_of r at) ≡ Ok tt → (entry_end r at ≤ length r) × (first_fault r (entries_of r (entry_end r at)) ≡ Ok tt)
fine_entry r at h z =
    dite (dec_lt 1 (direction r at)) (λ p. absurd (unlike (fault_here r at Direction h (bad_direction r at p))))
    (λ p. dite (dec_lt (length r) (entry_end r at)) (λ q. absurd (unlike (fault_here r at CutShort h (cut_short r at (omega arith) q))))
    (λ q. (omega arith, sym (fault_behind r at h (no_fault r at (omega arith) (omega arith))) ∙ z)))
  where
    unlike : {flaw : Flaw} → first_fault r (entries_of r at) ≡ Err flaw → ⊥
    unlike e = cc

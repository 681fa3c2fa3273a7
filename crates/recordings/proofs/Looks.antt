-- Looking for a packet, one entry at a time.
use mathlib.Core.Path.{◌≡◌, refl, sym, ◌∙◌, ap}
use mathlib.Core.Bool.{Bool, true, false}
use mathlib.Core.List.{List, [], ◌∷◌}
use mathlib.Core.Logic.{dite}
use Rattle.std.specs.Prelude.{Some, None, Ok, Err}
use Rattle.lists.specs.Tests.{when◌then◌else◌}
use Rattle.recordings.specs.declared.Flaw.{Flaw}
use Prim.Native.Nat.{ℕ, zero, suc, ◌+◌, ◌-◌, ◌<◌, ◌≤◌, min}
use native.Mathlib.Decide.{dec_lt}
use native.Mathlib.Omega.{arith}
use borrow.Author.Tests.{lt-ltb, le-ltb, eq-eqb, ne_eqb}
use lib.ListN.{length, take, drop, length-drop, drop_of_length-le}
use lib.Seq.{length-take-le}
use Rattle.std.proofs.lemmas.List.{get_or_past}
use Rattle.lists.proofs.Laws.{when_true, when_false, take_limited}
use Rattle.recordings.specs.declared.Found.{Found}
use Rattle.recordings.specs.Recording.{direction, entry_end, entries_of, recording_fault, faulty_place, fault_of}
use Rattle.recordings.specs.Next.{before, from_of, rest_of, holds_packet, packet_from, no_packet, in_entry, first_packet, next_packet}
use Rattle.recordings.proofs.Entries.{no_entry, an_entry}

-- what is left of the smaller of two ends
less_both : (f e a b : ℕ) → e ≡ min a b → e - f ≡ min (a - f) (b - f)
less_both f e a b h = omega arith

take-nil : (n : ℕ) → take {A = ℕ} n [] ≡ []
take-nil zero = refl
take-nil (suc n) = refl

module _ (r : List ℕ) (place at : ℕ) where
  pub panel_entry : (direction r at ≡ 0 → ⊥) → in_entry r place at ≡ None
  unfolding in_entry holds_packet
  panel_entry h = when_false _ _ _ (rw (ne_eqb (direction r at) 0 h))

  pub none_in : length (rest_of r place at) ≤ before (rest_of r place at) → direction r at ≡ 0 → in_entry r place at ≡ None
  unfolding in_entry holds_packet
  none_in h d = when_false _ _ _ (rw (eq-eqb (direction r at) 0 d, le-ltb (before (rest_of r place at)) (length (rest_of r place at)) h))

  pub one_in : before (rest_of r place at) < length (rest_of r place at) → direction r at ≡ 0
      → in_entry r place at ≡ Some (packet_from r (from_of place at + before (rest_of r place at)))
  unfolding in_entry holds_packet
  one_in h d = when_true _ _ _ (rw (eq-eqb (direction r at) 0 d, lt-ltb (before (rest_of r place at)) (length (rest_of r place at)) h))

  pub found_first : (more : List ℕ) (f : Found) → in_entry r place at ≡ Some f → first_packet r place (at ∷ more) ≡ Some f
  unfolding first_packet in_entry when◌then◌else◌
  found_first more f e = go (holds_packet r place at) refl
    where
      go : (t : Bool) → holds_packet r place at ≡ t → first_packet r place (at ∷ more) ≡ Some f
      go true h = rw h (rw h at e)
      go false h = let z = rw h at e in cc

  pub found_later : (more : List ℕ) → in_entry r place at ≡ None → first_packet r place (at ∷ more) ≡ first_packet r place more
  unfolding first_packet in_entry when◌then◌else◌
  found_later more e = go (holds_packet r place at) refl
    where
      go : (t : Bool) → holds_packet r place at ≡ t → first_packet r place (at ∷ more) ≡ first_packet r place more
      go true h = let z = rw h at e in cc
      go false h = rw h

  -- no entry stands past the recording's end
  pub none_past : length r ≤ at → in_entry r place at ≡ None
  none_past h =
      none_in (rw (drop_of_length-le r {i = from_of place at} (omega arith), take-nil (entry_end r at - from_of place at)) (omega arith)) (get_or_past r at 0 h)

  -- the first packet is the entry's, where it has one, and else that of the entries behind it
  pub found_here : (f : Found) → at < length r → in_entry r place at ≡ Some f → first_packet r place (entries_of r at) ≡ Some f
  unfolding first_packet
  found_here f h e = rw (an_entry r at h) (found_first (entries_of r (entry_end r at)) f e)

  pub found_behind : at < length r → in_entry r place at ≡ None → first_packet r place (entries_of r at) ≡ first_packet r place (entries_of r (entry_end r at))
  unfolding first_packet
  found_behind h e = rw (an_entry r at h) (found_later (entries_of r (entry_end r at)) e)

  pub found_none : length r ≤ at → first_packet r place (entries_of r at) ≡ None
  unfolding first_packet
  found_none h = rw (no_entry r at h)

  -- the bytes that the code looks at, from start up to end, which are both inside the recording
  module _ (end start : ℕ) (e : end ≡ min (entry_end r at) (length r)) (s : start ≡ min (from_of place at) end) where
    rest_inside : from_of place at ≤ end → take (end - start) (drop start r) ≡ rest_of r place at
    rest_inside h =
        let f : start ≡ from_of place at = omega arith in
        rw f (take_limited (end - from_of place at) (entry_end r at - from_of place at) (length r - from_of place at) (drop (from_of place at) r) (less_both (from_of place at) end (entry_end r at) (length r) e) (omega (arith, length-drop (from_of place at) r)))

    rest_outside : end < from_of place at → take (end - start) (drop start r) ≡ rest_of r place at
    rest_outside h =
        let z : end - start ≡ 0 = omega arith in
        dite (dec_lt (entry_end r at) (from_of place at)) (λ p. let y : entry_end r at - from_of place at ≡ 0 = omega arith in rw (z, y))
        (λ p. rw (z, drop_of_length-le r {i = from_of place at} (omega arith)) (sym (take-nil (entry_end r at - from_of place at))))

    pub rest_cut : take (end - start) (drop start r) ≡ rest_of r place at
    rest_cut = dite (dec_lt end (from_of place at)) rest_outside (λ p. rest_inside (omega arith))

    pub rest_size : length (rest_of r place at) ≡ end - start
    rest_size = ap length (sym rest_cut) ∙ length-take-le (end - start) (drop start r) (omega (arith, length-drop start r))

    module _ (i : ℕ) (b : i ≡ before (take (end - start) (drop start r))) (d : direction r at ≡ 0) where
      same : i ≡ before (rest_of r place at)
      same = b ∙ ap before rest_cut

      pub one_by : i < end - start → Some (packet_from r (start + i)) ≡ in_entry r place at
      one_by h =
          let f : start ≡ from_of place at = omega arith in
          rw (f, same) (sym (one_in (omega (arith, same, rest_size)) d))

      pub none_by : end - start ≤ i → None ≡ in_entry r place at
      none_by h = sym (none_in (omega (arith, same, rest_size)) d)

module _ (r : List ℕ) (place : ℕ) where
  pub refuses : (flaw : Flaw) → recording_fault r ≡ Err flaw → next_packet r place ≡ no_packet flaw (faulty_place r)
  unfolding next_packet fault_of
  refuses flaw e = rw e

  pub seeks : recording_fault r ≡ Ok tt → next_packet r place ≡ Ok (first_packet r place (entries_of r 5))
  unfolding next_packet fault_of
  seeks z = rw z

-- What becomes of the bytes of a call, and how much it may hold, take and run through the checksum.
use mathlib.Core.Path.{◌≡◌, refl}
use mathlib.Core.List.{List, [], ◌∷◌, ◌++◌}
use Prim.Native.Nat.{ℕ, suc, ◌+◌, ◌*◌, ◌≤◌}
use native.Mathlib.Omega.{arith}
use lib.ListN.{length, take, drop, length-append, length-drop}
use lib.Seq.{length-take-le}
use Rattle.packets.specs.declared.Judgement.{Judgement}
use Rattle.packets.specs.declared.Judgement.TheVariants.{Wait, LongLength, WrongChecksum, Packet}
use Rattle.packets.specs.Judge.{length_byte, judge}
use Rattle.packets.proofs.Judgements.{Seen, short, part, wrong, whole, see}
use Rattle.framing.specs.Scan.{Ending, waiting, packet, Outcome, settle_at, settle, go_on, scan}
use Rattle.framing.proofs.Lines.{settle_taken}

-- the bytes of the packet that a call ends with
abbrev pub removed : Ending → ℕ
removed waiting = 0
removed (packet k d) = length d + 4

-- n bytes were there: each is dropped, of the packet or held, and each byte that went was checked 24 times at most
pub record Within (n : ℕ) (o : Outcome) : Type 0 where
  pub adds_up : n ≡ o.dropped + removed o.ending + length o.hold
  pub worked : o.checked ≤ 24 * (o.dropped + removed o.ending)

within_at : (b : ℕ) (h : List ℕ) (j : Judgement) (o : Outcome) → judge (b ∷ h) ≡ j → Within (length h) o → Within (length (b ∷ h)) (settle_at j (b ∷ h) o)
unfolding settle_at
within_at b h Wait o e i = record { adds_up = omega arith; worked = omega arith }
within_at b h LongLength o e i = record { adds_up = omega arith; worked = omega arith }
within_at b h WrongChecksum o e i = go (see (b ∷ h) WrongChecksum e)
  where
    go : Seen (b ∷ h) WrongChecksum → Within (length (b ∷ h)) (settle_at WrongChecksum (b ∷ h) o)
    go (wrong u v f) = record { adds_up = omega arith; worked = omega arith }
within_at b h Packet o e i = go (see (b ∷ h) Packet e)
  where
    go : Seen (b ∷ h) Packet → Within (length (b ∷ h)) (settle_at Packet (b ∷ h) o)
    go (whole u v f) =
        let n = length_byte (b ∷ h) in
        let l : length (take n (drop 2 (b ∷ h))) ≡ n = length-take-le n (drop 2 (b ∷ h)) (omega (arith, length-drop 2 (b ∷ h))) in
        record { adds_up = omega (arith, length-drop (n + 4) (b ∷ h)); worked = omega arith }

within : (h : List ℕ) → Within (length h) (settle h)
unfolding settle
within [] = record { adds_up = omega arith; worked = omega arith }
within (b ∷ h) = within_at b h (judge (b ∷ h)) (settle h) refl (within h)

call_at : (b : ℕ) (h : List ℕ) (a : Ending) (q : Outcome) → (settle h).ending ≡ a → Within (length h) (settle h) → Within (length ((settle h).hold ++ b ∷ []) + q.taken) q
    → Within (length h + (go_on a (settle h) q).taken) (go_on a (settle h) q)
unfolding go_on
call_at b h waiting q e i j =
    let u = length-append (settle h).hold (b ∷ []) in
    record { adds_up = omega (arith, rw e at i.adds_up, j.adds_up); worked = omega (arith, rw e at i.worked, j.worked) }
call_at b h (packet k d) q e i j = record { adds_up = omega (arith, settle_taken h, i.adds_up); worked = i.worked }

-- the bytes of a call are those held before and those taken
pub call : (h p : List ℕ) → Within (length h + (scan h p).taken) (scan h p)
unfolding scan
call h [] = let i = within h in record { adds_up = omega (arith, settle_taken h, i.adds_up); worked = i.worked }
call h (b ∷ p) = let g = (settle h).hold ++ b ∷ [] in call_at b h (settle h).ending (scan g p) refl (within h) (call g p)

held_at : (b : ℕ) (h : List ℕ) (j : Judgement) (o : Outcome) → judge (b ∷ h) ≡ j → length h ≤ 25 → length o.hold ≤ 25 → length (settle_at j (b ∷ h) o).hold ≤ 25
unfolding settle_at
held_at b h Wait o e n i = go (see (b ∷ h) Wait e)
  where
    go : Seen (b ∷ h) Wait → length (b ∷ h) ≤ 25
    go (short u) = omega arith
    go (part u v w) = omega arith
held_at b h LongLength o e n i = i
held_at b h WrongChecksum o e n i = i
held_at b h Packet o e n i = omega (arith, length-drop (length_byte (b ∷ h) + 4) (b ∷ h))

settled_at_most : (h : List ℕ) → length h ≤ 26 → length (settle h).hold ≤ 25
unfolding settle
settled_at_most [] n = omega arith
settled_at_most (b ∷ h) n = held_at b h (judge (b ∷ h)) (settle h) refl (omega arith) (settled_at_most h (omega arith))

-- one byte over 25 is always judged away
pub at_most_25 : (h p : List ℕ) → length h ≤ 26 → length (scan h p).hold ≤ 25
unfolding scan go_on
at_most_25 h [] n = settled_at_most h n
at_most_25 h (b ∷ p) n =
    let g = (settle h).hold ++ b ∷ [] in
    go (settle h).ending (scan g p) (at_most_25 g p (omega (arith, settled_at_most h n, length-append (settle h).hold (b ∷ []))))
  where
    go : (a : Ending) (q : Outcome) → length q.hold ≤ 25 → length (go_on a (settle h) q).hold ≤ 25
    go waiting q i = i
    go (packet k d) q i = settled_at_most h n

-- a call takes no more than its piece
pub taken_at_most : (h p : List ℕ) → (scan h p).taken ≤ length p
unfolding scan go_on
taken_at_most h [] = omega (arith, settle_taken h)
taken_at_most h (b ∷ p) = let g = (settle h).hold ++ b ∷ [] in go (settle h).ending (scan g p) (taken_at_most g p)
  where
    go : (a : Ending) (q : Outcome) → q.taken ≤ length p → (go_on a (settle h) q).taken ≤ suc (length p)
    go waiting q i = omega arith
    go (packet k d) q i = omega (arith, settle_taken h)

-- Asking until there is no more, an answer at a time.
use mathlib.Core.Path.{◌≡◌, refl, sym, ◌∙◌, ap}
use mathlib.Core.Logic.{dite}
use Rattle.std.specs.Prelude.{Option, Some, None, Result, Ok}
use Rattle.recordings.specs.declared.Fault.{Fault}
use mathlib.Core.List.{List, [], ◌∷◌, ◌++◌}
use Prim.Native.Nat.{ℕ, zero, suc, ◌+◌, ◌-◌, ◌<◌, ◌≤◌}
use native.Mathlib.Decide.{dec_lt}
use native.Mathlib.Omega.{arith}
use lib.ListN.{length}
use Rattle.packets.specs.declared.Packet as packets
use Rattle.framing.specs.Line.{line_behind}
use Rattle.recordings.specs.declared.Found.{Found}
use Rattle.recordings.specs.Recording.{direction, entry_end, entries_of, first_fault, recording_fault}
use Rattle.recordings.specs.Next.{before, from_of, rest_of, packet_from, in_entry, first_packet}
use Rattle.recordings.specs.Asking.{packet_found, Asked, over, one, AskedReader, AskedEntry, entry_packets, packets_of}
use Rattle.recordings.proofs.Entries.{no_entry, an_entry, end_behind}
use Rattle.recordings.proofs.Faults.{fine, fine_entry}
use Rattle.recordings.proofs.Lines.{none_left}
use Rattle.recordings.proofs.Looks.{panel_entry, none_in, one_in, found_here, found_behind, found_none, seeks}
use Rattle.recordings.proofs.Parts.{host, not_host, next_bounds, packets_step}

abbrev pub packets_from : List ℕ → ℕ → ℕ → List packets.Packet
packets_from r place at = packets_of r place (entries_of r at)

module _ (r : List ℕ) (at : ℕ) where
  pub no_packets : (place : ℕ) → length r ≤ at → packets_from r place at ≡ []
  unfolding packets_of
  no_packets place h = rw (no_entry r at h)

  pub entry_first : (place : ℕ) → at < length r → packets_from r place at ≡ entry_packets r place at ++ packets_from r place (entry_end r at)
  unfolding packets_of
  entry_first place h = rw (an_entry r at h)

  -- nothing is left of an entry from its end on
  gone : (place : ℕ) → entry_end r at ≤ place → entry_packets r place at ≡ []
  unfolding line_behind
  gone place h =
      dite (dec_lt 0 (direction r at)) (λ p. not_host r place at (λ z. omega arith))
      (λ p. let z : entry_end r at - from_of place at ≡ 0 = omega arith in host r place at (omega arith) ∙ rw z)

  same_start : (place place' : ℕ) → place ≤ at + 3 → place' ≤ at + 3 → entry_packets r place at ≡ entry_packets r place' at
  unfolding entry_packets
  same_start place place' h h' =
      let e : from_of place at ≡ at + 3 = omega arith in
      let e' : from_of place' at ≡ at + 3 = omega arith in
      rw (e, e')

-- places before the entries are all alike
early : (n : ℕ) (r : List ℕ) (place place' at : ℕ) → length r ≤ at + n → place ≤ at + 3 → place' ≤ at + 3 → packets_from r place at ≡ packets_from r place' at
early zero r place place' at l h h' = no_packets r at place (omega arith) ∙ sym (no_packets r at place' (omega arith))
early (suc n) r place place' at l h h' =
    dite (dec_lt at (length r))
    (λ p. entry_first r at place p
    ∙ rw (same_start r at place place' h h', early n r place place' (entry_end r at) (omega (arith, end_behind r at)) (omega (arith, end_behind r at)) (omega (arith, end_behind r at)))
    (sym (entry_first r at place' p)))
    (λ p. no_packets r at place (omega arith) ∙ sym (no_packets r at place' (omega arith)))

-- what an answer from a place on says of the packets from there on
data Told (r : List ℕ) (place at : ℕ) (o : Option Found) : Type 0 where
  found : (f : Found) → o ≡ Some f → packets_from r place at ≡ packet_found r f ∷ packets_from r f.next at → place < f.next → at + 3 ≤ f.next → f.next ≤ length r → f.next ≡ f.start + f.length + 2 → Told r place at o
  none : o ≡ None → packets_from r place at ≡ [] → Told r place at o

module _ (r : List ℕ) (place at : ℕ) (h : at < length r) where
  -- the entry holds none: the answer is that of the entries behind it
  behind : entry_packets r place at ≡ [] → in_entry r place at ≡ None → Told r place (entry_end r at) (first_packet r place (entries_of r (entry_end r at)))
      → Told r place at (first_packet r place (entries_of r at))
  behind e i t = rw (found_behind r place at h i) (go t)
    where
      go : {o : Option Found} → Told r place (entry_end r at) o → Told r place at o
      go (found f n p a b d s) =
          found f n (entry_first r at place h ∙ rw (e, p) (ap (λ (l : List packets.Packet). packet_found r f ∷ l) (sym (entry_first r at f.next h ∙ rw (gone r at f.next (omega arith))))))
          a (omega (arith, end_behind r at)) d s
      go (none n p) = none n (entry_first r at place h ∙ rw (e, p))

  -- the entry holds one
  here : direction r at ≡ 0 → before (rest_of r place at) < length (rest_of r place at) → entry_end r at ≤ length r → Told r place at (first_packet r place (entries_of r at))
  here d b w =
      let n = next_bounds r place at d b in
      let f = packet_from r (from_of place at + before (rest_of r place at)) in
      found f (found_here r place at f h (one_in r place at b d))
      (entry_first r at place h
      ∙ rw (packets_step r place at d b, early (length r) r place f.next (entry_end r at) (omega arith) (omega arith) (omega arith))
      (ap (λ (l : List packets.Packet). packet_found r f ∷ l) (sym (entry_first r at f.next h))))
      n.1 n.2 (omega arith) (omega arith)

tells : (n : ℕ) (r : List ℕ) (place at : ℕ) → length r ≤ at + n → first_fault r (entries_of r at) ≡ Ok tt → Told r place at (first_packet r place (entries_of r at))
tells zero r place at l z = none (found_none r place at (omega arith)) (no_packets r at place (omega arith))
tells (suc n) r place at l z =
    dite (dec_lt at (length r))
    (λ h. let f = fine_entry r at h z in
    let t = tells n r place (entry_end r at) (omega (arith, end_behind r at)) f.1 in
    dite (dec_lt 0 (direction r at)) (λ p. behind r place at h (not_host r place at (λ z. omega arith)) (panel_entry r place at (λ z. omega arith)) t)
    (λ p. dite (dec_lt (before (rest_of r place at)) (length (rest_of r place at))) (λ b. here r place at h (omega arith) b f.0)
    (λ b. behind r place at h (host r place at (omega arith) ∙ none_left (rest_of r place at) (omega arith)) (none_in r place at (omega arith) (omega arith)) t)))
    (λ h. none (found_none r place at (omega arith)) (no_packets r at place (omega arith)))

module _ (r : List ℕ) (z : recording_fault r ≡ Ok tt) where
  told : (place : ℕ) → Told r place 5 (first_packet r place (entries_of r 5))
  told place = tells (length r) r place 5 (omega arith) (fine r z).1

  pub inside : (place : ℕ) (f : Found) → first_packet r place (entries_of r 5) ≡ Some f → f.start + f.length + 2 ≤ length r
  inside place f n = go (told place)
    where
      go : Told r place 5 (first_packet r place (entries_of r 5)) → f.start + f.length + 2 ≤ length r
      go (found g m p a b d s) = let e : g ≡ f = cc in rw e at (rw s at d)
      go (none m p) = cc

  asks_at : (n place : ℕ) → ((next : ℕ) → place < next → next ≤ length r → AskedReader r next (packets_from r next 5)) → Told r place 5 (first_packet r place (entries_of r 5)) → AskedReader r place (packets_from r place 5)
  asks_at n place ih (found f k p a b d s) = rw p (one (seeks r place z ∙ ap Ok k) (ih f.next a d))
  asks_at n place ih (none k p) = rw p (over (seeks r place z ∙ ap Ok k))

  asks : (n place : ℕ) → length r ≤ place + n → AskedReader r place (packets_from r place 5)
  asks zero place l = asks_at zero place (λ next a d. absurd (omega arith)) (told place)
  asks (suc n) place l = asks_at n place (λ next a d. asks n next (omega arith)) (told place)

  pub asks_from : (place : ℕ) → AskedReader r place (packets_of r place (entries_of r 5))
  asks_from place = asks (length r) place (omega arith)

-- what one entry's answer says of its packets
data Says (r : List ℕ) (place at : ℕ) (o : Option Found) : Type 0 where
  holding : (f : Found) → o ≡ Some f → entry_packets r place at ≡ packet_found r f ∷ entry_packets r f.next at → place < f.next → f.next ≤ entry_end r at → Says r place at o
  empty : o ≡ None → entry_packets r place at ≡ [] → Says r place at o

says : (r : List ℕ) (place at : ℕ) → Says r place at (in_entry r place at)
says r place at =
    dite (dec_lt 0 (direction r at)) (λ p. empty (panel_entry r place at (λ z. omega arith)) (not_host r place at (λ z. omega arith)))
    (λ p. dite (dec_lt (before (rest_of r place at)) (length (rest_of r place at)))
    (λ b. let d : direction r at ≡ 0 = omega arith in
    let n = next_bounds r place at d b in
    holding (packet_from r (from_of place at + before (rest_of r place at))) (one_in r place at b d) (packets_step r place at d b) n.1 n.0)
    (λ b. empty (none_in r place at (omega arith) (omega arith)) (host r place at (omega arith) ∙ none_left (rest_of r place at) (omega arith))))

-- a packet's next place is further on in the entry
pub moves_on : (r : List ℕ) (place at : ℕ) (f : Found) → in_entry r place at ≡ Some f → (place < f.next) × (f.next ≤ entry_end r at)
moves_on r place at f n = go (says r place at)
  where
    go : Says r place at (in_entry r place at) → (place < f.next) × (f.next ≤ entry_end r at)
    go (holding g k p a b) =
        let e : g ≡ f = cc in
        let both : (place < g.next) × (g.next ≤ entry_end r at) = (a, b) in
        rw e at both
    go (empty k p) = cc

module _ (r : List ℕ) (at : ℕ) where
  entry_at : (n place : ℕ) → ((next : ℕ) → place < next → next ≤ entry_end r at → AskedEntry r at next (entry_packets r next at)) → Says r place at (in_entry r place at) → AskedEntry r at place (entry_packets r place at)
  entry_at n place ih (holding f k p a b) = rw p (one (ap Ok k) (ih f.next a b))
  entry_at n place ih (empty k p) = rw p (over (ap Ok k))

  entry_asked : (n place : ℕ) → entry_end r at ≤ place + n → AskedEntry r at place (entry_packets r place at)
  entry_asked zero place l = entry_at zero place (λ next a b. absurd (omega arith)) (says r place at)
  entry_asked (suc n) place l = entry_at n place (λ next a b. entry_asked n next (omega arith)) (says r place at)

  pub entry_from : (place : ℕ) → AskedEntry r at place (entry_packets r place at)
  entry_from place = entry_asked (entry_end r at) place (omega arith)

-- asking has one outcome
pub asked_alike : {ask : ℕ → Result (Option Found) Fault} {r : List ℕ} {place : ℕ} {a b : List packets.Packet} → Asked ask r place a → Asked ask r place b → a ≡ b
asked_alike (over n) (over m) = refl
asked_alike {ask} {r} {place} (one {f} n p) (one {f = g} m q) =
    let e : f ≡ g = cc in
    let o = asked_alike (rw e at p) q in
    rw e (ap (λ (l : List packets.Packet). packet_found r g ∷ l) o)
asked_alike (over n) (one m q) = cc
asked_alike (one n p) (over m) = cc

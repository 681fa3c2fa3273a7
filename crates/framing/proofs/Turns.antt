-- What holds at each turn of a walk over bytes, and where it ends.
use mathlib.Core.Path.{◌≡◌, refl, sym, ◌∙◌, ap}
use mathlib.Core.Bool.{Bool, true, false}
use mathlib.Core.List.{List, [], ◌++◌, append-nil}
use Prim.Native.Nat.{ℕ, ◌+◌, ◌-◌, ◌<◌, ◌≤◌, min}
use native.Mathlib.Nat.{zero-add, add-zero}
use native.Mathlib.Omega.{arith}
use lib.ListN.{length, take, drop, get_or, length-append, length-take, length-drop, drop_of_length-le}
use lib.Seq.{length-take-le, take-add, drop-drop, get_or-take, get_or-drop, take-append-le, drop-append-le}
use Rattle.lists.proofs.Laws.{part, when_true, when_false}
use Rattle.packets.specs.declared.Judgement.TheVariants.{Wait, LongLength, WrongChecksum, Packet}
use Rattle.packets.specs.Judge.{length_byte, judge}
use Rattle.packets.proofs.Judgements as seen
use Rattle.packets.proofs.Judgements.{Seen, see}
use Rattle.framing.specs.declared.Walked.{Walked}
use Rattle.framing.specs.Scan.{after, settle, scan}
use Rattle.framing.specs.Walk.{between, from, needed, Reaches, Walks}
use Rattle.framing.proofs.Waits.{waits_for, more_wait}
use Rattle.framing.proofs.Steps.{takes, settle_found, finds, drops_long, drops_wrong, after_after}

pub first_turn : (bytes : List ℕ) (s e : ℕ) → s ≤ e → e ≤ s + 26 → e ≤ length bytes → Reaches bytes s e s e 0
first_turn bytes s e a b c =
    let t : e - e ≡ 0 = omega arith in
    let d : s - s ≡ 0 = omega arith in
    record {
      same = λ more. rw (t, d) (simp zero-add);
      front = omega arith;
      order = a;
      behind = omega arith;
      within = c;
      room = b;
      work = omega arith;
    }

module _ (bytes : List ℕ) (s₀ e₀ s e k : ℕ) (v : Reaches bytes s₀ e₀ s e k) where
  count : length (between s e bytes) ≡ e - s
  count = length-take-le (e - s) (drop s bytes) (omega (arith, length-drop s bytes, v.within))

  -- bytes behind change nothing of what is held
  held_more : (more : List ℕ) → between s e (bytes ++ more) ≡ between s e bytes
  held_more more =
      let a : s ≤ length bytes = omega (arith, v.order, v.within) in
      let b : e - s ≤ length (drop s bytes) = omega (arith, length-drop s bytes, v.within) in
      rw (drop-append-le s bytes more a, take-append-le (e - s) (drop s bytes) more b)

  pub waits : judge (between s e bytes) ≡ Wait → e ≤ s + 25
  waits w = let n = waits_for (between s e bytes) w in omega (arith, count, v.order)

  pub longs : judge (between s e bytes) ≡ LongLength → s + 2 ≤ e
  longs j = go (see (between s e bytes) LongLength j)
    where
      go : Seen (between s e bytes) LongLength → s + 2 ≤ e
      go (seen.long a b) = omega (arith, count)

  pub wrongs : judge (between s e bytes) ≡ WrongChecksum → (s + 4 ≤ e) × (length_byte (between s e bytes) ≤ 22) × (length_byte (between s e bytes) ≡ get_or bytes (s + 1) 0)
  wrongs j = go (see (between s e bytes) WrongChecksum j)
    where
      go : Seen (between s e bytes) WrongChecksum → (s + 4 ≤ e) × (length_byte (between s e bytes) ≤ 22) × (length_byte (between s e bytes) ≡ get_or bytes (s + 1) 0)
      go (seen.wrong a b f) = (omega (arith, count), a, get_or-take (e - s) (drop s bytes) 1 0 (omega (arith, count)) ∙ get_or-drop s bytes 1 0)

  -- all bytes but the oldest
  rest : (l : List ℕ) → s + 1 ≤ e → drop 1 (between s e l) ≡ between (s + 1) e l
  rest l n =
      let a : e - s - 1 ≡ e - (s + 1) = omega arith in
      sym (part 1 (e - s) (drop s l) (omega arith)) ∙ rw (a, drop-drop)

  pub dropped_long : judge (between s e bytes) ≡ LongLength → Reaches bytes s₀ e₀ (s + 1) e k
  dropped_long j =
      let n = longs j in
      let d : s + 1 - s₀ ≡ s - s₀ + 1 = omega (arith, v.front) in
      record {
        same = λ more.
            let l = bytes ++ more in
            let u : from s e l ≡ after 0 1 0 (from (s + 1) e l) = drops_long (between s e l) (drop e l) (rw (held_more more) j) ∙ rw (rest l (omega arith)) in
            v.same more ∙ ap (after (e - e₀) (s - s₀) k) u ∙ after_after (e - e₀) (s - s₀) k 0 1 0 (from (s + 1) e l) ∙ rw (d, add-zero, add-zero);
        front = omega (arith, v.front);
        order = omega arith;
        behind = v.behind;
        within = v.within;
        room = omega (arith, v.room);
        work = omega (arith, v.work, v.front);
      }

  pub dropped_wrong : (n : ℕ) → judge (between s e bytes) ≡ WrongChecksum → n ≡ get_or bytes (s + 1) 0 → Reaches bytes s₀ e₀ (s + 1) e (k + (n + 2))
  dropped_wrong n j f =
      let m = wrongs j in
      let q : length_byte (between s e bytes) ≡ n = m.2 ∙ sym f in
      let d : s + 1 - s₀ ≡ s - s₀ + 1 = omega (arith, v.front) in
      record {
        same = λ more.
            let l = bytes ++ more in
            let g : length_byte (between s e l) ≡ n = ap length_byte (held_more more) ∙ q in
            let u : from s e l ≡ after 0 1 (n + 2) (from (s + 1) e l) = drops_wrong (between s e l) (drop e l) (rw (held_more more) j) ∙ rw (rest l (omega arith), g) in
            v.same more ∙ ap (after (e - e₀) (s - s₀) k) u ∙ after_after (e - e₀) (s - s₀) k 0 1 (n + 2) (from (s + 1) e l) ∙ rw (d, add-zero);
        front = omega (arith, v.front);
        order = omega arith;
        behind = v.behind;
        within = v.within;
        room = omega (arith, v.room);
        work = omega (arith, v.work, v.front);
      }

  -- m bytes more
  longer : (l : List ℕ) (m : ℕ) → between s e l ++ take m (drop e l) ≡ between s (e + m) l
  longer l m =
      let a : e + m - s ≡ e - s + m = omega (arith, v.order) in
      let b : s + (e - s) ≡ e = omega (arith, v.order) in
      rw (a, take-add (e - s) m (drop s l), drop-drop, b)

  waits_on : (m : ℕ) → judge (between s e bytes) ≡ Wait → e + m ≤ s + needed (between s e bytes) → (i : ℕ) → i < m → (l : List ℕ) → judge (between s e bytes ++ take i l) ≡ Wait
  waits_on m j n i p l = more_wait (between s e bytes) (take i l) j (omega (arith, length-take i l, count, v.order))

  took_some : (m : ℕ) → judge (between s e bytes) ≡ Wait → e + m ≤ s + needed (between s e bytes) → e + m ≤ length bytes → Reaches bytes s₀ e₀ s (e + m) k
  took_some m j n h =
      let b : e + m - e₀ ≡ e - e₀ + m = omega (arith, v.behind) in
      let w = waits_for (between s e bytes) j in
      record {
        same = λ more.
            let l = bytes ++ more in
            let x : m ≤ length (drop e l) = omega (arith, length-drop e l, length-append bytes more) in
            let y : (i : ℕ) → i < m → judge (between s e l ++ take i (drop e l)) ≡ Wait = λ i p. rw (held_more more) (waits_on m j n i p (drop e l)) in
            let u : from s e l ≡ after m 0 0 (from s (e + m) l) = takes m (between s e l) (drop e l) x y ∙ rw (longer l m, drop-drop) in
            v.same more ∙ ap (after (e - e₀) (s - s₀) k) u ∙ after_after (e - e₀) (s - s₀) k m 0 0 (from s (e + m) l) ∙ rw (b, add-zero, add-zero);
        front = v.front;
        order = omega (arith, v.order);
        behind = omega (arith, v.behind);
        within = h;
        room = omega arith;
        work = v.work;
      }

  -- the bytes that are needed, or all that there are
  module _ (n e' : ℕ) (j : judge (between s e bytes) ≡ Wait) (f : n ≡ needed (between s e bytes)) (g : e' ≡ min (s + n) (length bytes)) where
    pub farther : e < length bytes → e < e'
    farther h = let w = waits_for (between s e bytes) j in omega (arith, count, v.order)

    pub took : e < length bytes → Reaches bytes s₀ e₀ s e' k
    took h =
        let a : e + (e' - e) ≡ e' = omega (arith, farther h) in
        rw a at (took_some (e' - e) j (omega arith) (omega arith))

  -- where a walk ends
  pub brought : judge (between s e bytes) ≡ Packet → (more : List ℕ) → from s e (bytes ++ more) ≡ settle (between s e bytes)
  brought j more = rw (held_more more) (finds (between s e bytes) (drop e (bytes ++ more)) j ∙ sym (settle_found (between s e bytes) j))

  pub used_up : e ≡ length bytes → from s e bytes ≡ settle (between s e bytes)
  unfolding scan
  used_up f = rw (drop_of_length-le bytes {i = e} (omega arith)) refl

-- how a walk ended
module _ (bytes : List ℕ) (s₀ e₀ : ℕ) (r : Walked) (w : Walks bytes s₀ e₀ r) where
  pub is_packet_lem : r.found ≡ true → judge (between r.start r.end bytes) ≡ Packet
  is_packet_lem f = w.judged ∙ when_true _ _ _ f

  pub is_wait : r.found ≡ false → judge (between r.start r.end bytes) ≡ Wait
  is_wait f = w.judged ∙ when_false _ _ _ f

  -- what is held is judged, and nothing is to come or it makes no difference
  settles : (f : Bool) → r.found ≡ f → from r.start r.end bytes ≡ settle (between r.start r.end bytes)
  settles true f = let j = is_packet_lem f in finds (between r.start r.end bytes) (drop r.end bytes) j ∙ sym (settle_found (between r.start r.end bytes) j)
  settles false f = used_up bytes s₀ e₀ r.start r.end r.checked w.reached (w.used f)

  -- a walk over all that comes, after d bytes dropped and k run through the checksum before it
  pub on_to_end : (d k : ℕ) → after e₀ (d + s₀) k (from s₀ e₀ bytes) ≡ after r.end (d + r.start) (k + r.checked) (settle (between r.start r.end bytes))
  on_to_end d k =
      let v = w.reached in
      let t : e₀ + (r.end - e₀) ≡ r.end = omega (arith, v.behind) in
      let f : d + s₀ + (r.start - s₀) ≡ d + r.start = omega (arith, v.front) in
      let u : from s₀ e₀ bytes ≡ after (r.end - e₀) (r.start - s₀) r.checked (from r.start r.end bytes) = simp append-nil at (v.same []) in
      ap (after e₀ (d + s₀) k) u ∙ after_after e₀ (d + s₀) k (r.end - e₀) (r.start - s₀) r.checked (from r.start r.end bytes)
      ∙ rw (t, f) (ap (after r.end (d + r.start) (k + r.checked)) (settles r.found refl))

-- Laws of the numbers that pass a test: the list is rising and holds exactly those, and how a loop writes it.
use Prim.Native.Nat.{ℕ, zero, suc, ◌+◌, ◌<◌, ◌≤◌}
use mathlib.Core.Path.{◌≡◌, refl, sym, ◌∙◌, ap}
use mathlib.Core.Logic.Iff
use mathlib.Core.Logic.{◌↔◌, dite}
use mathlib.Core.Bool.{Bool, true, false, true≢false}
use mathlib.Core.List.{List, [], ◌∷◌, ◌++◌}
use native.Mathlib.Numerals.{add-one}
use native.Mathlib.Omega.{arith}
use native.Mathlib.Decide.{dec_lt, ℕ_discrete}
use lib.ListN.{length, get_or, set, length-append, length-set, get_or-append}
use lib.Seq.{get_or-append_seam}
use Rattle.lists.specs.Runs.{front}
use Rattle.lists.specs.Rising.{passing, ListedIn}
use Rattle.lists.proofs.Laws.{when_either, when_true, when_false, front_more}
use Rattle.lists.proofs.Fronts.{front_listed, front_rising}

-- A list of the numbers below n that pass the test: rising, nothing else in it, none missing.
pub record Exact (test : ℕ → Bool) (n : ℕ) (l : List ℕ) : Type 0 where
  pub rises : (i j : ℕ) → i < j → j < length l → get_or l i 0 < get_or l j 0
  pub inside : (i : ℕ) → i < length l → get_or l i 0 < n
  pub passes : (i : ℕ) → i < length l → test (get_or l i 0) ≡ true
  pub whole : (x : ℕ) → x < n → test x ≡ true → ListedIn l (length l) x

-- what holds of each entry and of one more
snoc_all : (P : ℕ → Type 0) (l : List ℕ) (a : ℕ) → ((i : ℕ) → i < length l → P (get_or l i 0)) → P a → (i : ℕ) → i < length (l ++ a ∷ []) → P (get_or (l ++ a ∷ []) i 0)
snoc_all P l a h k i g =
    let e = length-append l (a ∷ []) in
    dite (dec_lt i (length l))
    (λ q. rw (get_or-append l (a ∷ []) 0 i q) (h i q))
    (λ q. let z : i ≡ length l = omega arith in rw (z, get_or-append_seam l a [] 0) k)

module _ (test : ℕ → Bool) where
  more : (n : ℕ) (l : List ℕ) → Exact test n l → test n ≡ true → Exact test (suc n) (l ++ n ∷ [])
  more n l w t = record {
    rises = λ i j h g. let e = length-append l (n ∷ []) in let r : i < length l = omega arith in rw (get_or-append l (n ∷ []) 0 i r) (
        dite (dec_lt j (length l))
        (λ q. rw (get_or-append l (n ∷ []) 0 j q) (w.rises i j h q))
        (λ q. let z : j ≡ length l = omega arith in rw (z, get_or-append_seam l n [] 0) (w.inside i r)));
    inside = snoc_all (λ (x : ℕ). x < suc n) l n (λ i h. omega (arith, w.inside i h)) (omega arith);
    passes = snoc_all (λ (x : ℕ). test x ≡ true) l n w.passes t;
    whole = λ x h g. dite (ℕ_discrete x n)
        (λ q. (length l, omega (arith, length-append l (n ∷ [])), get_or-append_seam l n [] 0 ∙ sym q))
        (λ q. let o = w.whole x (omega arith) g in (o.0, omega (arith, length-append l (n ∷ [])), get_or-append l (n ∷ []) 0 o.0 o.1 ∙ o.2));
  }

  as_many : (n : ℕ) (l : List ℕ) → Exact test n l → test n ≡ false → Exact test (suc n) l
  as_many n l w t = record {
    rises = w.rises;
    inside = λ i h. omega (arith, w.inside i h);
    passes = w.passes;
    whole = λ x h g. w.whole x (dite (ℕ_discrete x n) (λ q. absurd (true≢false (sym g ∙ ap test q ∙ t))) (λ q. omega arith)) g;
  }

  -- The list of the numbers below n that pass is rising and holds exactly those.
  pub passing_rises : (n : ℕ) → Exact test n (passing test n)
  unfolding passing
  passing_rises zero = record { rises = λ i j h g. absurd (omega arith); inside = λ i h. absurd (omega arith); passes = λ i h. absurd (omega arith); whole = λ x h g. absurd (omega arith) }
  passing_rises (suc n) =
      when_either (Exact test (suc n)) (test n) _ _ (more n (passing test n) (passing_rises n)) (as_many n (passing test n) (passing_rises n))

  -- There are never more than were looked at.
  pub passing_short : (n : ℕ) → length (passing test n) ≤ n
  unfolding passing
  passing_short zero = omega arith
  passing_short (suc n) =
      let ih = passing_short n in
      when_either (λ (l : List ℕ). length l ≤ suc n) (test n) _ _ (λ _. omega (arith, length-append (passing test n) (n ∷ []))) (λ _. omega arith)

  -- none where none passes
  pub passing_none : (n : ℕ) → ((x : ℕ) → test x ≡ false) → passing test n ≡ []
  unfolding passing
  passing_none zero h = refl
  passing_none (suc n) h = when_false _ _ _ (h n) ∙ passing_none n h

  -- one number more, at the code's n + 1
  pub passing_one : (n : ℕ) → test n ≡ true → passing test (n + 1) ≡ passing test n ++ n ∷ []
  unfolding passing
  passing_one n t = rw add-one (when_true _ _ _ t)

  pub passing_over : (n : ℕ) → test n ≡ false → passing test (n + 1) ≡ passing test n
  unfolding passing
  passing_over n t = rw add-one (when_false _ _ _ t)

-- tests that agree below n find the same numbers
pub passing_same : (test other : ℕ → Bool) (n : ℕ) → ((x : ℕ) → x < n → test x ≡ other x) → passing test n ≡ passing other n
unfolding passing
passing_same test other zero same = refl
passing_same test other (suc n) same = rw (same n (omega arith), passing_same test other n (λ x h. same x (omega arith)))

-- Written to the front of a list they stand there rising, and no other number does.
module _ (test : ℕ → Bool) (n : ℕ) (list : List ℕ) where
  abbrev found : List ℕ
  found = passing test n

  pub front_rises : (i j : ℕ) → i < j → j < length found → get_or (front found list) i 0 < get_or (front found list) j 0
  front_rises = front_rising found list (passing_rises test n).rises

  pub front_exact : (x : ℕ) → ListedIn (front found list) (length found) x ↔ ((x < n) × (test x ≡ true))
  front_exact x =
      let e = passing_rises test n in
      Iff.trans (front_listed found list x) (
        λ o. (rw o.2 at (e.inside o.0 o.1), rw o.2 at (e.passes o.0 o.1)),
        λ p. e.whole x p.0 p.1,
      )

-- how far a loop has come that writes them to the front of a list: those below n stand there
abbrev pub Listing : (ℕ → Bool) → List ℕ → ℕ → List ℕ → ℕ → Type 0
Listing test list₀ n list count =
    (count ≡ length (passing test n)) × (count ≤ n) × (list ≡ front (passing test n) list₀) × (length list ≡ length list₀)

module _ (test : ℕ → Bool) (list₀ : List ℕ) where
  pub listing_first : Listing test list₀ 0 list₀ 0
  unfolding passing
  listing_first = (refl, omega arith, refl, refl)

  module _ (n : ℕ) (list : List ℕ) (count : ℕ) (w : Listing test list₀ n list count) where
    pub listing_over : test n ≡ false → Listing test list₀ (n + 1) list count
    listing_over t =
        let u = sym (passing_over test n t) in
        (w.0 ∙ ap length u, omega (arith, w.1), w.2 ∙ ap (λ (l : List ℕ). front l list₀) u, w.3)

    pub listing_one : n < length list₀ → test n ≡ true → Listing test list₀ (n + 1) (set list count n) (count + 1)
    listing_one h t =
        let u = sym (passing_one test n t) in (
          omega (arith, w.0, ap length u, length-append (passing test n) (n ∷ [])),
          omega (arith, w.1),
          ap (λ (l : List ℕ). set l count n) w.2 ∙ front_more (passing test n) list₀ count n w.0 (omega (arith, w.1)) ∙ ap (λ (l : List ℕ). front l list₀) u,
          length-set list count n ∙ w.3,
        )

-- Laws of values one behind the other: what is joined of each, and what is collected at each place.
use mathlib.Core.Path.{◌≡◌, refl, sym, ◌∙◌, ap}
use mathlib.Core.List.{List, [], ◌∷◌, ◌++◌, append_assoc, append-nil, map}
use Prim.Native.Nat.{ℕ, zero, suc, ◌+◌, ◌*◌, ◌<◌, ◌≤◌}
use native.Mathlib.Nat.{suc-mul}
use native.Mathlib.Omega.{arith}
use lib.ListN.{length, take, drop, get_or, length-append}
use lib.Seq.{take-add, drop-drop}
use Rattle.shapes.specs.Shape.{collected, joined, Each}

pub each_of : {A : Type 0} {P Q : A → Type 0} → ((x : A) → P x → Q x) → (xs : List A) → Each P xs → Each Q xs
each_of f [] h = tt
each_of f (x ∷ xs) h = (f x h.0, each_of f xs h.1)

pub each_mapped : {A B : Type 0} {P : A → Type 0} (Q : B → Type 0) (f : A → B) → ((x : A) → P x → Q (f x)) → (xs : List A) → Each P xs → Each Q (map f xs)
each_mapped Q f g [] h = tt
each_mapped Q f g (x ∷ xs) h = (g x h.0, each_mapped Q f g xs h.1)

pub each_at : {A : Type 0} (P : A → Type 0) (d : A) (xs : List A) → ((i : ℕ) → i < length xs → P (get_or xs i d)) → Each P xs
each_at P d [] h = tt
each_at P d (x ∷ xs) h = (h 0 (omega arith), each_at P d xs (λ i l. h (suc i) (omega arith)))

pub joined_more : {A : Type 0} (f : A → List ℕ) (xs : List A) (x : A) → joined f (xs ++ x ∷ []) ≡ joined f xs ++ f x
unfolding joined
joined_more f [] x = append-nil (f x)
joined_more f (y ∷ xs) x = ap (λ (l : List ℕ). f y ++ l) (joined_more f xs x) ∙ sym (append_assoc (f y) (joined f xs) (f x))

-- values of m bytes each
module _ {A : Type 0} (m : ℕ) where
  pub length-joined : (f : A → List ℕ) (P : A → Type 0) → ((x : A) → P x → length (f x) ≡ m) → (xs : List A) → Each P xs
      → length (joined f xs) ≡ length xs * m
  unfolding joined
  length-joined f P sized [] h = omega arith
  length-joined f P sized (x ∷ xs) h =
      omega (arith, length-append (f x) (joined f xs), sized x h.0, length-joined f P sized xs h.1, suc-mul (length xs) m)

  pub length-collected : (g : ℕ → A) (n k : ℕ) → length (collected g n k m) ≡ n
  unfolding collected
  length-collected g zero k = refl
  length-collected g (suc n) k = ap suc (length-collected g n (k + m))

  -- one place more
  pub collected_more : (g : ℕ → A) (n k : ℕ) → collected g (suc n) k m ≡ collected g n k m ++ g (k + n * m) ∷ []
  unfolding collected
  collected_more g zero k = let e : k + zero * m ≡ k = omega arith in rw e
  collected_more g (suc n) k =
      let e : k + m + n * m ≡ k + suc n * m = omega (arith, suc-mul n m) in
      ap (λ (l : List A). g k ∷ l) (rw e at (collected_more g n (k + m)))

  -- the values joined, wherever they stand, are collected
  pub collected_joined : (f : A → List ℕ) (g : List ℕ → ℕ → A) (P : A → Type 0) → ((x : A) → P x → length (f x) ≡ m)
      → ((x : A) → P x → (before after : List ℕ) (k : ℕ) → length before ≡ k → g (before ++ (f x ++ after)) k ≡ x)
      → (xs : List A) → Each P xs → (before after : List ℕ) (k : ℕ) → length before ≡ k → collected (g (before ++ (joined f xs ++ after))) (length xs) k m ≡ xs
  unfolding collected joined
  collected_joined f g P sized one [] h before after k e = refl
  collected_joined f g P sized one (x ∷ xs) h before after k e =
      let rest = joined f xs ++ after in
      let l : length (before ++ f x) ≡ k + m = omega (arith, length-append before (f x), sized x h.0) in
      let first = one x h.0 before rest k e in
      let others = collected_joined f g P sized one xs h.1 (before ++ f x) after (k + m) l in
      let same : before ++ (joined f (x ∷ xs) ++ after) ≡ before ++ (f x ++ rest) = ap (λ (l : List ℕ). before ++ l) (append_assoc (f x) (joined f xs) after) in
      ap (λ (l : List ℕ). collected (g l) (length (x ∷ xs)) k m) same ∙ (λ i. first i ∷ (rw (append_assoc before (f x) rest) at others) i)

  -- what is collected is joined again
  pub joined_collected : (f : A → List ℕ) (g : ℕ → A) (b : List ℕ) → ((k : ℕ) → k + m ≤ length b → f (g k) ≡ take m (drop k b))
      → (n k : ℕ) → k + n * m ≤ length b → joined f (collected g n k m) ≡ take (n * m) (drop k b)
  unfolding collected joined
  joined_collected f g b one zero k l = let e : zero * m ≡ 0 = omega arith in rw e
  joined_collected f g b one (suc n) k l =
      let e : suc n * m ≡ m + n * m = omega (arith, suc-mul n m) in
      let first = one k (omega arith) in
      let others = joined_collected f g b one n (k + m) (omega arith) in
      rw e ((λ i. first i ++ others i) ∙ sym (take-add m (n * m) (drop k b) ∙ rw (drop-drop m k b)))

  pub each_collected : (P : A → Type 0) (g : ℕ → A) (end : ℕ) → ((k : ℕ) → k + m ≤ end → P (g k))
      → (n k : ℕ) → k + n * m ≤ end → Each P (collected g n k m)
  unfolding collected
  each_collected P g end one zero k l = tt
  each_collected P g end one (suc n) k l =
      let e = suc-mul n m in
      (one k (omega arith), each_collected P g end one n (k + m) (omega arith))

  -- collected in a part that begins at j, or in all of it
  pub collected_moved : (g g' : ℕ → A) (j end : ℕ) → ((k : ℕ) → k + m ≤ end → g k ≡ g' (j + k))
      → (n k : ℕ) → k + n * m ≤ end → collected g n k m ≡ collected g' n (j + k) m
  unfolding collected
  collected_moved g g' j end one zero k l = refl
  collected_moved g g' j end one (suc n) k l =
      let e = suc-mul n m in
      let p : j + (k + m) ≡ j + k + m = omega arith in
      let first = one k (omega arith) in
      let others = collected_moved g g' j end one n (k + m) (omega arith) in
      λ i. first i ∷ (rw p at others) i

  pub map-collected : {B : Type 0} (h : A → B) (g : ℕ → A) (n k : ℕ) → map h (collected g n k m) ≡ collected (λ i. h (g i)) n k m
  unfolding collected
  map-collected h g zero k = refl
  map-collected h g (suc n) k = λ i. h (g k) ∷ map-collected h g n (k + m) i

-- Laws of text put together, of a number's digits and of forms.
use mathlib.Core.Path.{◌≡◌, refl, sym, ◌∙◌, ap, subst}
use mathlib.Core.List.{List, [], ◌∷◌, ◌++◌, append_assoc}
use mathlib.Core.Bool.{Bool, true, false}
use Prim.Native.Nat.{ℕ, zero, suc, ◌+◌, ◌-◌, ◌*◌, ◌/◌, ◌%◌, ◌^◌, ◌<◌, ◌≤◌}
use native.Mathlib.Nat.{add-zero}
use native.Mathlib.Numerals.{add-one}
use native.Mathlib.Omega.{arith}
use borrow.Author.Tests.{eq-eqb, ne_eqb, le-leb, lt-leb, lt-ltb, le-ltb, ltb-false}
use lib.ListN.{length, drop, set, get_or, drop_of_length-le}
use lib.Seq.{set_split, drop-cons, drop-drop, get_or-drop}
use Rattle.std.proofs.Math.Nat.{pow-suc}
use Rattle.std.proofs.lemmas.List.{drop-set}
use Rattle.lists.specs.Tests.{when◌then◌else◌, ◌<?◌}
use Rattle.lists.specs.Runs.{pasted}
use Rattle.lists.proofs.Laws.{when_true, when_false, pasted_fits, pasted_refused}
use Rattle.wording.specs.Text.{Text, text, ◌then◌, decimal_in, decimal, form_behind}

-- a run that fits stands behind the text
pub fits : (out : List ℕ) (size : ℕ) (run : List ℕ) → size + length run ≤ length out → text (pasted out size run) (size + length run) ≡ (text out size then run)
unfolding ◌then◌
fits out size run h = ap (text (pasted out size run)) (sym (when_true _ _ _ (le-leb (size + length run) (length out) h)))

-- and so does a byte
pub byte_fits : (out : List ℕ) (size b : ℕ) → size < length out → text (set out size b) (size + 1) ≡ (text out size then (b ∷ []))
byte_fits out size b h =
    let written : set out size b ≡ pasted out size (b ∷ []) =
    rw (set_split out size b h, pasted_fits out size (b ∷ []) (omega arith), add-one size, append_assoc) in
    ap (λ (o : List ℕ). text o (size + 1)) written ∙ fits out size (b ∷ []) (omega arith)

-- one that does not is left out
pub left_out : (out : List ℕ) (size : ℕ) (run : List ℕ) → length out < size + length run → text out size ≡ (text out size then run)
unfolding ◌then◌
left_out out size run h =
    let size_is = when_false _ (size + length run) size (lt-leb (size + length run) (length out) h) in
    λ i. text (sym (pasted_refused out size run h) i) (sym size_is i)

same_choice : (t : Bool) (a b c : List ℕ) → (t ≡ false → b ≡ c) → when t then a else b ≡ when t then a else c
unfolding when◌then◌else◌
same_choice true a b c f = refl
same_choice false a b c f = f refl

-- enough places hold all digits
enough_places : (most more n : ℕ) → n < most → n < more → decimal_in most n ≡ decimal_in more n
unfolding decimal_in
enough_places zero more n h k = absurd (omega arith)
enough_places (suc most) zero n h k = absurd (omega arith)
enough_places (suc most) (suc more) n h k =
    same_choice (n <? 10) ((48 + n) ∷ []) _ _
    (λ e. ap (λ (run : List ℕ). run ++ ((48 + n % 10) ∷ [])) (enough_places most more (n / 10) (omega (arith, ltb-false _ _ e)) (omega (arith, ltb-false _ _ e))))

-- the last digit of a number of two digits or more stands behind those of its tenth
pub last_digit : (n : ℕ) → 10 ≤ n → decimal n ≡ decimal (n / 10) ++ ((48 + n % 10) ∷ [])
unfolding decimal_in
last_digit n h =
    when_false _ _ _ (le-ltb n 10 h)
    ∙ ap (λ (run : List ℕ). run ++ ((48 + n % 10) ∷ [])) (enough_places n (suc (n / 10)) (n / 10) (omega arith) (omega arith))

-- of one that is below 10 there is one
pub one_digit : (n : ℕ) → n < 10 → (48 + n) ∷ [] ≡ decimal n
unfolding decimal_in
one_digit n h = sym (when_true _ _ _ (lt-ltb n 10 h))

-- One digit more is written at k, where there is room for the rest's digits up to there.
module _ (k rest : ℕ) (large : 10 ≤ rest) (room : rest < 10 ^ (k + 1)) where
  pub more_places : 1 ≤ k
  more_places = above k room
    where
      above : (k : ℕ) → rest < 10 ^ (k + 1) → 1 ≤ k
      above zero h = absurd (omega arith)
      above (suc k) h = omega arith

  places : k - 1 + 1 ≡ k
  places = omega (arith, more_places)

  pub tenth_fits : rest / 10 < 10 ^ (k - 1 + 1)
  tenth_fits =
      let power : 10 ^ (k + 1) ≡ 10 ^ k * 10 = rw (add-one k) (pow-suc 10 k) in
      let h : rest < 10 ^ k * 10 = subst (λ (p : ℕ). rest < p) power room in
      rw places (omega arith)

  pub digit_turn : (n : ℕ) (digits : List ℕ) → k < length digits → decimal rest ++ drop (k + 1) digits ≡ decimal n
      → decimal (rest / 10) ++ drop (k - 1 + 1) (set digits k (48 + rest % 10)) ≡ decimal n
  digit_turn n digits h e =
      rw (places, drop-set digits k (48 + rest % 10) h)
      (sym (append_assoc (decimal (rest / 10)) ((48 + rest % 10) ∷ []) (drop (k + 1) digits))
      ∙ ap (λ (run : List ℕ). run ++ drop (k + 1) digits) (sym (last_digit rest large)) ∙ e)

-- the first digit stands before all others
pub first_digit : (n rest k : ℕ) (digits : List ℕ) → rest < 10 → k < length digits → decimal rest ++ drop (k + 1) digits ≡ decimal n
    → drop k (set digits k (48 + rest)) ≡ decimal n
first_digit n rest k digits small h e =
    drop-set digits k (48 + rest) h ∙ ap (λ (run : List ℕ). run ++ drop (k + 1) digits) (one_digit rest small) ∙ e

-- A form, byte by byte.
module _ (t : Text) (form numbers : List ℕ) (i k : ℕ) where
  -- a mark is the next number
  pub mark_turn : i < length form → get_or form i 0 ≡ 37
      → form_behind t (drop i form) (drop k numbers) ≡ form_behind (t then decimal (get_or numbers k 0)) (drop (i + 1) form) (drop (k + 1) numbers)
  unfolding form_behind when◌then◌else◌
  mark_turn h e = rw (add-one i, drop-cons form i 0, eq-eqb (get_or form i 0) 37 e, get_or-drop k numbers 0 0, drop-drop 1 k numbers, add-zero k)

  -- any other byte is itself
  pub byte_turn : i < length form → (get_or form i 0 ≡ 37 → ⊥)
      → form_behind t (drop i form) (drop k numbers) ≡ form_behind (t then (get_or form i 0 ∷ [])) (drop (i + 1) form) (drop k numbers)
  unfolding form_behind when◌then◌else◌
  byte_turn h e = rw (add-one i, drop-cons form i 0, ne_eqb (get_or form i 0) 37 e)

  -- behind its last byte it is whole
  pub form_end : length form ≤ i → form_behind t (drop i form) (drop k numbers) ≡ t
  unfolding form_behind
  form_end h = rw (drop_of_length-le form {i = i} h)

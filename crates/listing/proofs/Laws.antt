-- Bytes in hexadecimal behind the marks of a form, one at a time.
use mathlib.Core.Path.{◌≡◌, refl, ◌∙◌, ap}
use mathlib.Core.List.{List, [], ◌∷◌, ◌++◌, append_assoc}
use Prim.Native.Nat.{ℕ, ◌+◌, ◌*◌, ◌/◌, ◌%◌, ◌<◌, ◌≤◌, min}
use native.Mathlib.Numerals.{add-one}
use native.Mathlib.Omega.{arith}
use borrow.Author.Tests.{eq-eqb, ne_eqb}
use lib.ListN.{length, get_or, set, take, replicate, length-append, length-set}
use lib.Seq.{take-suc, take_at, length-take-le}
use Rattle.lists.specs.Runs.{front, pasted}
use Rattle.lists.proofs.Laws.{when_true, when_false, pasted_front, length_front, front_run, front_more}
use Rattle.wording.specs.Text.{newline}
use Rattle.listing.specs.Listing.{hex_digit, hex_text, data_text, packet_marks}

length_hex : (l : List ℕ) → length (hex_text l) ≡ 2 * length l
unfolding hex_text
length_hex [] = refl
length_hex (b ∷ l) = omega (arith, length_hex l)

hex_append : (a b : List ℕ) → hex_text (a ++ b) ≡ hex_text a ++ hex_text b
unfolding hex_text
hex_append [] b = refl
hex_append (x ∷ a) b = ap (λ (l : List ℕ). hex_digit (x / 16) ∷ hex_digit (x % 16) ∷ l) (hex_append a b)

-- the marks and the bytes in hexadecimal
abbrev pub shown : List ℕ → List ℕ
shown l = packet_marks ++ hex_text l

pub length_shown : (l : List ℕ) → length (shown l) ≡ 10 + 2 * length l
length_shown l = omega (arith, length_hex l)

module _ (l : List ℕ) (i : ℕ) (fits : length l ≤ 22) (inside : i < length l) where
  shown_more : shown (take i l) ++ (hex_digit (get_or l i 0 / 16) ∷ hex_digit (get_or l i 0 % 16) ∷ []) ≡ shown (take (i + 1) l)
  unfolding hex_text
  shown_more = rw (add-one i, take-suc l i 0 inside, hex_append (take i l) (get_or l i 0 ∷ []), append_assoc)

  pub hex_turn : pasted (front (shown (take i l)) (replicate 55 0)) (10 + 2 * i) (hex_digit (get_or l i 0 / 16) ∷ hex_digit (get_or l i 0 % 16) ∷ []) ≡ front (shown (take (i + 1) l)) (replicate 55 0)
  hex_turn =
      let n = length-take-le i l (omega arith) in
      let s = length_shown (take i l) in
      let room : length (replicate {A = ℕ} 55 0) ≡ 55 = refl in
      front_run (shown (take i l)) (replicate 55 0) (hex_digit (get_or l i 0 / 16) ∷ hex_digit (get_or l i 0 % 16) ∷ []) (10 + 2 * i) (omega arith) (omega arith)
      ∙ ap (λ (run : List ℕ). front run (replicate 55 0)) shown_more

pub marks_first : pasted (replicate 55 0) 0 packet_marks ≡ front (shown []) (replicate 55 0)
unfolding hex_text
marks_first = pasted_front packet_marks (replicate 55 0) (omega arith)

-- the whole form, with the end of the line behind it
module _ (l : List ℕ) (fits : length l ≤ 22) where
  pub whole_form : (n : ℕ) → n ≡ length l → take (10 + 2 * n + 1) (set (front (shown l) (replicate 55 0)) (10 + 2 * n) 10) ≡ shown l ++ newline
  whole_form n e =
      let s = length_shown l in
      let room : length (replicate {A = ℕ} 55 0) ≡ 55 = refl in
      rw (front_more (shown l) (replicate 55 0) (10 + 2 * n) 10 (omega arith) (omega arith)) (take_at (shown l ++ newline) _ (10 + 2 * n + 1) (length-append (shown l) newline ∙ omega arith))

-- the data of a packet that has some, and of one that has none
pub some_data : (l : List ℕ) → (length l ≡ 0 → ⊥) → data_text l ≡ hex_text l
unfolding data_text
some_data l h = when_false _ _ _ (ne_eqb (length l) 0 h)

pub no_data : (l : List ℕ) → length l ≡ 0 → data_text l ≡ 45 ∷ []
unfolding data_text
no_data l h = when_true _ _ _ (eq-eqb (length l) 0 h)

-- there is room for the form of the first n of a packet's bytes
pub form_room : (content form : List ℕ) (n : ℕ) → n ≡ min (length content) 22 → form ≡ front (shown (take n content)) (replicate 55 0)
    → 10 + 2 * n + 1 ≤ length (set form (10 + 2 * n) 10)
form_room content form n e f =
    let s = length_shown (take n content) in
    let l = length-take-le n content (omega arith) in
    let r : length form ≡ 55 = rw f (length_front (shown (take n content)) (replicate 55 0) (omega arith)) in
    omega (arith, length-set form (10 + 2 * n) 10)

-- Runs of bytes, laid behind one another and read one by one.
use mathlib.Core.Path.{◌≡◌, sym, ◌∙◌, ap}
use mathlib.Core.List.{List, [], ◌∷◌, ◌++◌, append_assoc}
use Prim.Native.Nat.{ℕ, suc, ◌+◌, ◌-◌, ◌≤◌, ◌<◌}
use native.Mathlib.Omega.{arith}
use lib.ListN.{length, take, drop, get_or, set, length-append}
use lib.Seq.{take-length, take_at, drop-append-add, drop-drop, drop-cons, length-take-le, set_split}
use borrow.Author.Tests.{le-leb, lt-leb}
use Rattle.lists.specs.Runs.{pasted}
use Rattle.lists.proofs.Laws.{when_true, when_false, pasted_fits, pasted_front, whole_front, length-pasted}
use Rattle.shapes.specs.Shape.{filled}

-- two bytes, and four, one by one
pub two : (b : List ℕ) (k : ℕ) → k + 2 ≤ length b → take 2 (drop k b) ≡ get_or b k 0 ∷ get_or b (k + 1) 0 ∷ []
two b k h =
    let e : k + 1 ≡ suc k = omega arith in
    rw (drop-cons b k 0 (omega arith), drop-cons b (suc k) 0 (omega arith), e)

pub four : (b : List ℕ) (k : ℕ) → k + 4 ≤ length b → take 4 (drop k b) ≡ get_or b k 0 ∷ get_or b (k + 1) 0 ∷ get_or b (k + 2) 0 ∷ get_or b (k + 3) 0 ∷ []
four b k h =
    let e₁ : k + 1 ≡ suc k = omega arith in
    let e₂ : k + 2 ≡ suc (suc k) = omega arith in
    let e₃ : k + 3 ≡ suc (suc (suc k)) = omega arith in
    rw (drop-cons b k 0 (omega arith), drop-cons b (suc k) 0 (omega arith), drop-cons b (suc (suc k)) 0 (omega arith), drop-cons b (suc (suc (suc k))) 0 (omega arith), e₁, e₂, e₃)

-- a run that fits, written out
pub written_out : (o : List ℕ) (k : ℕ) (a : List ℕ) → k + length a ≤ length o → pasted o k a ≡ take k o ++ a ++ drop (k + length a) o
written_out o k a h = pasted_fits o k a h ∙ rw (take-length a)

-- a run laid behind a run
pub behind : (o : List ℕ) (k : ℕ) (a : List ℕ) (m : ℕ) (b : List ℕ) → m ≡ k + length a → m + length b ≤ length o
    → pasted (pasted o k a) m b ≡ pasted o k (a ++ b)
behind o k a m b e h =
    let la = length-append a b in
    let lp = length-pasted o k a in
    let head : List ℕ = take k o ++ a in
    let lt : length (take k o) ≡ k = length-take-le k o (omega arith) in
    let lh : length head ≡ m = omega (arith, length-append (take k o) a) in
    let p : pasted o k a ≡ head ++ drop m o = rw e (written_out o k a (omega arith)) in
    let d : drop (m + length b) (head ++ drop m o) ≡ drop (m + length b) o = ap (λ (n : ℕ). drop (n + length b) (head ++ drop m o)) (sym lh) ∙ drop-append-add head (drop m o) (length b) ∙ drop-drop (length b) m o in
    let n : k + length (a ++ b) ≡ m + length b = omega arith in
    written_out (pasted o k a) m b (omega arith)
    ∙ rw (p, take_at head (drop m o) m lh, d, append_assoc (take k o) a b, ← n)
    (sym (written_out o k (a ++ b) (omega arith)))

-- a run as long as what it is laid into
pub fills : (o run : List ℕ) → length run ≡ length o → pasted o 0 run ≡ run
fills o run e = pasted_front run o (omega arith) ∙ whole_front run o e

-- one byte
pub one_set : (o : List ℕ) (k x : ℕ) → k + 1 ≤ length o → set o k x ≡ pasted o k (x ∷ [])
one_set o k x h =
    let e : k + 1 ≡ suc k = omega arith in
    sym (written_out o k (x ∷ []) h ∙ rw (append_assoc, e) (sym (set_split o k x (omega arith))))

-- a buffer filled, where the bytes are there and where there are too few
pub filled_fits : (o b : List ℕ) (k : ℕ) → k + length o ≤ length b → filled o b k ≡ take (length o) (drop k b)
unfolding filled
filled_fits o b k h = when_true _ _ _ (le-leb (k + length o) (length b) h)

pub filled_short : (o b : List ℕ) (k : ℕ) → length b < k + length o → filled o b k ≡ o
unfolding filled
filled_short o b k h = when_false _ _ _ (lt-leb (k + length o) (length b) h)

-- filled, as the code lends the part
pub filled_lent : (o b : List ℕ) (k : ℕ) → k + length o ≤ length b → take (k + length o - k) (drop k b) ≡ filled o b k
filled_lent o b k h =
    let e : k + length o - k ≡ length o = omega arith in
    rw e (sym (filled_fits o b k h))

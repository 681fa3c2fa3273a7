-- Laws of shapes, each by one induction: every layout that is a shape has them.
use mathlib.Core.Path.{◌≡◌, refl, sym, ◌∙◌, ap}
use mathlib.Core.List.{List, [], ◌++◌, append_assoc, append-nil}
use Prim.Native.Nat.{ℕ, ◌+◌, ◌-◌, ◌*◌, ◌/◌, ◌%◌, ◌<◌, ◌≤◌}
use native.Mathlib.Omega.{arith}
use lib.ListN.{length, take, drop, get_or, length-append, length-drop}
use lib.Seq.{take_at, take-add, take-take, drop_at, drop-drop, drop-cons, get_or_at, get_or-append-add, get_or-take, get_or-drop, length-take-le}
use mathlib.Core.Bool.{true}
use borrow.Author.Tests.{leb-true}
use Rattle.lists.specs.Tests.{◌≤?◌}
use Rattle.lists.specs.Runs.{pasted}
use Rattle.lists.proofs.Laws.{part, length-pasted}
use Rattle.shapes.specs.Words.{half_of, word_of}
use Rattle.shapes.specs.Shape.{Shape, byte, counter, half, word, run, ◌▸◌, times, ◌&◌, Value, size, collected, bytes, value, laid, Sized, Fits, Bytes, Stands, Lays, filled}
use Rattle.shapes.proofs.Numbers.{half_back, half_written, word_back, word_written}
use Rattle.shapes.proofs.Laid.{written_out, behind, fills, two, four, one_set, filled_fits}
use Rattle.shapes.proofs.Rows.{each_of, length-joined, length-collected, collected_joined, joined_collected, each_collected, collected_moved}

pub fits_sized : (s : Shape) (v : Value s) → Fits s v → Sized s v
fits_sized byte v h = tt
fits_sized counter v h = tt
fits_sized half v h = tt
fits_sized word v h = tt
fits_sized (run n) v h = h
fits_sized (s ▸ t) (v & w) h = (fits_sized s v h.0, fits_sized t w h.1)
fits_sized (times n s) v h = (h.0, each_of (fits_sized s) v h.1)

pub length-bytes : (s : Shape) (v : Value s) → Sized s v → length (bytes s v) ≡ size s
unfolding bytes
length-bytes byte v h = refl
length-bytes counter v h = refl
length-bytes half v h = refl
length-bytes word v h = refl
length-bytes (run n) v h = h
length-bytes (s ▸ t) (v & w) h = omega (arith, length-append (bytes s v) (bytes t w), length-bytes s v h.0, length-bytes t w h.1)
length-bytes (times n s) v h = length-joined (size s) (bytes s) (Sized s) (length-bytes s) v h.1 ∙ ap (λ (k : ℕ). k * size s) h.0

-- the bytes of a value, wherever they stand, are read as the value
pub value_at : (s : Shape) (v : Value s) → Fits s v → (before after : List ℕ) (k : ℕ) → length before ≡ k → value s (before ++ (bytes s v ++ after)) k ≡ v
unfolding bytes value
value_at byte v h before after k e = get_or_at before v after 0 k e
value_at counter v h before after k e = get_or_at before (v % 256) after 0 k e ∙ omega arith
value_at half v h before after k e =
    let q : List ℕ = bytes half v ++ after in
    let second : get_or (before ++ q) (k + 1) 0 ≡ v / 256 % 256 = rw (← e) (get_or-append-add before q 1 0) in
    let first : get_or (before ++ q) k 0 ≡ v % 256 = get_or_at before _ _ 0 k e in
    (λ i. half_of (first i) (second i)) ∙ half_back v h
value_at word v h before after k e =
    let q : List ℕ = bytes word v ++ after in
    let at : (j : ℕ) → get_or (before ++ q) (k + j) 0 ≡ get_or q j 0 = λ j. rw (← e) (get_or-append-add before q j 0) in
    let first : get_or (before ++ q) k 0 ≡ v % 256 = get_or_at before _ _ 0 k e in
    (λ i. word_of (first i) (at 1 i) (at 2 i) (at 3 i)) ∙ word_back v h
value_at (run n) v h before after k e = ap (take n) (drop_at before (v ++ after) k e) ∙ take_at v after n h
value_at (s ▸ t) (v & w) h before after k e =
    let a = bytes s v in
    let b = bytes t w in
    let l : length (before ++ a) ≡ k + size s = omega (arith, length-append before a, length-bytes s v (fits_sized s v h.0)) in
    let left = value_at s v h.0 before (b ++ after) k e in
    let right = value_at t w h.1 (before ++ a) after (k + size s) l in
    rw append_assoc (λ i. left i & (rw append_assoc at right) i)
value_at (times n s) v h before after k e =
    let b = before ++ (bytes (times n s) v ++ after) in
    let sized : (x : Value s) → Fits s x → length (bytes s x) ≡ size s = λ x f. length-bytes s x (fits_sized s x f) in
    ap (λ (m : ℕ). collected (value s b) m k (size s)) (sym h.0) ∙ collected_joined (size s) (bytes s) (value s) (Fits s) sized (value_at s) v h.1 before after k e

-- WHAT IS WRITTEN IS READ BACK.
pub read_back : (s : Shape) (v : Value s) → Fits s v → value s (bytes s v) 0 ≡ v
read_back s v h = ap (λ (b : List ℕ). value s b 0) (sym (append-nil (bytes s v))) ∙ value_at s v h [] [] 0 refl

-- WHAT IS READ IS WRITTEN BACK.
pub written_back : (s : Shape) (b : List ℕ) (k : ℕ) → k + size s ≤ length b → Bytes b → bytes s (value s b k) ≡ take (size s) (drop k b)
unfolding bytes value
written_back byte b k l small = rw (drop-cons b k 0 (omega arith))
written_back counter b k l small =
    let e : get_or b k 0 % 256 ≡ get_or b k 0 = omega (arith, small k) in
    rw (drop-cons b k 0 (omega arith), e)
written_back half b k l small = half_written _ _ (small k) (small (k + 1)) ∙ sym (two b k l)
written_back word b k l small = word_written _ _ _ _ (small k) (small (k + 1)) (small (k + 2)) (small (k + 3)) ∙ sym (four b k l)
written_back (run n) b k l small = refl
written_back (s ▸ t) b k l small =
    let left = written_back s b k (omega arith) small in
    let right = written_back t b (k + size s) (omega arith) small in
    (λ i. left i ++ right i) ∙ sym (take-add (size s) (size t) (drop k b) ∙ rw (drop-drop (size s) k b))
written_back (times n s) b k l small = joined_collected (size s) (bytes s) (value s b) b (λ j h. written_back s b j h small) n k l

-- a value that is read fits
pub value_fits : (s : Shape) (b : List ℕ) (k : ℕ) → k + size s ≤ length b → Bytes b → Fits s (value s b k)
unfolding value
value_fits byte b k l small = tt
value_fits counter b k l small = small k
value_fits half b k l small = omega (arith, small k, small (k + 1))
value_fits word b k l small = omega (arith, small k, small (k + 1), small (k + 2), small (k + 3))
value_fits (run n) b k l small = length-take-le n (drop k b) (omega (arith, length-drop k b))
value_fits (s ▸ t) b k l small = (value_fits s b k (omega arith) small, value_fits t b (k + size s) (omega arith) small)
value_fits (times n s) b k l small =
    (length-collected (size s) (value s b) n k, each_collected (size s) (Fits s) (value s b) (length b) (λ j h. value_fits s b j h small) n k l)

-- read in a part of the bytes, as the code lends it, or where it stands in all of them
pub value_part : (s : Shape) (b : List ℕ) (j n k : ℕ) → k + size s ≤ n → value s (take n (drop j b)) k ≡ value s b (j + k)
unfolding value
value_part byte b j n k l = get_or-take n (drop j b) k 0 (omega arith) ∙ get_or-drop j b k 0
value_part counter b j n k l = get_or-take n (drop j b) k 0 (omega arith) ∙ get_or-drop j b k 0
value_part half b j n k l =
    let e : j + (k + 1) ≡ j + k + 1 = omega arith in
    let first = get_or-take n (drop j b) k 0 (omega arith) ∙ get_or-drop j b k 0 in
    let second = get_or-take n (drop j b) (k + 1) 0 (omega arith) ∙ get_or-drop j b (k + 1) 0 ∙ ap (λ (i : ℕ). get_or b i 0) e in
    λ i. half_of (first i) (second i)
value_part word b j n k l =
    let at : (i : ℕ) → i < 4 → get_or (take n (drop j b)) (k + i) 0 ≡ get_or b (j + k + i) 0 = λ i h. let e : j + (k + i) ≡ j + k + i = omega arith in get_or-take n (drop j b) (k + i) 0 (omega arith) ∙ get_or-drop j b (k + i) 0 ∙ rw e in
    let first = get_or-take n (drop j b) k 0 (omega arith) ∙ get_or-drop j b k 0 in
    λ i. word_of (first i) (at 1 (omega arith) i) (at 2 (omega arith) i) (at 3 (omega arith) i)
value_part (run m) b j n k l =
    ap (take m) (sym (part k n (drop j b) (omega arith))) ∙ take-take m (n - k) (drop k (drop j b)) (omega arith) ∙ rw (drop-drop k j b)
value_part (s ▸ t) b j n k l =
    let e : j + (k + size s) ≡ j + k + size s = omega arith in
    let left = value_part s b j n k (omega arith) in
    let right = value_part t b j n (k + size s) (omega arith) in
    λ i. left i & (rw e at right) i
value_part (times c s) b j n k l = collected_moved (size s) (value s (take n (drop j b))) (value s b) j n (value_part s b j n) c k l

pub value_lent : (s : Shape) (b : List ℕ) (j : ℕ) → value s (take (j + size s - j) (drop j b)) 0 ≡ value s b j
value_lent s b j =
    let e : j + size s - j ≡ size s = omega arith in
    let z : j + 0 ≡ j = omega arith in
    rw e (value_part s b j (size s) 0 (omega arith) ∙ rw z)

-- laid part by part, as the code does it, or as one run
pub laid_whole : (s : Shape) (o : List ℕ) (k : ℕ) (v : Value s) → Sized s v → k + size s ≤ length o → laid s o k v ≡ pasted o k (bytes s v)
unfolding laid bytes
laid_whole byte o k v h l = one_set o k v l
laid_whole counter o k v h l = one_set o k (v % 256) l
laid_whole half o k v h l = refl
laid_whole word o k v h l = refl
laid_whole (run n) o k v h l = refl
laid_whole (s ▸ t) o k (v & w) h l =
    let m = length-bytes s v h.0 in
    let n = length-bytes t w h.1 in
    let p = length-pasted o k (bytes s v) in
    let left = laid_whole s o k v h.0 (omega arith) in
    rw left (laid_whole t (pasted o k (bytes s v)) (k + size s) w h.1 (omega arith) ∙ behind o k (bytes s v) (k + size s) (bytes t w) (omega arith) (omega arith))
laid_whole (times n s) o k v h l = refl

-- all of it
pub laid_all : (s : Shape) (o : List ℕ) (v : Value s) → Sized s v → length o ≡ size s → laid s o 0 v ≡ bytes s v
laid_all s o v h l =
    let n = length-bytes s v h in
    laid_whole s o 0 v h (omega arith) ∙ fills o (bytes s v) (omega arith)

-- laid into a part of the bytes, as the code lends it, or where it stands in all of them
pub laid_lent : (s : Shape) (o : List ℕ) (k : ℕ) (v : Value s) → Sized s v → k + size s ≤ length o
    → take k o ++ (laid s (take (k + size s - k) (drop k o)) 0 v ++ drop (k + size s - k) (drop k o)) ≡ laid s o k v
laid_lent s o k v h l =
    let e : k + size s - k ≡ size s = omega arith in
    let n = length-bytes s v h in
    let part : length (take (size s) (drop k o)) ≡ size s = length-take-le (size s) (drop k o) (omega (arith, length-drop k o)) in
    let all : laid s o k v ≡ take k o ++ bytes s v ++ drop (k + size s) o = laid_whole s o k v h l ∙ written_out o k (bytes s v) (omega arith) ∙ rw n in
    rw (e, laid_all s (take (size s) (drop k o)) v h part, drop-drop (size s) k o) (sym (all ∙ append_assoc (take k o) (bytes s v) (drop (k + size s) o)))

-- the steps of a write: a part, and one behind it
pub run_lays : {n : ℕ} {v o o₁ : List ℕ} {k : ℕ} → o₁ ≡ pasted o k v → length v ≡ n → Lays (run n) v o k o₁
unfolding laid
run_lays p l = record { is = p; sized = l }

pub counter_lays : {v : ℕ} {o o₁ : List ℕ} {k : ℕ} → Lays byte (v % 256) o k o₁ → Lays counter v o k o₁
unfolding laid
counter_lays p = record { is = p.is; sized = tt }

pub then_lays : {s t : Shape} {v : Value s} {w : Value t} {o o₁ o₂ : List ℕ} {k : ℕ} → Lays t w o₁ (k + size s) o₂ → Lays s v o k o₁ → Lays (s ▸ t) (v & w) o k o₂
unfolding laid
then_lays q p = record { is = rw p.is at q.is; sized = (p.sized, q.sized) }

-- the steps of a read: each kind of part, one behind another, and a part of the bytes that the code lends
pub byte_stands : {b : List ℕ} {k : ℕ} → Stands byte (get_or b k 0) b k
unfolding value
byte_stands = record { is = refl }

pub counter_stands : {v : ℕ} {b : List ℕ} {k : ℕ} → v ≡ get_or b k 0 → Stands counter v b k
unfolding value
counter_stands p = record { is = p }

pub filled_stands : {n k m : ℕ} {v b : List ℕ} (o : List ℕ) → v ≡ filled o b k → length o ≡ n → length b ≡ m → k + n ≤? m ≡ true → Stands (run n) v b k
unfolding value
filled_stands {n} {k} {m} {v} {b} o p e l h =
    record { is = p ∙ filled_fits o b k (omega (arith, leb-true (k + n) m h)) ∙ ap (λ (i : ℕ). take i (drop k b)) e }

pub then_stands : {s t : Shape} {v : Value s} {w : Value t} {b : List ℕ} {k : ℕ} → Stands s v b k → Stands t w b (k + size s) → Stands (s ▸ t) (v & w) b k
unfolding value
then_stands p q = record { is = λ i. p.is i & q.is i }

pub lent_stands : {s : Shape} {v : Value s} (b : List ℕ) (k : ℕ) → Stands s v (take (k + size s - k) (drop k b)) 0 → Stands s v b k
lent_stands {s} b k p = record { is = p.is ∙ value_lent s b k }

pub ruleset stands = (byte_stands, counter_stands, filled_stands, then_stands)

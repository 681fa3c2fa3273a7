-- How values stand in bytes, one behind the other: a shape is written once, and read both ways.
use Rattle.std.specs.Prelude.{ℕ, zero, suc, ◌+◌, ◌*◌, ◌%◌, ◌<◌, ◌≡◌, List, [], ◌∷◌, ◌++◌, length, take, drop, get_or, set}
use Rattle.lists.specs.Tests.{when◌then◌else◌, ◌≤?◌}
use Rattle.lists.specs.Runs.{pasted}
use Rattle.shapes.specs.Words.{half_of, half_bytes, word_of, word_bytes}

-- a byte, a count that one byte holds, numbers of two and of four bytes (little end first), n bytes; a shape behind a shape,
-- and n of a shape one behind the other
infixr 5 ◌▸◌
pub data Shape : Type 0 where
  byte : Shape
  counter : Shape
  half : Shape
  word : Shape
  run : ℕ → Shape
  ◌▸◌ : Shape → Shape → Shape
  times : ℕ → Shape → Shape

-- the values of a shape
infixr 5 ◌&◌
pub data Both (A B : Type 0) : Type 0 where
  ◌&◌ : A → B → Both A B

abbrev pub Value : Shape → Type 0
Value byte = ℕ
Value counter = ℕ
Value half = ℕ
Value word = ℕ
Value (run n) = List ℕ
Value (s ▸ t) = Both (Value s) (Value t)
Value (times n s) = List (Value s)

-- how many bytes
abbrev pub size : Shape → ℕ
size byte = 1
size counter = 1
size half = 2
size word = 4
size (run n) = n
size (s ▸ t) = size s + size t
size (times n s) = n * size s

-- what f gives at n places, each a step behind the one before
unfoldable pub collected : {A : Type 0} → (ℕ → A) → ℕ → ℕ → ℕ → List A
collected f zero k step = []
collected f (suc n) k step = f k ∷ collected f n (k + step) step

-- what f gives of each, one behind the other
unfoldable pub joined : {A : Type 0} → (A → List ℕ) → List A → List ℕ
joined f [] = []
joined f (x ∷ xs) = f x ++ joined f xs

-- each of a list is so
abbrev pub Each : {A : Type 0} → (A → Type 0) → List A → Type 0
Each P [] = Unit
Each P (x ∷ xs) = P x × Each P xs

-- where each part of a shape stands that itself stands at k
abbrev pub places : Shape → ℕ → List ℕ
places byte k = k ∷ []
places counter k = k ∷ []
places half k = k ∷ []
places word k = k ∷ []
places (run n) k = k ∷ []
places (s ▸ t) k = k ∷ places t (k + size s)
places (times n s) k = k ∷ []

-- a value as its bytes
unfoldable pub bytes : (s : Shape) → Value s → List ℕ
bytes byte v = v ∷ []
bytes counter v = v % 256 ∷ []
bytes half v = half_bytes v
bytes word v = word_bytes v
bytes (run n) v = v
bytes (s ▸ t) (v & w) = bytes s v ++ bytes t w
bytes (times n s) v = joined (bytes s) v

-- the value whose bytes stand in b from k on
unfoldable pub value : (s : Shape) → List ℕ → ℕ → Value s
value byte b k = get_or b k 0
value counter b k = get_or b k 0
value half b k = half_of (get_or b k 0) (get_or b (k + 1) 0)
value word b k = word_of (get_or b k 0) (get_or b (k + 1) 0) (get_or b (k + 2) 0) (get_or b (k + 3) 0)
value (run n) b k = take n (drop k b)
value (s ▸ t) b k = value s b k & value t b (k + size s)
value (times n s) b k = collected (value s b) n k (size s)

-- the bytes o with the value's laid into them from k on, part by part
unfoldable pub laid : (s : Shape) → List ℕ → ℕ → Value s → List ℕ
laid byte o k v = set o k v
laid counter o k v = set o k (v % 256)
laid half o k v = pasted o k (half_bytes v)
laid word o k v = pasted o k (word_bytes v)
laid (run n) o k v = pasted o k v
laid (s ▸ t) o k (v & w) = laid t (laid s o k v) (k + size s) w
laid (times n s) o k v = pasted o k (joined (bytes s) v)

-- each run, and each row of values, is as long as its shape says
abbrev pub Sized : (s : Shape) → Value s → Type 0
Sized byte v = Unit
Sized counter v = Unit
Sized half v = Unit
Sized word v = Unit
Sized (run n) v = length v ≡ n
Sized (s ▸ t) (v & w) = Sized s v × Sized t w
Sized (times n s) v = (length v ≡ n) × Each (Sized s) v

-- and each number is small enough for its bytes
abbrev pub Fits : (s : Shape) → Value s → Type 0
Fits byte v = Unit
Fits counter v = v < 256
Fits half v = v < 65536
Fits word v = v < 4294967296
Fits (run n) v = length v ≡ n
Fits (s ▸ t) (v & w) = Fits s v × Fits t w
Fits (times n s) v = (length v ≡ n) × Each (Fits s) v

-- each is a byte
abbrev pub Bytes : List ℕ → Type 0
Bytes b = (k : ℕ) → get_or b k 0 < 256

-- what each step of a read promises: the value is what stands in b from k on
pub record Stands (s : Shape) (v : Value s) (b : List ℕ) (k : ℕ) : Type 0 where
  pub is : v ≡ value s b k

-- what each step of a write promises: the value laid into o from k on; and that its runs are as long as their types
pub record Lays (s : Shape) (v : Value s) (o : List ℕ) (k : ℕ) (o' : List ℕ) : Type 0 where
  pub is : o' ≡ laid s o k v
  pub sized : Sized s v

-- the buffer o filled with the bytes that stand in b from k on; o as it was where there are too few
unfoldable pub filled : List ℕ → List ℕ → ℕ → List ℕ
filled o b k = when k + length o ≤? length b then take (length o) (drop k b) else o

-- what `fill` promises of the buffer
abbrev pub Fills : List ℕ → List ℕ → ℕ → List ℕ → Type 0
Fills out bytes place out' = out' ≡ filled out bytes place

-- For each public function, any two results that its promise allows are equal, the lent bytes included.
use Prim.Native.Nat.{ℕ}
use mathlib.Core.Path.{sym, ◌∙◌}
use mathlib.Core.List.{List}
use Rattle.lists.specs.Promise.{Determined}
use Rattle.lists.proofs.Theorems.{one}
use Rattle.shapes.specs.Words.{ReadsWord, WritesWord}
use Rattle.shapes.specs.Shape.{Shape, byte, word, Value, Lays, Fills}

lays_determined : (s : Shape) (v : Value s) (out : List ℕ) (place : ℕ) → Determined (Lays s v out place)
lays_determined s v out place x y p q = p.is ∙ sym q.is

pub lay_byte_determined : (out : List ℕ) (place x : ℕ) → Determined (Lays byte x out place)
lay_byte_determined out place x = lays_determined byte x out place

pub lay_word_determined : (out : List ℕ) (place n : ℕ) → Determined (Lays word n out place)
lay_word_determined out place n = lays_determined word n out place

pub word_of_determined : (a b c d : ℕ) → Determined (ReadsWord a b c d)
word_of_determined a b c d = one _

pub word_bytes_determined : (n : ℕ) → Determined (WritesWord n)
word_bytes_determined n = one _

pub fill_determined : (out bytes : List ℕ) (place : ℕ) → Determined (Fills out bytes place)
fill_determined out bytes place = one _

-- A part laid as one run of its bytes, and where the code lends the bytes that it is laid into.
use Prim.Native.Nat.{ℕ, ◌+◌, ◌-◌, ◌≤◌}
use mathlib.Core.Path.{◌≡◌, sym, ◌∙◌}
use mathlib.Core.List.{List, ◌++◌}
use lib.ListN.{length, take, drop}
use Rattle.lists.specs.Runs.{pasted}
use Rattle.shapes.specs.Shape.{Shape, Value, size, bytes, Sized, Lays}
use Rattle.shapes.proofs.Laws.{laid_whole, laid_lent}

pub part_lays : (s : Shape) {v : Value s} {o o' : List ℕ} {k : ℕ} → o' ≡ pasted o k (bytes s v) → Sized s v → k + size s ≤ length o → Lays s v o k o'
part_lays s {v} {o} {o'} {k} e h l = record { is = e ∙ sym (laid_whole s o k v h l); sized = h }

pub lent_lays : {s : Shape} {v : Value s} {l : List ℕ} (o : List ℕ) (k : ℕ) → Lays s v (take (k + size s - k) (drop k o)) 0 l → k + size s ≤ length o
    → Lays s v o k (take k o ++ (l ++ drop (k + size s - k) (drop k o)))
lent_lays {s} {v} o k p l = record { is = rw p.is (laid_lent s o k v p.sized l); sized = p.sized }

-- A part of the bytes read by itself, or where it stands; and the line's part read in a state, and laid into it.
use Prim.Native.Nat.{ℕ, ◌+◌}
use mathlib.Core.Path.{◌≡◌, sym, ◌∙◌, ap}
use mathlib.Core.List.{List}
use native.Mathlib.Omega.{arith}
use borrow.Author.Tests.{eq-eqb}
use lib.ListN.{length}
use Rattle.lists.proofs.Laws.{when_true}
use Rattle.shapes.specs.Shape.{Shape, run, Value, size, value, Stands, Lays}
use Rattle.shapes.proofs.Laws.{value_part, laid_whole}
use Rattle.panel.specs.declared.Line.{Line}
use Rattle.statebytes.specs.Layout.{line_shape, line_parts, line_from}
use Rattle.statebytes.specs.State.{state_size, panel_of, line_read_of, line_with, ReadsLine, WritesLine}

pub part_value : (s : Shape) {l b : List ℕ} {k : ℕ} → Stands (run (size s)) l b k → value s l 0 ≡ value s b k
unfolding value
part_value s {l} {b} {k} p =
    let z : k + 0 ≡ k = omega arith in
    ap (λ (o : List ℕ). value s o 0) p.is ∙ rw z at (value_part s b k (size s) 0 (omega arith))

pub part_stands : {s : Shape} {v : Value s} {l b : List ℕ} {k : ℕ} → Stands (run (size s)) l b k → Stands s v l 0 → Stands s v b k
part_stands {s} p q = record { is = q.is ∙ part_value s p }

pub line_stands : {o b : List ℕ} {l : Line} → o ≡ b → length b ≡ state_size → Stands line_shape (line_parts l) o 0 → ReadsLine b l
unfolding line_read_of panel_of value
line_stands {o} {b} {l} e h s = ap line_from (s.is ∙ ap (λ (x : List ℕ). value line_shape x 0) e) ∙ sym (when_true _ _ _ (eq-eqb _ state_size h))

pub line_laid : {o b b' : List ℕ} {l : Line} → o ≡ b → length b ≡ state_size → Lays line_shape (line_parts l) o 0 b' → WritesLine b l b'
unfolding line_with
line_laid {o} {b} {b'} {l} e h s =
    rw e at s.is ∙ laid_whole line_shape b 0 (line_parts l) s.sized (omega arith) ∙ sym (when_true _ _ _ (eq-eqb _ state_size h))

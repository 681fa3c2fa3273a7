-- Where the bytes of a cell stand: each place belongs to one line of one cell. Nothing else knows the arithmetic of `place_of`.
use Prim.Native.Nat.{ℕ, ◌/◌, ◌%◌, ◌<◌}
use mathlib.Core.Path.{◌≡◌}
use native.Mathlib.Omega.{arith}
use Rattle.picture.specs.Draw.{place_of}

-- the cell and the line of a place
pub cell_at : ℕ → ℕ
cell_at i = i / 8

pub line_at : ℕ → ℕ
line_at i = i % 8

pub place_inside : (c k : ℕ) → c < 80 → k < 8 → place_of c k < 640
unfolding place_of
place_inside c k h g = omega arith

pub cell_of_place : (c k : ℕ) → c < 80 → k < 8 → cell_at (place_of c k) ≡ c
unfolding place_of cell_at
cell_of_place c k h g = omega arith

pub line_of_place : (c k : ℕ) → c < 80 → k < 8 → line_at (place_of c k) ≡ k
unfolding place_of line_at
line_of_place c k h g = omega arith

pub cell_inside : (i : ℕ) → i < 640 → cell_at i < 80
unfolding cell_at
cell_inside i h = omega arith

pub line_inside : (i : ℕ) → i < 640 → line_at i < 8
unfolding line_at
line_inside i h = omega arith

pub place_of_both : (i : ℕ) → i < 640 → place_of (cell_at i) (line_at i) ≡ i
unfolding place_of cell_at line_at
place_of_both i h = omega arith

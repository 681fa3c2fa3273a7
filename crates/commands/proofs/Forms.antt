-- The data that a command's values and bytes are laid down as.
use Prim.Native.Nat.{ℕ, ◌+◌, ◌-◌, ◌≤◌, min}
use mathlib.Core.Path.{◌≡◌, sym, ◌∙◌, ap}
use mathlib.Core.List.{List, ◌++◌}
use native.Mathlib.Omega.{arith}
use lib.ListN.{length, take, drop, length-append, length-take}
use lib.Seq.{take_at, take-append-add}
use Rattle.lists.specs.Runs.{front, pasted}
use Rattle.lists.proofs.Laws.{pasted_front, front_run, take-most}

-- n values and then bytes, laid into a buffer of 23: the first 23 of both together
module _ (values bytes zeros content content' : List ℕ) (n more : ℕ) (size : length values ≡ n) (small : n ≤ 3) (room : length zeros ≡ 23)
    (m : more ≡ min (length bytes) (23 - n)) (c : content ≡ pasted zeros 0 values) (c' : content' ≡ pasted content n (take more bytes)) where
  laid_both : content' ≡ front (values ++ take more bytes) zeros
  laid_both =
      let k = length-take more bytes in
      c' ∙ ap (λ (l : List ℕ). pasted l n (take more bytes)) (c ∙ pasted_front values zeros (omega arith)) ∙ front_run values zeros (take more bytes) n (sym size) (omega arith)

  pub laid_taken : take (n + more) content' ≡ take 23 (values ++ bytes)
  laid_taken =
      let k = length-take more bytes in
      let e : length values + (23 - n) ≡ 23 = omega arith in
      let w : take 23 (values ++ bytes) ≡ values ++ take (23 - n) bytes = rw e at (take-append-add values bytes (23 - n)) in
      let t : take more bytes ≡ take (23 - n) bytes = take-most more (23 - n) bytes m in
      rw (laid_both, w, ← t) (take_at (values ++ take more bytes) (drop (length (values ++ take more bytes)) zeros) (n + more) (omega (arith, length-append values (take more bytes))))

-- Eight bytes laid into a list of zeros, and read again.
use Prim.Native.Nat.{ℕ, zero, suc, ◌+◌, ◌-◌, ◌<◌, ◌≤◌}
use mathlib.Core.Path.{◌≡◌, ◌∙◌}
use mathlib.Core.Bool.{Bool, true}
use mathlib.Core.List.{List, [], ◌∷◌, ◌++◌}
use native.Mathlib.Nat.{add-zero}
use native.Mathlib.Omega.{arith}
use lib.ListN.{length, get_or, replicate, length-append, length-replicate, get_or-append}
use lib.Seq.{get_or-append-add}
use Rattle.lists.specs.Tests.{all}
use Rattle.glyphs.specs.Glyphs.{eight_from}
use Rattle.glyphs.proofs.Every.{Passes, Every, every_append, all_every, every_all}
use Rattle.glyphs.proofs.Flat.{eight_whole}
use Rattle.exchange.proofs.AreBytes.{EachByte}

-- n bytes, the rows from the k-th on and zeros around them
unfoldable pub laid_in : ℕ → ℕ → List ℕ → List ℕ
laid_in n k rows = replicate k 0 ++ (rows ++ replicate (n - (k + 8)) 0)

module _ (n k : ℕ) (rows : List ℕ) (eight : length rows ≡ 8) where
  pub length-laid : k + 8 ≤ n → length (laid_in n k rows) ≡ n
  unfolding laid_in
  length-laid room =
      let more = n - (k + 8) in
      omega (arith, length-append (replicate k 0) (rows ++ replicate more 0), length-append rows (replicate more 0), length-replicate {A = ℕ} k 0, length-replicate {A = ℕ} more 0)

  pub laid_eight : eight_from (laid_in n k rows) k ≡ rows
  unfolding laid_in
  laid_eight =
      let more : List ℕ = replicate (n - (k + 8)) 0 in
      let at : (i : ℕ) → i + 1 ≤ 8 → get_or (laid_in n k rows) (k + i) 0 ≡ get_or rows i 0 =
      λ i h. rw (length-replicate {A = ℕ} k 0) at (get_or-append-add (replicate k 0) (rows ++ more) i 0) ∙ get_or-append rows more 0 i (omega arith) in
      let first : get_or (laid_in n k rows) k 0 ≡ get_or rows 0 0 = rw add-zero at (at 0 (omega arith)) in
      (λ i. first i ∷ at 1 (omega arith) i ∷ at 2 (omega arith) i ∷ at 3 (omega arith) i ∷ at 4 (omega arith) i ∷ at 5 (omega arith) i ∷ at 6 (omega arith) i ∷ at 7 (omega arith) i ∷ [])
      ∙ eight_whole rows eight

-- what holds of 0 and of the rows holds of all
module _ (P : ℕ → Type 0) (nought : P 0) where
  zeros : (n : ℕ) → Every P (replicate n 0)
  zeros zero = tt
  zeros (suc n) = (nought, zeros n)

  laid_every : (n k : ℕ) (rows : List ℕ) → Every P rows → Every P (laid_in n k rows)
  unfolding laid_in
  laid_every n k rows e = every_append P (replicate k 0) _ (zeros k) (every_append P rows _ e (zeros (n - (k + 8))))

pub laid_passes : (test : ℕ → Bool) → test 0 ≡ true → (n k : ℕ) (rows : List ℕ) → all test rows ≡ true → all test (laid_in n k rows) ≡ true
laid_passes test nought n k rows e = every_all test (laid_in n k rows) (laid_every (Passes test) nought n k rows (all_every test rows e))

pub laid_bytes : (n k : ℕ) (rows : List ℕ) → EachByte rows → EachByte (laid_in n k rows)
laid_bytes n k rows e = laid_every (λ (x : ℕ). x < 256) (omega arith) n k rows e

-- Cells written in order: what stands at each place afterwards, and that drawing every cell draws afresh.
use Prim.Native.Nat.{ℕ, zero, suc, ◌<◌, ◌≤◌}
use mathlib.Core.Path.{◌≡◌, refl, sym, ◌∙◌, ap}
use mathlib.Core.Logic.{◌≢◌, dite}
use mathlib.Core.Bool.{Bool, true, false}
use mathlib.Core.List.{List}
use native.Mathlib.Omega.{arith}
use native.Mathlib.Decide.{ℕ_discrete}
use lib.ListN.{length, get_or, replicate, length-set, length-replicate}
use lib.Seq.{get_or-set_same, get_or-set_other, ext_get_or}
use Rattle.lists.specs.Tests.{when◌then◌else◌}
use Rattle.lists.proofs.Laws.{when_either}
use Rattle.glyphs.specs.Source.{Source, special, font, source_of}
use Rattle.picture.specs.Draw.{Screen, drawn_from, code_drawn, cell_drawn, place_of, put, paint, drawn}
use Rattle.picture.proofs.Places.{cell_at, line_at, place_inside, cell_of_place, line_of_place, cell_inside, line_inside, place_of_both}

-- what holds of both choices holds of the one picked, whatever the test
pub either {ℓ} : {A : Type ℓ} (P : A → Type 0) (t : Bool) (a b : A) → P a → P b → P (when t then a else b)
either P t a b h k = when_either P t a b (λ _. h) (λ _. k)

chosen {ℓ κ} : {A : Type ℓ} {B : Type κ} (f : A → B) (t : Bool) (a b : A) (u v : B) → f a ≡ u → f b ≡ v → f (when t then a else b) ≡ (when t then u else v)
unfolding when◌then◌else◌
chosen f true a b u v h k = h
chosen f false a b u v h k = k

-- Two places are the same only if cell and line are.
apart_cells : (c d k j : ℕ) → c < 80 → d < 80 → k < 8 → j < 8 → c ≢ d → place_of c k ≢ place_of d j
apart_cells c d k j hc hd hk hj n e = n (sym (cell_of_place c k hc hk) ∙ ap cell_at e ∙ cell_of_place d j hd hj)

apart_lines : (c k j : ℕ) → c < 80 → k < 8 → j < 8 → k ≢ j → place_of c k ≢ place_of c j
apart_lines c k j hc hk hj n e = n (sym (line_of_place c k hc hk) ∙ ap line_at e ∙ line_of_place c j hc hj)

-- One cell written: its own bytes are the new ones, the others stay.
module _ (c : ℕ) (g p : List ℕ) where
  pub length-put : (n : ℕ) → length (put c g p n) ≡ length p
  unfolding put
  length-put zero = refl
  length-put (suc n) = length-set (put c g p n) (place_of c n) (get_or g n 0) ∙ length-put n

  pub put_other : (n d k : ℕ) → n ≤ 8 → c < 80 → d < 80 → k < 8 → d ≢ c → get_or (put c g p n) (place_of d k) 0 ≡ get_or p (place_of d k) 0
  unfolding put
  put_other zero d k hn hc hd hk e = refl
  put_other (suc n) d k hn hc hd hk e =
      get_or-set_other (put c g p n) (place_of c n) (place_of d k) (get_or g n 0) 0 (apart_cells d c k n hd hc hk (omega arith) e)
      ∙ put_other n d k (omega arith) hc hd hk e

  pub put_own : (n k : ℕ) → n ≤ 8 → c < 80 → k < n → length p ≡ 640 → get_or (put c g p n) (place_of c k) 0 ≡ get_or g k 0
  unfolding put
  put_own zero k hn hc hk e = absurd (omega arith)
  put_own (suc n) k hn hc hk e =
      dite (ℕ_discrete k n)
      (λ q. rw q (get_or-set_same (put c g p n) (place_of c n) (get_or g n 0) 0 (omega (arith, length-put n, place_inside c n hc (omega arith)))))
      (λ q. get_or-set_other (put c g p n) (place_of c n) (place_of c k) (get_or g n 0) 0 (apart_lines c k n hc (omega arith) (omega arith) q)
      ∙ put_own n k (omega arith) hc (omega arith) e)

-- Cells written in order.
module _ (keep : ℕ → Bool) (g : ℕ → List ℕ) (p : List ℕ) where
  pub length-paint : (n : ℕ) → length (paint keep g p n) ≡ length p
  unfolding paint
  length-paint zero = refl
  length-paint (suc n) =
      either (λ (l : List ℕ). length l ≡ length p) (keep n) _ _ (length-paint n) (length-put n (g n) (paint keep g p n) 8 ∙ length-paint n)

  -- a cell not reached yet is as it was
  pub paint_ahead : (n c k : ℕ) → n ≤ c → c < 80 → k < 8 → get_or (paint keep g p n) (place_of c k) 0 ≡ get_or p (place_of c k) 0
  unfolding paint
  paint_ahead zero c k hn hc hk = refl
  paint_ahead (suc n) c k hn hc hk =
      let ih = paint_ahead n c k (omega arith) hc hk in
      either (λ (l : List ℕ). get_or l (place_of c k) 0 ≡ get_or p (place_of c k) 0) (keep n) _ _ ih
      (put_other n (g n) (paint keep g p n) 8 c k (omega arith) (omega arith) hc hk (omega arith) ∙ ih)

  -- a cell reached is kept or written
  pub paint_at : (n c k : ℕ) → n ≤ 80 → c < n → k < 8 → length p ≡ 640 → get_or (paint keep g p n) (place_of c k) 0 ≡ (when keep c then get_or p (place_of c k) 0 else get_or (g c) k 0)
  unfolding paint
  paint_at zero c k hn hc hk e = absurd (omega arith)
  paint_at (suc n) c k hn hc hk e =
      dite (ℕ_discrete c n)
      (λ q. rw q (chosen (λ (l : List ℕ). get_or l (place_of n k) 0) (keep n) _ _ _ _ (paint_ahead n n k (omega arith) (omega arith) hk)
      (put_own n (g n) (paint keep g p n) 8 k (omega arith) (omega arith) hk (length-paint n ∙ e))))
      (λ q. let ih = paint_at n c k (omega arith) (omega arith) hk e in
      either (λ (l : List ℕ). get_or l (place_of c k) 0 ≡ (when keep c then get_or p (place_of c k) 0 else get_or (g c) k 0)) (keep n) _ _ ih
      (put_other n (g n) (paint keep g p n) 8 c k (omega arith) (omega arith) (omega arith) hk q ∙ ih))

-- Two pictures are the same if each byte of each cell is.
pub by_cell : (x y : List ℕ) → length x ≡ 640 → length y ≡ 640 → ((c k : ℕ) → c < 80 → k < 8 → get_or x (place_of c k) 0 ≡ get_or y (place_of c k) 0) → x ≡ y
by_cell x y e q h =
    ext_get_or 0 x y (e ∙ sym q) (λ i l.
    let m : i < 640 = omega arith in
    rw (place_of_both i m) at (h (cell_at i) (line_at i) (cell_inside i m) (line_inside i m)))

module _ (s : Screen) (bytes : List ℕ) where
  pub length_cell : (c : ℕ) → length (cell_drawn s bytes c) ≡ 8
  unfolding code_drawn drawn_from
  length_cell c = go (source_of (get_or s.codes c 0))
    where
      go : (o : Source) → length (drawn_from o s.glyphs bytes) ≡ 8
      go (special g) = refl
      go (font f) = refl

  pub length-drawn : length (drawn s bytes) ≡ 640
  unfolding drawn
  length-drawn = length-paint (λ cell. false) (cell_drawn s bytes) (replicate 640 0) 80 ∙ length-replicate {A = ℕ} 640 0

  pub drawn_at : (c k : ℕ) → c < 80 → k < 8 → get_or (drawn s bytes) (place_of c k) 0 ≡ get_or (cell_drawn s bytes c) k 0
  unfolding drawn when◌then◌else◌
  drawn_at c k h g = paint_at (λ cell. false) (cell_drawn s bytes) (replicate 640 0) 80 c k (omega arith) h g (length-replicate {A = ℕ} 640 0)

  -- Writing every cell draws afresh, whatever the picture held.
  pub drawn_over : (p : List ℕ) → length p ≡ 640 → paint (λ cell. false) (cell_drawn s bytes) p 80 ≡ drawn s bytes
  unfolding when◌then◌else◌
  drawn_over p e =
      by_cell _ _ (length-paint (λ cell. false) (cell_drawn s bytes) p 80 ∙ e) length-drawn (λ c k h g.
      paint_at (λ cell. false) (cell_drawn s bytes) p 80 c k (omega arith) h g e ∙ sym (drawn_at c k h g))

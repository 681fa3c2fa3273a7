-- One turn of the loops that paint and list.
use mathlib.Core.Path.{◌≡◌, refl, sym, ◌∙◌, ap}
use mathlib.Core.Bool.{Bool, true, false, not}
use mathlib.Core.List.{List}
use Prim.Native.Nat.{ℕ, zero, suc, ◌+◌, ◌*◌, ◌<◌, ◌≤◌}
use native.Mathlib.Numerals.{add-one}
use native.Mathlib.Omega.{arith}
use lib.ListN.{length, get_or, set}
use lib.Seq.{paste, paste-zero, paste-suc}
use Rattle.lists.specs.Tests.{when◌then◌else◌}
use Rattle.lists.specs.Runs.{pasted}
use Rattle.lists.proofs.Laws.{when_true, when_false, pasted_fits}
use Rattle.lists.proofs.Rising.{Listing, listing_first, listing_over, listing_one}
use Rattle.picture.specs.Draw.{Screen, cell_drawn, place_of, put, paint}
use Rattle.picture.specs.Repaint.{alike, same, otherwise, painted, DrawsAlike, RepaintsCell, Repaints}
use Rattle.picture.proofs.Paints.{length-put}

-- a cell written byte by byte, or as one run
put_paste : (cell : ℕ) (bytes picture : List ℕ) → length bytes ≡ 8 → cell < 80 → length picture ≡ 640 → (n : ℕ) → n ≤ 8 → put cell bytes picture n ≡ paste picture (8 * cell) bytes n
unfolding put place_of
put_paste cell bytes picture e h g zero l = paste-zero picture (8 * cell) bytes
put_paste cell bytes picture e h g (suc n) l =
    ap (λ (p : List ℕ). set p (8 * cell + n) (get_or bytes n 0)) (put_paste cell bytes picture e h g n (omega arith))
    ∙ paste-suc picture (8 * cell) bytes n 0 (omega arith) (omega arith)

pub put_pasted : (cell : ℕ) (bytes picture : List ℕ) → length bytes ≡ 8 → cell < 80 → length picture ≡ 640 → pasted picture (8 * cell) bytes ≡ put cell bytes picture 8
put_pasted cell bytes picture e h g = pasted_fits picture (8 * cell) bytes (omega arith) ∙ rw e (sym (put_paste cell bytes picture e h g 8 (omega arith)))

module _ (keep : ℕ → Bool) (g : ℕ → List ℕ) (p : List ℕ) (n : ℕ) where
  pub paint_kept : keep n ≡ true → paint keep g p (n + 1) ≡ paint keep g p n
  unfolding paint when◌then◌else◌
  paint_kept h = rw (add-one, h)

  pub paint_put : keep n ≡ false → paint keep g p (n + 1) ≡ put n (g n) (paint keep g p n) 8
  unfolding paint when◌then◌else◌
  paint_put h = rw (add-one, h)

-- one cell repainted: left where its bytes are alike, else written
module _ (cell : ℕ) (was bytes picture : List ℕ) (r : Bool) (e : r ≡ alike 8 was bytes) where
  pub cell_left : r ≡ true → RepaintsCell cell was bytes picture true picture
  unfolding when◌then◌else◌
  cell_left t = (sym t ∙ e, refl)

  pub cell_written : (picture' : List ℕ) → r ≡ false → picture' ≡ put cell bytes picture 8 → RepaintsCell cell was bytes picture false picture'
  unfolding when◌then◌else◌
  cell_written picture' t h = (sym t ∙ e, h)

-- what the loop of the repaint has reached before cell n
abbrev pub Reached : Screen → Screen → List ℕ → List ℕ → List ℕ → ℕ → List ℕ → List ℕ → ℕ → Type 0
Reached before after font picture₀ list₀ n picture list count =
    (n ≤ 80) × (length picture ≡ 640) × (length list₀ ≡ 80) × (picture ≡ paint (same before after font) (cell_drawn after font) picture₀ n)
    × Listing (otherwise before after font) list₀ n list count

module _ (before after : Screen) (font picture₀ list₀ : List ℕ) where
  pub reached_first : length picture₀ ≡ 640 → length list₀ ≡ 80 → Reached before after font picture₀ list₀ 0 picture₀ list₀ 0
  unfolding paint
  reached_first h g = (omega arith, h, g, refl, listing_first (otherwise before after font) list₀)

  pub reached_all : (n : ℕ) (picture list : List ℕ) (count : ℕ) → 80 ≤ n → Reached before after font picture₀ list₀ n picture list count → Repaints before after font picture₀ list₀ count picture list
  unfolding painted
  reached_all n picture list count h w = let e : n ≡ 80 = omega arith in (rw e at w.4.0, rw e at w.3, rw e at w.4.2)

  -- a cell that is not looked at draws as it did
  pub reached_over : (n : ℕ) (picture list : List ℕ) (count : ℕ) → n < 80 → DrawsAlike before after n → Reached before after font picture₀ list₀ n picture list count
      → Reached before after font picture₀ list₀ (n + 1) picture list count
  unfolding same
  reached_over n picture list count h d w = (
    omega arith,
    w.1,
    w.2,
    w.3 ∙ sym (paint_kept (same before after font) (cell_drawn after font) picture₀ n (d font)),
    listing_over (otherwise before after font) list₀ n list count w.4 (ap not (d font)),
  )

  module _ (n : ℕ) (picture list : List ℕ) (count : ℕ) (picture' : List ℕ) (r : Bool) (h : n < 80)
      (m : RepaintsCell n (cell_drawn before font n) (cell_drawn after font n) picture r picture')
      (w : Reached before after font picture₀ list₀ n picture list count) where
    decides : same before after font n ≡ r
    unfolding same
    decides = sym m.0

    pub reached_left : r ≡ true → Reached before after font picture₀ list₀ (n + 1) picture' list count
    reached_left t =
        let e : same before after font n ≡ true = decides ∙ t in
        let p : picture' ≡ picture = m.1 ∙ when_true _ _ _ t in (
          omega arith,
          ap length p ∙ w.1,
          w.2,
          p ∙ w.3 ∙ sym (paint_kept (same before after font) (cell_drawn after font) picture₀ n e),
          listing_over (otherwise before after font) list₀ n list count w.4 (ap not e),
        )

    pub reached_listed : r ≡ false → Reached before after font picture₀ list₀ (n + 1) picture' (set list count n) (count + 1)
    reached_listed t =
        let e : same before after font n ≡ false = decides ∙ t in
        let p : picture' ≡ put n (cell_drawn after font n) picture 8 = m.1 ∙ when_false _ _ _ t in (
          omega arith,
          ap length p ∙ length-put n (cell_drawn after font n) picture 8 ∙ w.1,
          w.2,
          p ∙ ap (λ (l : List ℕ). put n (cell_drawn after font n) l 8) w.3 ∙ sym (paint_put (same before after font) (cell_drawn after font) picture₀ n e),
          listing_one (otherwise before after font) list₀ n list count w.4 (omega (arith, w.2)) (ap not e),
        )

-- one cell drawn more
pub drawn_turn : (s : Screen) (font picture₀ picture picture' bytes : List ℕ) (n : ℕ) → bytes ≡ cell_drawn s font n → picture ≡ paint (λ c. false) (cell_drawn s font) picture₀ n
    → picture' ≡ put n bytes picture 8 → picture' ≡ paint (λ c. false) (cell_drawn s font) picture₀ (n + 1)
drawn_turn s font picture₀ picture picture' bytes n e w h = h ∙ (λ i. put n (e i) (w i) 8) ∙ sym (paint_put (λ c. false) (cell_drawn s font) picture₀ n refl)

-- The window: bytes of earlier calls, and behind them the first bytes of the piece.
use mathlib.Core.Path.{◌≡◌, sym, ◌∙◌, ap}
use mathlib.Core.Bool.{true, false}
use mathlib.Core.List.{List, [], ◌++◌, append-nil}
use Prim.Native.Nat.{ℕ, ◌+◌, ◌-◌, ◌≤◌, min}
use native.Mathlib.Nat.{zero-add}
use native.Mathlib.Omega.{arith}
use lib.ListN.{length, take, drop, replicate, length-take, length-drop, length-append, take-append-drop, drop_of_length-le}
use lib.Seq.{paste, take-paste, take_all, length-take-le, take-append-le, drop-append-le, take_at, drop_at, drop-drop}
use Rattle.lists.specs.Runs.{pasted}
use Rattle.lists.proofs.Laws.{pasted_fits, length-pasted}
use Rattle.packets.proofs.Bytes.{padding}
use Rattle.framing.specs.declared.Walked.{Walked}
use Rattle.framing.specs.Scan.{after, settle, scan}
use Rattle.framing.specs.Walk.{between, from, Walks}
use Rattle.framing.proofs.Turns.{waits, is_packet_lem, is_wait, brought, used_up}

-- w is c bytes of the hold b, and then n of the piece p: all of b was laid down, and the piece over what is behind c
pub record Window (b p w : List ℕ) (c n : ℕ) : Type 0 where
  pub held : take c w ≡ take c b
  pub behind : drop c w ≡ take n p
  pub size : length w ≡ c + n

pub laid : (b p w w' : List ℕ) (c n : ℕ) → length b ≡ 25 → c ≤ 25 → n ≤ length p → n ≤ 25 → w ≡ pasted (replicate 50 0) 0 b → w' ≡ pasted w c (take n p)
    → Window b p (take (c + n) w') c n
laid b p w w' c n h k i j e f =
    let x : length (take c b) ≡ c = length-take-le c b (omega arith) in
    let y : length (take n p) ≡ n = length-take-le n p i in
    let l : length (take c b ++ take n p) ≡ c + n = length-append (take c b) (take n p) ∙ omega arith in
    let g : take c w ≡ take c b = rw (e, padding 50 b (omega arith)) (take-append-le c b (drop (length b) (replicate 50 0)) (omega arith)) in
    let m : length w ≡ 50 = ap length e ∙ length-pasted (replicate 50 0) 0 b in
    let o : w' ≡ paste w c (take n p) n = f ∙ pasted_fits w c (take n p) (omega arith) ∙ rw y in
    let z : take (c + n) w' ≡ take c b ++ take n p = rw (o, take-paste w c (take n p) n (omega arith) (omega arith), g, take_all n (take n p) (omega arith)) in
    record {
      held = rw z (take_at (take c b) (take n p) c x);
      behind = rw z (drop_at (take c b) (take n p) c x);
      size = rw z l;
    }

-- a call that holds nothing
pub none_held : (b p : List ℕ) (n c : ℕ) → c ≡ min n 25 → c ≡ 0 → after 0 0 0 (from 0 0 p) ≡ scan (take n b) p
none_held b p n c e f = let x : n ≡ 0 = omega arith in rw x (simp zero-add)

pub window_size : (w p : List ℕ) (c : ℕ) → drop c w ≡ take 25 p → c ≤ length w → length w ≡ c + min 25 (length p)
window_size w p c h n = omega (arith, length-drop c w, ap length h, length-take 25 p)

-- a call that holds the first c bytes of the window w, and walks over it
module _ (w p : List ℕ) (c : ℕ) (r : Walked) (h : drop c w ≡ take 25 p) (n : c ≤ length w) (k : Walks w 0 c r) where
  behind : drop c (w ++ drop 25 p) ≡ p
  behind = drop-append-le c w (drop 25 p) n ∙ rw h (take-append-drop 25 p)

  further : (i : ℕ) → c ≤ i → drop i (w ++ drop 25 p) ≡ drop (i - c) p
  further i m =
      let x : c + (i - c) ≡ i = omega arith in
      sym (rw x at (drop-drop (i - c) c (w ++ drop 25 p))) ∙ ap (drop (i - c)) behind

  reaches : scan (take c w) p ≡ after (r.end - c) r.start r.checked (from r.start r.end (w ++ drop 25 p))
  reaches =
      let x : c - 0 ≡ c = omega arith in
      let y : r.start - 0 ≡ r.start = omega arith in
      let z : from 0 c (w ++ drop 25 p) ≡ scan (take c w) p = rw (x, take-append-le c w (drop 25 p) n, behind) in
      sym z ∙ k.reached.same (drop 25 p) ∙ rw y

  pub to_packet : r.found ≡ true → scan (take c w) p ≡ after (r.end - c) r.start r.checked (settle (between r.start r.end w))
  to_packet f = reaches ∙ ap (after (r.end - c) r.start r.checked) (brought w 0 c r.start r.end r.checked k.reached (is_packet_lem w 0 c r k f) (drop 25 p))

  pub to_wait : r.found ≡ false → r.end - c ≡ length p → scan (take c w) p ≡ after (r.end - c) r.start r.checked (settle (between r.start r.end w))
  to_wait f g =
      let x : drop 25 p ≡ [] = drop_of_length-le p {i = 25} (omega (arith, window_size w p c h n, k.used f)) in
      let y : from r.start r.end (w ++ drop 25 p) ≡ settle (between r.start r.end w) = rw (x, append-nil) (used_up w 0 c r.start r.end r.checked k.reached (k.used f)) in
      reaches ∙ ap (after (r.end - c) r.start r.checked) y

  -- the bytes of earlier calls are gone where the piece has more
  module _ (f : r.found ≡ false) (g : r.end - c ≡ length p → ⊥) where
    pub gone : (c ≤ r.start) × (r.end - c ≤ length p)
    gone =
        let x = waits w 0 c r.start r.end r.checked k.reached (is_wait w 0 c r k f) in
        let y = k.used f in
        (omega (arith, window_size w p c h n), omega (arith, window_size w p c h n))

    pub to_rest : scan (take c w) p ≡ after (r.end - c) (c + (r.start - c)) r.checked (from (r.start - c) (r.end - c) p)
    to_rest =
        let x : c + (r.start - c) ≡ r.start = omega (arith, gone.0) in
        let y : r.end - c - (r.start - c) ≡ r.end - r.start = omega (arith, gone.0) in
        reaches ∙ rw (further r.start gone.0, further r.end k.reached.behind, x, y)

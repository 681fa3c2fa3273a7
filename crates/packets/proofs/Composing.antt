-- Writing a packet into the front of a buffer, and its judgement.
use mathlib.Core.Path.{◌≡◌, refl, sym, ◌∙◌, ap}
use mathlib.Core.Bool.{true, false, and-false}
use mathlib.Core.List.{List, [], ◌∷◌}
use Prim.Native.Nat.{ℕ, ◌+◌, ◌*◌, ◌/◌, ◌%◌, ◌^◌, ◌<◌, ◌≤◌}
use native.Mathlib.Omega.{arith}
use borrow.Author.Tests.{eq-eqb, ne_eqb, le-leb, lt-leb}
use lib.ListN.{length, take, drop, set, get_or}
use lib.Seq.{take_at, get_or_at, get_or-append-add}
use Rattle.std.specs.Int.{w16, to_le_bytes}
use Rattle.lists.specs.Runs.{front, pasted}
use Rattle.lists.proofs.Laws.{when_true, when_false, front_more, front_run}
use Rattle.fcs.specs.Fcs.{checksum}
use Rattle.packets.specs.declared.Judgement.TheVariants.{Packet}
use Rattle.packets.specs.Packet.{covered, low_first, packet_bytes, composable, composed_length, composed, Composes}
use Rattle.packets.specs.Judge.{checksum_right, judge}
use Rattle.packets.proofs.Bytes.{packet_length_lem}
use Rattle.packets.proofs.Judgements.{shown, whole}

module _ (out content : List ℕ) where
  pub wrong_buffer : (length out ≡ 26 → ⊥) → composable out content ≡ false
  wrong_buffer h = rw (ne_eqb (length out) 26 h)

  pub too_long : 22 < length content → composable out content ≡ false
  too_long h = rw (lt-leb (length content) 22 h, and-false)

  pub fitting : length out ≡ 26 → length content ≤ 22 → composable out content ≡ true
  fitting h l = rw (eq-eqb (length out) 26 h, le-leb (length content) 22 l)

  module _ (kind : ℕ) where
    pub composes_nothing : composable out content ≡ false → Composes out kind content 0 out
    unfolding composed_length composed
    composes_nothing e = (sym (when_false _ _ _ e), sym (when_false _ _ _ e))

    -- the two stores, the run, the checksum of what stands there so far, and its two bytes: the packet at the front
    written : (sum : ℕ) (out' out'' : List ℕ) → length content + 4 ≤ length out
        → out' ≡ pasted (set (set out 0 kind) 1 (length content)) 2 content → sum ≡ checksum (take (length content + 2) out')
        → out'' ≡ pasted out' (length content + 2) (low_first sum) → out'' ≡ front (packet_bytes kind content) out
    written sum out' out'' room e f p =
        let h = covered kind content in
        let n = length content in
        let a : set (set out 0 kind) 1 n ≡ front (kind ∷ n ∷ []) out =
        rw (front_more [] out 0 kind refl (omega arith)) (front_more (kind ∷ []) out 1 n refl (omega arith)) in
        let b : out' ≡ front h out = e ∙ rw a (front_run (kind ∷ n ∷ []) out content 2 refl (omega arith)) in
        let t : take (n + 2) out' ≡ h = rw b (take_at h (drop (length h) out) (n + 2) (omega arith)) in
        let g : sum ≡ checksum h = f ∙ ap checksum t in
        p ∙ rw (b, g) (front_run h out (low_first (checksum h)) (n + 2) (omega arith) (omega arith))

    composes : (out' : List ℕ) → length out ≡ 26 → length content ≤ 22 → out' ≡ front (packet_bytes kind content) out
        → Composes out kind content (length content + 4) out'
    unfolding composed_length composed
    composes out' h l e = let t = fitting h l in (sym (when_true _ _ _ t), e ∙ sym (when_true _ _ _ t))

    pub composes_all : (sum : ℕ) (out' out'' ends : List ℕ) → length out ≡ 26 → length content ≤ 22
        → out' ≡ pasted (set (set out 0 kind) 1 (length content)) 2 content → sum ≡ checksum (take (length content + 2) out')
        → out'' ≡ pasted out' (length content + 2) ends → ends ≡ low_first sum → Composes out kind content (length content + 4) out''
    composes_all sum out' out'' ends h l e f p q = composes out'' h l (written sum out' out'' (omega arith) e f (rw q at p))

-- a number of sixteen bits as the library writes it
pub low_bytes : (sum : ℕ) → sum < 2 ^ 16 → to_le_bytes w16 sum ≡ low_first sum
low_bytes sum h = let e : sum / 256 % 256 ≡ sum / 256 = omega arith in rw e

-- the bytes of a packet are judged a packet
module _ (kind : ℕ) (content : List ℕ) (l : length content ≤ 22) where
  abbrev sum : ℕ
  sum = checksum (covered kind content)

  size : length (covered kind content) ≡ length content + 2
  size = omega arith

  low : get_or (packet_bytes kind content) (length content + 2) 0 ≡ sum % 256
  low = get_or_at (covered kind content) (sum % 256) (sum / 256 ∷ []) 0 (length content + 2) size

  high : get_or (packet_bytes kind content) (length content + 3) 0 ≡ sum / 256
  high =
      let e : length (covered kind content) + 1 ≡ length content + 3 = omega arith in
      rw e at (get_or-append-add (covered kind content) (low_first sum) 1 0)

  right : checksum_right (packet_bytes kind content) ≡ true
  unfolding checksum_right
  right = rw (take_at (covered kind content) (low_first sum) (length content + 2) size, low, high) (eq-eqb sum (sum % 256 + 256 * (sum / 256)) (omega arith))

  room : length content + 4 ≤ length (packet_bytes kind content)
  room = omega (arith, packet_length_lem kind content)

  pub composed_judged : judge (packet_bytes kind content) ≡ Packet
  composed_judged = shown (packet_bytes kind content) (whole l room right)

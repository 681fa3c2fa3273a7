-- The judgement, sentence by sentence.
use mathlib.Core.Path.{◌≡◌, refl, ◌∙◌}
use mathlib.Core.Logic.{dite}
use mathlib.Core.Bool.{Bool, true, false}
use mathlib.Core.List.{List, ◌++◌}
use Prim.Native.Nat.{ℕ, ◌+◌, ◌*◌, ◌<◌, ◌≤◌}
use native.Mathlib.Decide.{dec_lt}
use native.Mathlib.Omega.{arith}
use borrow.Author.Tests.{lt-ltb, le-ltb}
use lib.Dec.{eqb}
use lib.ListN.{length, get_or, take, drop, length-append, length-drop, get_or-append}
use lib.Seq.{take-append-le, drop-append-le}
use Rattle.lists.specs.Tests.{when◌then◌else◌}
use Rattle.packets.specs.declared.Judgement.{Judgement}
use Rattle.packets.specs.declared.Judgement.TheVariants.{Wait, LongLength, WrongChecksum, Packet}
use Rattle.fcs.specs.Fcs.{checksum}
use Rattle.packets.specs.Judge.{length_byte, checksum_right, judge}

-- what is known of the held bytes h under each judgement: one way to each of the paper's sentences
pub data Seen (h : List ℕ) : Judgement → Type 0 where
  short : length h < 2 → Seen h Wait
  part : 2 ≤ length h → length_byte h ≤ 22 → length h < length_byte h + 4 → Seen h Wait
  long : 2 ≤ length h → 22 < length_byte h → Seen h LongLength
  wrong : length_byte h ≤ 22 → length_byte h + 4 ≤ length h → checksum_right h ≡ false → Seen h WrongChecksum
  whole : length_byte h ≤ 22 → length_byte h + 4 ≤ length h → checksum_right h ≡ true → Seen h Packet

module _ (h : List ℕ) where
  pub shown : {j : Judgement} → Seen h j → judge h ≡ j
  unfolding judge when◌then◌else◌
  shown (short a) = rw (lt-ltb (length h) 2 a)
  shown (part a b c) = rw (le-ltb (length h) 2 a, le-ltb 22 (length_byte h) b, lt-ltb (length h) (length_byte h + 4) c)
  shown (long a b) = rw (le-ltb (length h) 2 a, lt-ltb 22 (length_byte h) b)
  shown (wrong a b e) = rw (le-ltb (length h) 2 (omega arith), le-ltb 22 (length_byte h) a, le-ltb (length h) (length_byte h + 4) b, e)
  shown (whole a b e) = rw (le-ltb (length h) 2 (omega arith), le-ltb 22 (length_byte h) a, le-ltb (length h) (length_byte h + 4) b, e)

  pub see : (j : Judgement) → judge h ≡ j → Seen h j
  see j e = rw e at (dite (dec_lt (length h) 2) (λ p. at (short p))
      (λ p. dite (dec_lt 22 (length_byte h)) (λ q. at (long (omega arith) q))
      (λ q. dite (dec_lt (length h) (length_byte h + 4)) (λ r. at (part (omega arith) (omega arith) r))
      (λ r. go (checksum_right h) refl (omega arith) (omega arith)))))
    where
      at : {j : Judgement} → Seen h j → Seen h (judge h)
      at v = rw (shown v) v

      go : (t : Bool) → checksum_right h ≡ t → length_byte h ≤ 22 → length_byte h + 4 ≤ length h → Seen h (judge h)
      go true e a b = at (whole a b e)
      go false e a b = at (wrong a b e)

-- the checksum compared, by a number that is the length byte
pub right_by : (h : List ℕ) (n : ℕ) → n ≡ length_byte h → (sum ends : ℕ) → sum ≡ checksum (take (n + 2) h) → ends ≡ get_or h (n + 2) 0 + 256 * get_or h (n + 3) 0
    → eqb sum ends ≡ checksum_right h
unfolding checksum_right
right_by h n e sum ends s l = rw (s, l, e)

-- bytes behind change nothing of a judgement that is no wait
module _ (h s : List ℕ) where
  pub length_more : 2 ≤ length h → length_byte (h ++ s) ≡ length_byte h
  length_more a = get_or-append h s 0 1 (omega arith)

  right_more : length_byte h + 4 ≤ length h → checksum_right (h ++ s) ≡ checksum_right h
  unfolding checksum_right
  right_more a = rw (length_more (omega arith), take-append-le (length_byte h + 2) h s (omega arith), get_or-append h s 0 (length_byte h + 2) (omega arith), get_or-append h s 0 (length_byte h + 3) (omega arith))

  pub more_long : judge h ≡ LongLength → judge (h ++ s) ≡ LongLength
  more_long e = go (see h LongLength e)
    where
      go : Seen h LongLength → judge (h ++ s) ≡ LongLength
      go (long a b) = shown (h ++ s) (long (omega (arith, length-append h s)) (rw (length_more a) b))

  pub more_wrong : judge h ≡ WrongChecksum → (judge (h ++ s) ≡ WrongChecksum) × (length_byte (h ++ s) ≡ length_byte h)
  more_wrong e = go (see h WrongChecksum e)
    where
      go : Seen h WrongChecksum → (judge (h ++ s) ≡ WrongChecksum) × (length_byte (h ++ s) ≡ length_byte h)
      go (wrong a b f) =
          let m = length_more (omega arith) in
          (shown (h ++ s) (wrong (rw m a) (rw m (omega (arith, length-append h s))) (right_more b ∙ f)), m)

  pub record Same : Type 0 where
    pub judged : judge (h ++ s) ≡ Packet
    pub sized : length_byte (h ++ s) ≡ length_byte h
    pub kind : get_or (h ++ s) 0 0 ≡ get_or h 0 0
    pub content : take (length_byte h) (drop 2 (h ++ s)) ≡ take (length_byte h) (drop 2 h)
    pub behind : drop (length_byte h + 4) (h ++ s) ≡ drop (length_byte h + 4) h ++ s

  pub more_packet : judge h ≡ Packet → Same
  more_packet e = go (see h Packet e)
    where
      go : Seen h Packet → Same
      go (whole a b f) =
          let m = length_more (omega arith) in
          record {
            judged = shown (h ++ s) (whole (rw m a) (rw m (omega (arith, length-append h s))) (right_more b ∙ f));
            sized = m;
            kind = get_or-append h s 0 0 (omega arith);
            content = rw (drop-append-le 2 h s (omega arith)) (take-append-le (length_byte h) (drop 2 h) s (omega (arith, length-drop 2 h)));
            behind = drop-append-le (length_byte h + 4) h s b;
          }

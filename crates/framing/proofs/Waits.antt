-- How many bytes are needed where the judgement waits.
use mathlib.Core.Path.{◌≡◌}
use mathlib.Core.List.{List, ◌++◌}
use Prim.Native.Nat.{ℕ, ◌+◌, ◌<◌, ◌≤◌}
use native.Mathlib.Omega.{arith}
use borrow.Author.Tests.{lt-ltb, le-ltb}
use lib.ListN.{length, length-append}
use Rattle.lists.proofs.Laws.{when_true, when_false}
use Rattle.packets.specs.declared.Judgement.TheVariants.{Wait}
use Rattle.packets.specs.Judge.{length_byte, judge}
use Rattle.packets.proofs.Judgements.{Seen, short, part, shown, see, length_more}
use Rattle.framing.specs.Walk.{needed}

pub needed_short : (h : List ℕ) → length h < 2 → needed h ≡ 2
unfolding needed
needed_short h a = when_true _ _ _ (lt-ltb (length h) 2 a)

pub needed_part : (h : List ℕ) → 2 ≤ length h → needed h ≡ length_byte h + 4
unfolding needed
needed_part h a = when_false _ _ _ (le-ltb (length h) 2 a)

pub waits_for : (h : List ℕ) → judge h ≡ Wait → (length h < needed h) × (needed h ≤ 26)
waits_for h e = go (see h Wait e)
  where
    go : Seen h Wait → (length h < needed h) × (needed h ≤ 26)
    go (short a) = (omega (arith, needed_short h a), omega (arith, needed_short h a))
    go (part a b c) = (omega (arith, needed_part h a), omega (arith, needed_part h a))

-- bytes behind change nothing of a wait before as many as are needed
pub more_wait : (h s : List ℕ) → judge h ≡ Wait → length h + length s < needed h → judge (h ++ s) ≡ Wait
more_wait h s e n = go (see h Wait e)
  where
    go : Seen h Wait → judge (h ++ s) ≡ Wait
    go (short a) = shown (h ++ s) (short (omega (arith, length-append h s, needed_short h a)))
    go (part a b c) =
        let m = length_more h s a in
        shown (h ++ s) (part (omega (arith, length-append h s)) (rw m b) (rw m (omega (arith, length-append h s, needed_part h a))))

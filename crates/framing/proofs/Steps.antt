-- A call, one judgement at a time.
use mathlib.Core.Path.{◌≡◌, refl, ◌∙◌}
use mathlib.Core.List.{List, [], ◌∷◌, ◌++◌, append-nil}
use Prim.Native.Nat.{ℕ, zero, suc, ◌+◌, ◌<◌, ◌≤◌}
use native.Mathlib.Nat.{zero-add, add_assoc}
use native.Mathlib.Numerals.{one-add}
use native.Mathlib.Omega.{arith}
use lib.ListN.{length, take, drop}
use lib.Seq.{append_snoc}
use Rattle.packets.specs.declared.Judgement.{Judgement}
use Rattle.packets.specs.declared.Judgement.TheVariants.{Wait, LongLength, WrongChecksum, Packet}
use Rattle.packets.specs.Judge.{length_byte, judge}
use Rattle.packets.proofs.Judgements.{Seen, long, wrong, whole, see}
use Rattle.framing.specs.Scan.{Ending, waiting, packet, Outcome, still, after, found, settle_at, settle, go_on, scan}

-- settling begins with the judgement of the oldest
settle_at_lem : (h : List ℕ) (j : Judgement) → 0 < length h → judge h ≡ j → settle h ≡ settle_at j h (settle (drop 1 h))
unfolding settle
settle_at_lem [] j n e = absurd (omega arith)
settle_at_lem (b ∷ h) j n e = rw e

module _ (h : List ℕ) where
  pub settle_wait : judge h ≡ Wait → settle h ≡ still h
  unfolding settle settle_at
  settle_wait = at h
    where
      at : (g : List ℕ) → judge g ≡ Wait → settle g ≡ still g
      at [] e = refl
      at (b ∷ g) e = rw e

  settle_long : judge h ≡ LongLength → settle h ≡ after 0 1 0 (settle (drop 1 h))
  unfolding settle_at
  settle_long e = go (see h LongLength e)
    where
      go : Seen h LongLength → settle h ≡ after 0 1 0 (settle (drop 1 h))
      go (long a b) = settle_at_lem h LongLength (omega arith) e

  settle_wrong : judge h ≡ WrongChecksum → settle h ≡ after 0 1 (length_byte h + 2) (settle (drop 1 h))
  unfolding settle_at
  settle_wrong e = go (see h WrongChecksum e)
    where
      go : Seen h WrongChecksum → settle h ≡ after 0 1 (length_byte h + 2) (settle (drop 1 h))
      go (wrong a b f) = settle_at_lem h WrongChecksum (omega arith) e

  pub settle_found : judge h ≡ Packet → settle h ≡ found h
  unfolding settle_at
  settle_found e = go (see h Packet e)
    where
      go : Seen h Packet → settle h ≡ found h
      go (whole a b f) = settle_at_lem h Packet (omega arith) e

-- what is dropped in settling is dropped in the scan
scan_drop : (h g s : List ℕ) (d c : ℕ) → settle h ≡ after 0 d c (settle g) → scan h s ≡ after 0 d c (scan g s)
unfolding scan go_on
scan_drop h g [] d c e = e
scan_drop h g (b ∷ s) d c e = rw e (go (settle g).ending (scan ((settle g).hold ++ b ∷ []) s))
  where
    go : (a : Ending) (q : Outcome) → go_on a (after 0 d c (settle g)) q ≡ after 0 d c (go_on a (settle g) q)
    go waiting q = simp (zero-add, add_assoc)
    go (packet k x) q = refl

module _ (h s : List ℕ) where
  pub drops_long : judge h ≡ LongLength → scan h s ≡ after 0 1 0 (scan (drop 1 h) s)
  drops_long e = scan_drop h (drop 1 h) s 1 0 (settle_long h e)

  pub drops_wrong : judge h ≡ WrongChecksum → scan h s ≡ after 0 1 (length_byte h + 2) (scan (drop 1 h) s)
  drops_wrong e = scan_drop h (drop 1 h) s 1 (length_byte h + 2) (settle_wrong h e)

  pub finds : judge h ≡ Packet → scan h s ≡ found h
  unfolding scan go_on
  finds e = at s
    where
      at : (r : List ℕ) → scan h r ≡ found h
      at [] = settle_found h e
      at (b ∷ r) = rw (settle_found h e)

pub after_after : (t d k t' d' k' : ℕ) (o : Outcome) → after t d k (after t' d' k' o) ≡ after (t + t') (d + d') (k + k') o
after_after t d k t' d' k' o = simp add_assoc

-- m bytes are taken where the judgement waits before each of them
pub takes : (m : ℕ) (h s : List ℕ) → m ≤ length s → ((i : ℕ) → i < m → judge (h ++ take i s) ≡ Wait) → scan h s ≡ after m 0 0 (scan (h ++ take m s) (drop m s))
unfolding scan go_on
takes zero h s n f = simp (append-nil, zero-add)
takes (suc m) h [] n f = absurd (omega arith)
takes (suc m) h (b ∷ s) n f =
    let w : judge h ≡ Wait = rw append-nil at (f 0 (omega arith)) in
    let i = takes m (h ++ b ∷ []) s (omega arith) (λ i l. rw append_snoc (f (suc i) (omega arith))) in
    rw (settle_wait h w, i, append_snoc) (after_after 1 0 0 m 0 0 (scan (h ++ b ∷ take m s) (drop m s)) ∙ rw one-add)

-- The whole line, a settling at a time and a call at a time.
use mathlib.Core.Path.{◌≡◌, refl, ◌∙◌, ap}
use mathlib.Core.List.{List, [], ◌∷◌, ◌++◌}
use Prim.Native.Nat.{ℕ, zero, suc, ◌+◌, ◌<◌}
use native.Mathlib.Nat.{zero-add, add_assoc}
use native.Mathlib.Numerals.{one-add, add-three, add-four}
use native.Mathlib.Omega.{arith}
use lib.ListN.{length, get_or, take, drop}
use lib.Seq.{append_snoc}
use Rattle.packets.specs.declared.Judgement.{Judgement}
use Rattle.packets.specs.declared.Judgement.TheVariants.{Wait, LongLength, WrongChecksum, Packet}
use Rattle.packets.specs.declared.Packet as packets
use Rattle.packets.specs.Packet.{packet_of}
use Rattle.packets.specs.Hold.{hold_of}
use Rattle.packets.specs.Judge.{length_byte, judge}
use Rattle.packets.proofs.Judgements.{more_long, more_wrong, more_packet}
use Rattle.framing.specs.Scan.{Ending, waiting, packet, Outcome, settle_at, settle, go_on, scan, scanned_of}
use Rattle.framing.specs.Line.{Tally, nothing_more, onto, packets_in, counted, line_at, line_behind, line}

abbrev packets_of : Ending → List packets.Packet
packets_of waiting = []
packets_of (packet k d) = packet_of k d ∷ []

-- t, after a call that came to o
abbrev pub noted : Outcome → Tally → Tally
noted o t = onto (packets_of o.ending) o.dropped o.checked t

pub counted_noted : (o : Outcome) (t : Tally) → counted (scanned_of o) t ≡ noted o t
unfolding scanned_of
counted_noted o t = ap (λ (l : List packets.Packet). onto l o.dropped o.checked t) (go o.ending)
  where
    go : (e : Ending) → packets_in (scanned_of (record { ending = e; hold = o.hold; taken = o.taken; dropped = o.dropped; checked = o.checked })) ≡ packets_of e
    go waiting = refl
    go (packet k d) = refl

passed : (k : ℕ) (w : List ℕ) → line_behind k w ≡ line (drop k w)
unfolding line_behind
passed zero [] = refl
passed (suc k) [] = refl
passed zero (b ∷ w) = refl
passed (suc k) (b ∷ w) = passed k w

tail : (n b : ℕ) (w : List ℕ) → drop (n + 3) w ≡ drop (n + 4) (b ∷ w)
tail n b w = rw (add-three, add-four)

settled_at : (b : ℕ) (h s : List ℕ) (j : Judgement) → judge (b ∷ h) ≡ j → line (h ++ s) ≡ noted (settle h) (line ((settle h).hold ++ s))
    → line (b ∷ (h ++ s)) ≡ noted (settle_at j (b ∷ h) (settle h)) (line ((settle_at j (b ∷ h) (settle h)).hold ++ s))
unfolding settle_at line_behind line_at
settled_at b h s Wait e ih = simp zero-add
settled_at b h s LongLength e ih = rw (more_long (b ∷ h) s e, ih) (simp (zero-add, add_assoc))
settled_at b h s WrongChecksum e ih = let m = more_wrong (b ∷ h) s e in rw (m.0, m.1, ih) (simp (zero-add, add_assoc))
settled_at b h s Packet e ih =
    let m = more_packet (b ∷ h) s e in
    let n = length_byte (b ∷ h) in
    let t : line_behind (n + 3) (h ++ s) ≡ line (drop (n + 4) (b ∷ h) ++ s) = passed (n + 3) (h ++ s) ∙ ap line (tail n b (h ++ s) ∙ m.behind) in
    rw (m.judged, m.sized, t, m.kind, m.content)

settled : (h s : List ℕ) → line (h ++ s) ≡ noted (settle h) (line ((settle h).hold ++ s))
unfolding settle
settled [] s = simp zero-add
settled (b ∷ h) s = settled_at b h s (judge (b ∷ h)) refl (settled h s)

pub settle_taken : (h : List ℕ) → (settle h).taken ≡ 0
unfolding settle settle_at
settle_taken [] = refl
settle_taken (b ∷ h) = go (judge (b ∷ h)) (settle h) (settle_taken h)
  where
    go : (j : Judgement) (r : Outcome) → r.taken ≡ 0 → (settle_at j (b ∷ h) r).taken ≡ 0
    go Wait r e = refl
    go LongLength r e = omega arith
    go WrongChecksum r e = omega arith
    go Packet r e = refl

scanned_at : (b : ℕ) (p more h : List ℕ) (a : Ending) (q : Outcome) → (settle h).ending ≡ a
    → line (((settle h).hold ++ b ∷ []) ++ (p ++ more)) ≡ noted q (line (q.hold ++ drop q.taken (p ++ more)))
    → line (h ++ (b ∷ (p ++ more))) ≡ noted (go_on a (settle h) q) (line ((go_on a (settle h) q).hold ++ drop (go_on a (settle h) q).taken (b ∷ (p ++ more))))
unfolding go_on
scanned_at b p more h waiting q e ih = settled h (b ∷ (p ++ more)) ∙ rw (e, ← append_snoc, ih, one-add) (simp add_assoc)
scanned_at b p more h (packet k d) q e ih = rw (settle_taken h) (settled h (b ∷ (p ++ more)))

-- the whole line is what a call on a piece of it comes to, and then the line that it leaves
pub scanned : (h p more : List ℕ) → line (h ++ (p ++ more)) ≡ noted (scan h p) (line ((scan h p).hold ++ drop (scan h p).taken (p ++ more)))
unfolding scan
scanned h [] more = rw (settle_taken h) (settled h more)
scanned h (b ∷ p) more =
    let g = (settle h).hold ++ b ∷ [] in
    scanned_at b p more h (settle h).ending (scan g p) refl (scanned g p more)

-- what waits brings nothing more
waits_at : (b : ℕ) (h : List ℕ) (j : Judgement) (o : Outcome) → judge (b ∷ h) ≡ j → (o.ending ≡ waiting → line o.hold ≡ nothing_more (hold_of o.hold))
    → (settle_at j (b ∷ h) o).ending ≡ waiting → line (settle_at j (b ∷ h) o).hold ≡ nothing_more (hold_of (settle_at j (b ∷ h) o).hold)
unfolding settle_at line_behind line_at
waits_at b h Wait o e ih w = rw e
waits_at b h LongLength o e ih w = ih w
waits_at b h WrongChecksum o e ih w = ih w
waits_at b h Packet o e ih w = let z : ◌≡◌ {A = ℕ} 0 1 = cc in absurd (omega arith)

waits : (h : List ℕ) → (settle h).ending ≡ waiting → line (settle h).hold ≡ nothing_more (hold_of (settle h).hold)
unfolding settle line_behind
waits [] w = refl
waits (b ∷ h) w = waits_at b h (judge (b ∷ h)) (settle h) refl (waits h) w

-- a call that waits has taken all of its piece, and what it holds brings nothing more
all_at : (p h : List ℕ) (a : Ending) (q : Outcome) → (settle h).ending ≡ a
    → (q.ending ≡ waiting → (q.taken ≡ length p) × (line q.hold ≡ nothing_more (hold_of q.hold)))
    → (go_on a (settle h) q).ending ≡ waiting
    → ((go_on a (settle h) q).taken ≡ suc (length p)) × (line (go_on a (settle h) q).hold ≡ nothing_more (hold_of (go_on a (settle h) q).hold))
unfolding go_on
all_at p h waiting q e ih w = let i = ih w in (omega arith, i.1)
all_at p h (packet k d) q e ih w = let z : ◌≡◌ {A = ℕ} 0 1 = cc in absurd (omega arith)

pub all_taken : (h p : List ℕ) → (scan h p).ending ≡ waiting → ((scan h p).taken ≡ length p) × (line (scan h p).hold ≡ nothing_more (hold_of (scan h p).hold))
unfolding scan
all_taken h [] w = (settle_taken h, waits h w)
all_taken h (b ∷ p) w = let g = (settle h).hold ++ b ∷ [] in all_at p h (settle h).ending (scan g p) refl (all_taken g p) w

-- the line that begins with a packet, read from its values
pub line_packet : (w s : List ℕ) → judge w ≡ Packet → 0 < length w → line (w ++ s) ≡ onto (packet_of (get_or w 0 0) (take (length_byte w) (drop 2 w)) ∷ []) 0 (length_byte w + 2) (line (drop (length_byte w + 4) w ++ s))
unfolding settle settle_at
line_packet [] s e n = absurd (omega arith)
line_packet (b ∷ w) s e n = settled_at b w s Packet e (settled w s)

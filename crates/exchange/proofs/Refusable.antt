-- Command 0 is never refused: a packet has at most 22 data bytes, and any such are free.
use Prim.Native.Nat.{ℕ, ◌≤◌}
use mathlib.Core.Path.{◌≡◌, refl, ◌∙◌, subst}
use mathlib.Core.Bool.{false, false≢true}
use mathlib.Core.List.{List, [], ◌∷◌, ◌++◌}
use native.Mathlib.Omega.{arith}
use lib.ListN.{length, take, drop, length-take}
use Rattle.std.specs.Prelude.{Some, unwrap_or, Result, Ok, Err}
use Rattle.lists.specs.Tests.{when◌then◌else◌}
use Rattle.lists.proofs.Firsts.{found_holds}
use Rattle.packets.specs.declared.Judgement.{Judgement}
use Rattle.packets.specs.declared.Judgement.TheVariants.{Wait, LongLength, WrongChecksum, Packet}
use Rattle.packets.specs.Packet.{content_most, packet_of, content_of}
use Rattle.packets.specs.Hold.{held}
use Rattle.packets.specs.Judge.{length_byte, judge}
use Rattle.packets.proofs.Judgements as judgements
use Rattle.framing.specs.Scan.{Ending, waiting, packet, packet_at, Outcome, settle_at, settle, go_on, scan, scanned_of, piece_most}
use Rattle.table.specs.declared.Row.{Row}
use Rattle.table.specs.declared.Rule.TheVariants.{Free}
use Rattle.table.specs.Table.{table, look_up}
use Rattle.verdict.specs.declared.Reason.{Reason}
use Rattle.verdict.specs.declared.Objection.{Objection}
use Rattle.verdict.specs.Verdict.{in_range, first_out, whole_verdict, refused, verdict_of}
use Rattle.verdict.proofs.Reasons.{Seen, no_command, short, long, out, together, see}
use Rattle.panel.specs.declared.Panel.{Panel}
use Rattle.linecall.specs.Line.{Lent}
use Rattle.theorems.proofs.Outcomes.{scan_packet}
use Rattle.exchange.proofs.Replied.{content_back}

-- a call ends with a packet of at most 22 data bytes
abbrev Few : Ending → Type 0
Few waiting = Unit
Few (packet k d) = length d ≤ content_most

settled_at : (h : List ℕ) (j : Judgement) (o : Outcome) → judge h ≡ j → Few o.ending → Few (settle_at j h o).ending
unfolding settle_at
settled_at h Wait o e few = tt
settled_at h LongLength o e few = few
settled_at h WrongChecksum o e few = few
settled_at h Packet o e few = go (judgements.see h Packet e)
  where
    go : judgements.Seen h Packet → length (take (length_byte h) (drop 2 h)) ≤ content_most
    go (judgements.whole a b f) = omega (arith, length-take (length_byte h) (drop 2 h))

settled_few : (h : List ℕ) → Few (settle h).ending
unfolding settle
settled_few [] = tt
settled_few (b ∷ h) = settled_at (b ∷ h) (judge (b ∷ h)) (settle h) refl (settled_few h)

scanned_few : (h p : List ℕ) → Few (scan h p).ending
unfolding scan go_on
scanned_few h [] = settled_few h
scanned_few h (b ∷ p) = let g = (settle h).hold ++ b ∷ [] in go (settle h).ending (settle h) (settled_few h) (scan g p) (scanned_few g p)
  where
    go : (a : Ending) (o : Outcome) → Few o.ending → (q : Outcome) → Few q.ending → Few (go_on a o q).ending
    go waiting o few q more = more
    go (packet k d) o few q more = few

content_few : (e : Ending) → Few e → length (content_of (unwrap_or (packet_at e) (packet_of 0 []))) ≤ content_most
content_few waiting few = omega arith
content_few (packet k d) few = rw (content_back k d) few

pub found_few : (p : Panel) (l : Lent) → length (content_of (scan_packet p l)) ≤ content_most
unfolding scanned_of
found_few p l = let o = scan (held p.line.hold) (take piece_most l.piece) in content_few o.ending (scanned_few _ _)

-- Command 0 is never refused.
pub never_refused : (d : List ℕ) → length d ≤ content_most → (reason : Reason) (place : ℕ) → verdict_of 0 d ≡ refused reason place → ⊥
unfolding look_up first_out in_range whole_verdict when◌then◌else◌
never_refused d few reason place v = go (see (look_up 0 table) d _ v) refl
  where
    -- the row of a ping, which antt computes
    free : {r : Row} → look_up 0 table ≡ Some r → (r.shortest ≡ 0) × (r.longest ≡ content_most) × (r.rule ≡ Free)
    free {r} k =
        let ping : Row = record { shortest = 0; longest = content_most; rule = Free } in
        let same : ping ≡ r = let w : Some ping ≡ Some r = k in cc in
        subst (λ (x : Row). (x.shortest ≡ 0) × (x.longest ≡ content_most) × (x.rule ≡ Free)) same (refl, refl, refl)

    go : {w : Result (Unit {0}) Objection} → Seen (look_up 0 table) d w → w ≡ refused reason place → ⊥
    go (no_command k) e = let z : ◌≡◌ {A = ℕ} 0 1 = cc in omega arith
    go (short k a) e = omega (arith, (free k).0)
    go (long k a) e = omega (arith, (free k).1)
    go (out f q h) e = let r = free f.command in false≢true (found_holds (λ i. false) (length d) (omega (arith, rw r.2 at q)))
    go (together f h w) e = let r = free f.command in let u : Ok tt ≡ refused reason place = rw r.2 at w ∙ e in cc

pub always_allowed : (d : List ℕ) → length d ≤ content_most → verdict_of 0 d ≡ Ok tt
always_allowed d few = go (verdict_of 0 d) refl
  where
    go : (v : Result (Unit {0}) Objection) → verdict_of 0 d ≡ v → verdict_of 0 d ≡ Ok tt
    go (Ok _) e = e
    go (Err o) e = absurd (never_refused d few o.reason o.place e)

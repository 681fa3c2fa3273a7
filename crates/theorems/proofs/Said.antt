-- What a call says fits the 16 bytes that it says it in, and is read from them.
use Prim.Native.Nat.{ℕ, ◌+◌, ◌*◌, ◌<◌, ◌≤◌}
use mathlib.Core.Path.{◌≡◌, refl}
use mathlib.Core.Bool.{and-eq-true_iff}
use mathlib.Core.List.{List, [], ◌∷◌}
use native.Mathlib.Omega.{arith}
use borrow.Author.Tests.{leb-true}
use lib.ListN.{length, take, get_or, length-take}
use Rattle.lists.specs.Tests.{◌=?◌}
use Rattle.lists.proofs.Laws.{when_either}
use Rattle.packets.specs.Packet.{composed_length}
use Rattle.packets.specs.Hold.{held}
use Rattle.framing.specs.Scan.{scanned_of}
use Rattle.framing.proofs.Bounds as bounds
use Rattle.shapes.specs.Shape.{bytes}
use Rattle.shapes.proofs.Numbers.{word_back}
use Rattle.panel.specs.declared.Panel.{Panel}
use Rattle.picture.proofs.Changes.{changed_short}
use Rattle.answers.specs.declared.Answer.{Answer}
use Rattle.answers.specs.declared.Said.{Said}
use Rattle.answers.specs.Answer.{numbers_of, refused_call}
use Rattle.answers.proofs.Checks.{Pass, refused_by, accepted_by, either_way}
use Rattle.listen.specs.declared.Heard.{Heard}
use Rattle.listen.specs.Reply.{refused_length}
use Rattle.listen.specs.Listen.{heard_of}
use Rattle.perform.specs.Perform.{shown_by}
use Rattle.statebytes.specs.State.{PanelFits}
use Rattle.linecall.specs.Line.{Lent, line_heard, line_done, body_after, line_said}
use Rattle.saidbytes.specs.Says.{said_bytes, number_of, bytes_said}
use Rattle.theorems.specs.Other.{Other}
use Rattle.theorems.specs.Cuts.{answer_bytes, taken_in}
use Rattle.theorems.proofs.Others.{SaidSmall, tests, accepted, said_by, row_small}
use Rattle.theorems.proofs.Outcomes.{tests_of, scan_of, Outcome, turned_away, waits, finds, outcome}

-- a reply has at most 26 bytes
reply_short : (out content : List ℕ) → composed_length out content < 256
unfolding composed_length
reply_short out content =
    when_either (λ (n : ℕ). n < 256) _ _ _
    (λ e. let l = leb-true (length content) 22 ((and-eq-true_iff (length out =? 26) _).0 e).1 in omega arith)
    (λ _. omega arith)

error_short : (a : Answer) (out : List ℕ) → refused_length a out < 256
unfolding refused_length
error_short a out = when_either (λ (n : ℕ). n < 256) _ _ _ (λ _. reply_short out []) (λ _. omega arith)

-- the counts and the error reply's length of a piece that is heard
record HeardSmall (h : Heard) : Type 0 where
  taken : h.counts.taken < 65536
  dropped : h.counts.dropped < 65536
  checked : h.counts.checked < 4294967296
  reply : h.reply < 256

module _ (p : Panel) (l : Lent) (n : length p.line.hold.bytes ≤ 25) where
  scan_small : Pass (tests_of p l) → HeardSmall (heard_of p.line (scan_of p l) l.reply)
  unfolding scanned_of
  scan_small q =
      let piece = take 65535 l.piece in
      let long = leb-true (length l.piece) 4096 q.1.0 in
      let c = bounds.call (held p.line.hold) piece in
      let t = bounds.taken_at_most (held p.line.hold) piece in
      let m = length-take p.line.hold.count p.line.hold.bytes in
      let k = length-take 65535 l.piece in
      record { taken = omega arith; dropped = omega (arith, c.adds_up); checked = omega (arith, c.adds_up, c.worked); reply = error_short _ l.reply }

  heard_small : HeardSmall (line_heard p l)
  heard_small = go (outcome p l)
    where
      go : {a : Answer} → Outcome p l a → HeardSmall (line_heard p l)
      go (turned_away f h g) = rw h record { taken = omega arith; dropped = omega arith; checked = omega arith; reply = omega arith }
      go (waits q h g f) = rw h (scan_small q)
      go (finds q h g f b k) = rw h (scan_small q)

  pub line_small : SaidSmall (line_said p l)
  line_small =
      let h = heard_small in
      record {
        taken = h.taken;
        dropped = h.dropped;
        checked = h.checked;
        reply = when_either (λ (m : ℕ). m < 256) (line_done p l) _ _ (λ _. reply_short l.reply _) (λ _. h.reply);
        listed = omega (arith, changed_short (shown_by p.body) (shown_by (body_after p l)) l.font);
      }

pub other_small : (c : Other) (p : Panel) (out : List ℕ) → PanelFits p → SaidSmall (said_by c p out)
other_small c p out h =
    either_way (tests c p out)
    (λ d f. rw (refused_by f (refused_call p) (accepted c p)) record { taken = omega arith; dropped = omega arith; checked = omega arith; reply = omega arith; listed = omega arith })
    (λ q. rw (accepted_by (tests c p out) q (refused_call p) (accepted c p)) (row_small c p h))

-- the answer's four numbers
abbrev pub numbers_in : Answer → List ℕ
numbers_in a = (numbers_of a).number ∷ (numbers_of a).command ∷ (numbers_of a).reason ∷ (numbers_of a).place ∷ []

-- A call's answer and counts, read from the 16 bytes, little end first.
pub record ReadFrom (b : List ℕ) (s : Said) : Type 0 where
  pub number : get_or b 0 0 ≡ number_of s
  pub command : get_or b 1 0 ≡ (numbers_of s.answer).command
  pub reason : get_or b 2 0 ≡ (numbers_of s.answer).reason
  pub place : get_or b 3 0 ≡ (numbers_of s.answer).place
  pub answer : answer_bytes b ≡ numbers_in s.answer
  pub taken : taken_in b ≡ s.counts.taken
  pub dropped : get_or b 6 0 + 256 * get_or b 7 0 ≡ s.counts.dropped
  pub checked : get_or b 8 0 + 256 * get_or b 9 0 + 65536 * get_or b 10 0 + 16777216 * get_or b 11 0 ≡ s.counts.checked
  pub reply : get_or b 12 0 ≡ s.reply
  pub listed : get_or b 13 0 ≡ s.listed

pub said_back : (s : Said) (b : List ℕ) → b ≡ bytes_said s → SaidSmall s → ReadFrom b s
unfolding said_bytes bytes
said_back s b e f =
    rw e record {
      number = refl;
      command = refl;
      reason = refl;
      place = refl;
      answer = refl;
      taken = omega (arith, f.taken);
      dropped = omega (arith, f.dropped);
      checked = word_back s.counts.checked f.checked;
      reply = omega (arith, f.reply);
      listed = omega (arith, f.listed);
    }

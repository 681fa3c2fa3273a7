-- How a line call comes out, by its answer.
use Prim.Native.Nat.{ℕ, ◌%◌, ◌<◌, ◌≤◌}
use mathlib.Core.Path.{◌≡◌, refl, sym, ◌∙◌, ap, subst}
use mathlib.Core.List.{List, []}
use native.Mathlib.Omega.{arith}
use borrow.Author.Tests.{ltb-true, ltb-false, ne_eqb}
use lib.ListN.{length}
use Rattle.std.specs.Prelude.{Option, Some, None, is_some, unwrap_or, Result, Ok, Err}
use Rattle.lists.specs.Tests.{◌<?◌, ◌=?◌}
use Rattle.lists.proofs.Laws.{when_either}
use Rattle.packets.specs.declared.Packet.{Packet}
use Rattle.packets.specs.Packet.{packet_of, content_of}
use Rattle.framing.specs.declared.Scanned.{Scanned}
use Rattle.verdict.specs.declared.Objection.{Objection}
use Rattle.verdict.specs.declared.Reason.{Reason}
use Rattle.verdict.specs.Verdict.{refused, verdict_of}
use Rattle.panel.specs.declared.Panel.{Panel}
use Rattle.ranges.specs.Ranges.{in_ranges}
use Rattle.answers.specs.declared.Check.{Check}
use Rattle.answers.specs.declared.Answer.{Answer}
use Rattle.answers.specs.declared.Answer.TheVariants.{Waiting, Stray, Done, Refused, CallRefused}
use Rattle.answers.specs.Answer.{check_number, numbers_of, filing_of}
use Rattle.answers.specs.Checks.{Test}
use Rattle.answers.proofs.Checks.{refused_from_ten, First, Pass, refused_by, accepted_by, either_way}
use Rattle.listen.specs.Reply.{answer_to, ruling}
use Rattle.listen.specs.Listen.{line_tests, unheard, answer_in, heard_of, heard_reply, scanned_by, listened, listened_reply}
use Rattle.linecall.specs.Line.{Lent, sizes_of, line_heard}

-- the call's checks, and what its scan finds
abbrev pub tests_of : Panel → Lent → List Test
tests_of p l = line_tests (in_ranges p) (length l.piece) (sizes_of l) (length l.reply)

abbrev pub scan_of : Panel → Lent → Scanned
scan_of p l = scanned_by p.line l.piece

-- the packet that it finds, all zeros where it finds none
abbrev pub scan_packet : Panel → Lent → Packet
scan_packet p l = unwrap_or (scan_of p l).packet (packet_of 0 [])

-- the reply buffer as the line's part leaves it
abbrev pub reply_heard : Panel → Lent → List ℕ
reply_heard p l = listened_reply (in_ranges p) p.line l.piece (sizes_of l) l.reply

-- an answer has a refusal to file where its number is 4, and no other has
pub files_at_4 : (a : Answer) → is_some (filing_of a) ≡ ((numbers_of a).number =? 4)
unfolding numbers_of
files_at_4 Waiting = refl
files_at_4 (Stray command) = refl
files_at_4 (Done command) = refl
files_at_4 (Refused command reason place) = refl
files_at_4 (CallRefused c) = sym (ne_eqb (check_number c) 4 (λ (e : check_number c ≡ 4). absurd (omega (arith, refused_from_ten c))))

-- a packet's answer: a stray, done or refused
pub data Answered (k : Packet) : Answer → Type 0 where
  strays : 64 ≤ k.kind → Answered k (Stray (k.kind % 64))
  does : k.kind < 64 → verdict_of k.kind (content_of k) ≡ Ok tt → Answered k (Done k.kind)
  refuses : {reason : Reason} {place : ℕ} → k.kind < 64 → verdict_of k.kind (content_of k) ≡ refused reason place → Answered k (Refused k.kind reason place)

by_verdict : (k : Packet) (v : Result (Unit {0}) Objection) → k.kind < 64 → verdict_of k.kind (content_of k) ≡ v → Answered k (ruling v k.kind)
unfolding ruling
by_verdict k (Ok _) h e = does h e
by_verdict k (Err o) h e = refuses h e

pub answered : (k : Packet) → Answered k (answer_to k)
unfolding answer_to
answered k = when_either (Answered k) (k.kind <? 64) _ _ (λ t. by_verdict k _ (ltb-true _ _ t) refl) (λ f. strays (ltb-false _ _ f))

-- a line call is turned away by the first check that fails, or heard: it waits, or answers the packet that it found
pub data Outcome (p : Panel) (l : Lent) : Answer → Type 0 where
  turned_away : {c : Check} → First (tests_of p l) c → line_heard p l ≡ unheard p.line c → reply_heard p l ≡ l.reply → Outcome p l (CallRefused c)
  waits : Pass (tests_of p l) → line_heard p l ≡ heard_of p.line (scan_of p l) l.reply → reply_heard p l ≡ heard_reply (scan_of p l) l.reply → (scan_of p l).packet ≡ None → Outcome p l Waiting
  finds : {a : Answer} → Pass (tests_of p l) → line_heard p l ≡ heard_of p.line (scan_of p l) l.reply → reply_heard p l ≡ heard_reply (scan_of p l) l.reply → (scan_of p l).packet ≡ Some (scan_packet p l)
      → a ≡ answer_to (scan_packet p l) → Answered (scan_packet p l) a → Outcome p l a

module _ (p : Panel) (l : Lent) where
  heard_passed : Pass (tests_of p l) → (line_heard p l ≡ heard_of p.line (scan_of p l) l.reply) × (reply_heard p l ≡ heard_reply (scan_of p l) l.reply)
  unfolding listened listened_reply
  heard_passed q = (accepted_by (tests_of p l) q _ _, accepted_by (tests_of p l) q _ _)

  heard_failed : {c : Check} → First (tests_of p l) c → (line_heard p l ≡ unheard p.line c) × (reply_heard p l ≡ l.reply)
  unfolding listened listened_reply
  heard_failed f = (refused_by f _ _, refused_by f _ _)

  found : Pass (tests_of p l) → (o : Option Packet) → (scan_of p l).packet ≡ o → Outcome p l (answer_in (scan_of p l).packet)
  unfolding answer_in
  found q None e = let h = heard_passed q in rw e (waits q h.0 h.1 e)
  found q (Some k) e =
      let h = heard_passed q in
      let same : k ≡ scan_packet p l = sym (ap (λ (o : Option Packet). unwrap_or o (packet_of 0 [])) e) in
      let one : (scan_of p l).packet ≡ Some (scan_packet p l) = e ∙ ap (λ (x : Packet). Some x) same in
      subst (λ (o : Option Packet). Outcome p l (answer_in o)) (sym one) (finds q h.0 h.1 one refl (answered (scan_packet p l)))

  pub outcome : Outcome p l (line_heard p l).answer
  outcome =
      either_way (tests_of p l) (λ c f. let h = heard_failed f in rw h.0 (turned_away f h.0 h.1))
      (λ q. rw (heard_passed q).0 (found q _ refl))

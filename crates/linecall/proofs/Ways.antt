-- The ways of a line call: it is refused by number, its command is performed, or the body stays.
use Prim.Native.Nat.{ℕ}
use mathlib.Core.Path.{◌≡◌, refl, sym, ◌∙◌, ap}
use mathlib.Core.Bool.{true, false}
use mathlib.Core.List.{List}
use lib.ListN.{length}
use borrow.Author.Tests.{eqb-true}
use Rattle.std.specs.Prelude.{Ok, Err}
use Rattle.lists.specs.Tests.{when◌then◌else◌}
use Rattle.panel.specs.declared.Panel.{Panel}
use Rattle.ranges.specs.Ranges.{in_ranges}
use Rattle.picture.proofs.Changes.{changed_same, painted_same}
use Rattle.picture.proofs.Sizes.{repaints_sized}
use Rattle.answers.specs.declared.Check.{Check}
use Rattle.answers.specs.Answer.{is_done, refused_call}
use Rattle.answers.specs.Checks.{Test, checked_by}
use Rattle.answers.proofs.Checks.{decided_fails, decided_passes, accepted_by}
use Rattle.listen.specs.declared.Heard.{Heard}
use Rattle.listen.specs.Listen.{line_tests, unheard, listened, listened_reply, HearsPiece}
use Rattle.listen.proofs.Done.{done_passed, done_silent}
use Rattle.perform.specs.declared.Performed.{Performed}
use Rattle.perform.specs.Commands.{carried}
use Rattle.perform.specs.Perform.{shown_by, reply_length, reply_written, Performs}
use Rattle.linecall.specs.Line.{Lent, sizes_of, line_heard, line_done, performed_by, said_with, line_picture, line_list, line_reply, LineSays}

module _ (p : Panel) (l : Lent) where
  -- the call's checks, and its reply buffer once the line's part is heard
  abbrev pub tests_of : List Test
  tests_of = line_tests (in_ranges p) (length l.piece) (sizes_of l) (length l.reply)

  abbrev pub reply_once_heard : List ℕ
  reply_once_heard = listened_reply (in_ranges p) p.line l.piece (sizes_of l) l.reply

  module _ (e : line_done p l ≡ true) where
    done_sized : (length l.picture ≡ 640) × (length l.list ≡ 80)
    done_sized = let q = done_passed (in_ranges p) p.line l.piece (sizes_of l) l.reply e in (eqb-true _ _ q.1.1.0, eqb-true _ _ q.1.1.1.1.0)

    performed_way : {d : Performed} {picture' list' reply' : List ℕ} → Performs p.body (line_heard p l).packet l.picture l.font l.list reply_once_heard d picture' list' reply'
        → (d ≡ performed_by p l) × (picture' ≡ line_picture p l) × (list' ≡ line_list p l) × (reply' ≡ line_reply p l)
    unfolding when◌then◌else◌
    performed_way {d} {picture'} {list'} {reply'} m =
        let c = carried p.body (line_heard p l).packet in
        let silent = done_silent (in_ranges p) p.line l.piece (sizes_of l) l.reply e in
        let z = done_sized in
        let r = repaints_sized (shown_by p.body) (shown_by c.body) l.font l.picture l.list d.listed picture' list' z.0 z.1 m.repaints in
        let written = m.written ∙ ap (reply_length c.reply) silent in
        rw e (λ i. record { body = m.body i; reply = written i; listed = r.0 i }, r.1, r.2, m.replied ∙ ap (reply_written c.reply) silent)

  module _ (e : line_done p l ≡ false) where
    left_performed : performed_by p l ≡ record { body = p.body; reply = (line_heard p l).reply; listed = 0 }
    unfolding when◌then◌else◌
    left_performed = rw (e, changed_same (shown_by p.body) l.font)

    left_picture : line_picture p l ≡ l.picture
    unfolding when◌then◌else◌
    left_picture = rw e (painted_same (shown_by p.body) l.font l.picture)

    left_list : line_list p l ≡ l.list
    unfolding when◌then◌else◌
    left_list = rw (e, changed_same (shown_by p.body) l.font)

    left_reply : line_reply p l ≡ reply_once_heard
    unfolding when◌then◌else◌
    left_reply = rw e

  -- the same of a call's parts: what was heard, and what of it is done
  module _ {h : Heard} {reply₁ : List ℕ} (e : h ≡ line_heard p l) (r : reply₁ ≡ reply_once_heard) where
    pub says_performed : {d : Performed} {picture' list' reply' : List ℕ} → is_done h.answer ≡ true → Performs p.body h.packet l.picture l.font l.list reply₁ d picture' list' reply'
        → LineSays p l (said_with h d) picture' list' reply'
    says_performed {d} t m =
        let w = performed_way (ap (λ (h : Heard). is_done h.answer) (sym e) ∙ t) (rw (e, r) at m) in
        (ap (λ (h : Heard). said_with h d) e ∙ ap (said_with (line_heard p l)) w.0, w.1, w.2, w.3)

    pub says_left : is_done h.answer ≡ false → LineSays p l (said_with h (record { body = p.body; reply = h.reply; listed = 0 })) l.picture l.list reply₁
    says_left t =
        let u = ap (λ (h : Heard). is_done h.answer) (sym e) ∙ t in
        let said = ap (λ (h : Heard). said_with h (record { body = p.body; reply = h.reply; listed = 0 })) e ∙ ap (said_with (line_heard p l)) (sym (left_performed u)) in
        (said, sym (left_picture u), sym (left_list u), r ∙ sym (left_reply u))

  pub says_refused : (c : Check) → checked_by tests_of ≡ Err c → LineSays p l (refused_call p c) l.picture l.list l.reply
  unfolding listened listened_reply is_done
  says_refused c q = says_left {h = unheard p.line c} (sym (decided_fails tests_of q _ _)) (sym (decided_fails tests_of q _ _)) refl

  -- a call whose checks pass hears its piece
  pub passed_heard : checked_by tests_of ≡ Ok tt → {h : Heard} {reply₁ : List ℕ} → HearsPiece p.line l.piece l.reply h reply₁ → (h ≡ line_heard p l) × (reply₁ ≡ reply_once_heard)
  unfolding listened listened_reply
  passed_heard q w = let g = decided_passes tests_of q in (w.0 ∙ sym (accepted_by tests_of g _ _), w.1 ∙ sym (accepted_by tests_of g _ _))

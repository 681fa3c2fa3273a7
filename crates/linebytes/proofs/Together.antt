-- How a line call over bytes comes out, put together from the promises of what it calls.
use Prim.Native.Nat.{ℕ, ◌<◌}
use mathlib.Core.Path.{◌≡◌, refl, sym, ◌∙◌, ap}
use mathlib.Core.Bool.{Bool, true, false}
use mathlib.Core.List.{List}
use borrow.Author.Tests.{eqb-true, lt-ltb, le-ltb}
use lib.ListN.{length}
use Rattle.std.specs.Prelude.{Ok, Err}
use Rattle.lists.proofs.Laws.{when_true, when_false}
use Rattle.shapes.specs.Shape.{Sized, Bytes}
use Rattle.panel.specs.declared.Panel.{Panel}
use Rattle.panel.specs.State.{line_unfiled}
use Rattle.answers.specs.declared.Check.{Check}
use Rattle.answers.specs.declared.Check.TheVariants.{StateRange}
use Rattle.answers.specs.declared.Answer.TheVariants.{CallRefused}
use Rattle.answers.specs.declared.Said.{Said}
use Rattle.answers.specs.Answer.{check_number, numbers_of, is_done, with_unfiled}
use Rattle.answers.specs.Checks.{Test, decided, checked_by}
use Rattle.answers.proofs.Checks.{refused_from_ten}
use Rattle.listen.specs.declared.Heard.{Heard}
use Rattle.listen.specs.Listen.{line_tests, HearsPiece}
use Rattle.listen.proofs.Done.{done_number, heard_number}
use Rattle.perform.specs.Commands.{carried}
use Rattle.perform.specs.declared.Performed.{Performed}
use Rattle.perform.specs.Perform.{reply_length, Performs}
use Rattle.linecall.specs.Line.{Lent, sizes_of, line_heard, said_with, line_said, line_picture, line_list, line_reply}
use Rattle.linecall.proofs.Ways.{tests_of, reply_once_heard, says_performed, says_left, says_refused, passed_heard}
use Rattle.statebytes.specs.Layout.{line_shape, line_parts}
use Rattle.statebytes.specs.State.{bytes_of, panel_of, is_state, state_with, ranges_of, line_read_of, body_read_of}
use Rattle.statebytes.proofs.Theorems.{line_written}
use Rattle.saidbytes.specs.Says.{number_of, bytes_said, refused_bytes, SaysRefused}
use Rattle.linebytes.specs.Line.{files_by, faults_after, state_after, LineBytes, TurnsDown, CarriesOut}
use Rattle.linebytes.proofs.Filed.{none_filed, done_unfiled}
use Rattle.linebytes.proofs.OnState.{on_state_lem, on_none}

-- a call that is said so on a panel, over that panel's bytes
module _ (s : List ℕ) (l : Lent) (f : List ℕ) (e : is_state s ≡ true) (t : Said) (q : t ≡ line_said (panel_of s) l) where
  abbrev unfiled_told : Said → Said
  unfiled_told t = with_unfiled t (files_by t.answer t.panel.line.unfiled f).unfiled

  said_of_bytes : {n : ℕ} {s' p' l' r' f' said' : List ℕ} → n ≡ number_of t → s' ≡ state_after s (unfiled_told t) → p' ≡ line_picture (panel_of s) l → l' ≡ line_list (panel_of s) l → r' ≡ line_reply (panel_of s) l
      → f' ≡ faults_after t.answer t.panel.line.unfiled f → said' ≡ bytes_said t → LineBytes s l f n s' p' l' r' f' said'
  said_of_bytes number state picture list reply faults said = record {
    number = number ∙ ap number_of q ∙ sym (on_state_lem s _ _ e);
    state = state ∙ ap (λ (t : Said). state_after s (unfiled_told t)) q ∙ sym (on_state_lem s _ _ e);
    picture = picture ∙ sym (on_state_lem s _ _ e);
    list = list ∙ sym (on_state_lem s _ _ e);
    reply = reply ∙ sym (on_state_lem s _ _ e);
    faults = faults ∙ ap (λ (t : Said). faults_after t.answer t.panel.line.unfiled f) q ∙ sym (on_state_lem s _ _ e);
    said = said ∙ ap bytes_said q ∙ sym (on_state_lem s _ _ e);
  }

-- the checks of a call on bytes, of which those that are no state fail the first
abbrev tests_on : List ℕ → Lent → List Test
tests_on s l = line_tests (ranges_of s) (length l.piece) (sizes_of l) (length l.reply)

none_checked : (s : List ℕ) (l : Lent) → is_state s ≡ false → checked_by (tests_on s l) ≡ Err StateRange
unfolding ranges_of decided
none_checked s l e = when_false _ _ _ (when_false _ _ _ e)

state_checked : (s : List ℕ) (l : Lent) → is_state s ≡ true → tests_on s l ≡ tests_of (panel_of s) l
unfolding ranges_of
state_checked s l e = ap (λ (b : Bool). line_tests b (length l.piece) (sizes_of l) (length l.reply)) (when_true _ _ _ e)

-- a call that is refused by number
module _ (s : List ℕ) (l : Lent) (f : List ℕ) (c : Check) (fails : checked_by (tests_on s l) ≡ Err c) {m : ℕ} {said' : List ℕ} (says : SaysRefused c m said') where
  none_refused : is_state s ≡ false → LineBytes s l f m s l.picture l.list l.reply f said'
  unfolding numbers_of check_number
  none_refused e =
      let same : StateRange ≡ c = let z = sym (none_checked s l e) ∙ fails in cc in
      record {
        number = says.0 ∙ ap (λ (d : Check). (numbers_of (CallRefused d)).number) (sym same) ∙ sym (on_none s _ _ e);
        state = sym (on_none s _ _ e);
        picture = sym (on_none s _ _ e);
        list = sym (on_none s _ _ e);
        reply = sym (on_none s _ _ e);
        faults = sym (on_none s _ _ e);
        said = says.1 ∙ ap refused_bytes (sym same) ∙ sym (on_none s _ _ e);
      }

  state_refused : is_state s ≡ true → LineBytes s l f m s l.picture l.list l.reply f said'
  unfolding state_after numbers_of
  state_refused e =
      let p = panel_of s in
      let all = says_refused p l c (rw (state_checked s l e) at fails) in
      let ten = refused_from_ten c in
      said_of_bytes s l f e _ all.0 says.0 (sym (when_false _ _ _ (le-ltb _ _ ten))) all.1 all.2 all.3
      (none_filed (CallRefused c) p.line.unfiled f refl).1 says.1

  pub refused_line : LineBytes s l f m s l.picture l.list l.reply f said'
  refused_line = go (is_state s) refl
    where
      go : (t : Bool) → is_state s ≡ t → LineBytes s l f m s l.picture l.list l.reply f said'
      go true e = state_refused e
      go false e = none_refused e

-- a call whose checks pass
module _ (s : List ℕ) (l : Lent) (f : List ℕ) (passes : checked_by (tests_on s l) ≡ Ok tt) {h : Heard} {reply₁ : List ℕ} (hears : HearsPiece (line_read_of s) l.piece l.reply h reply₁) where
  abbrev p : Panel
  p = panel_of s

  state_passed : is_state s ≡ true
  state_passed = go (is_state s) refl
    where
      go : (t : Bool) → is_state s ≡ t → is_state s ≡ true
      go true e = e
      go false e = let z : Err StateRange ≡ Ok tt = sym (none_checked s l e) ∙ passes in absurd (cc)

  -- the line's part is heard as the panel's
  heard_as : (h ≡ line_heard p l) × (reply₁ ≡ reply_once_heard p l)
  unfolding line_read_of
  heard_as = passed_heard p l (rw (state_checked s l state_passed) at passes) (rw (when_true _ _ _ state_passed) at hears)

  pub turned_down_line : is_done h.answer ≡ false → Bytes s → Sized line_shape (line_parts h.line) → {m : ℕ} {s' f' said' : List ℕ} → TurnsDown s h f m s' f' said'
      → LineBytes s l f m s' l.picture l.list reply₁ f' said'
  unfolding state_after
  turned_down_line d small sized w =
      let q = heard_as in
      let all = says_left p l q.0 q.1 d in
      let below : (numbers_of h.answer).number < 10 = rw hears.0 (heard_number _) in
      let written = line_written s (eqb-true _ _ state_passed) small (line_unfiled h.line (files_by h.answer h.line.unfiled f).unfiled) sized in
      said_of_bytes s l f state_passed _ all.0 w.number (w.state ∙ written ∙ sym (when_true _ _ _ (lt-ltb _ _ below))) all.1 all.2 all.3 w.faults w.said

  pub carried_out_line : is_done h.answer ≡ true → {m : ℕ} {s' p' l' r' said' : List ℕ} → CarriesOut s h l.picture l.font l.list reply₁ m s' p' l' r' said'
      → LineBytes s l f m s' p' l' r' f said'
  unfolding state_after body_read_of state_with
  carried_out_line d {p' = p'} {l' = l'} {r' = r'} w =
      let e = state_passed in
      let q = heard_as in
      let c = carried p.body h.packet in
      let body : body_read_of s ≡ p.body = when_true _ _ _ e in
      let z : Performed = record { body = c.body; reply = reply_length c.reply reply₁; listed = w.listed } in
      let did : Performs p.body h.packet l.picture l.font l.list reply₁ z p' l' r' = record { body = refl; written = refl; replied = rw body at w.reply; repaints = rw body at w.repaints } in
      let all = says_performed p l q.0 q.1 d did in
      let three = done_number h.answer d in
      let unfiled = none_filed h.answer h.line.unfiled f (done_unfiled h.answer d) in
      said_of_bytes s l f e (said_with h z) all.0 w.number
      ((rw body at w.state) ∙ when_true _ _ _ e ∙ ap (λ (u : ℕ). bytes_of (record { line = line_unfiled h.line u; body = c.body })) unfiled.0 ∙ sym (when_true _ _ _ (rw three)))
      all.1 all.2 all.3 unfiled.1 (rw body at w.said)

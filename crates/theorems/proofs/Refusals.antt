-- What a line call over bytes leaves as it came, by its number.
use Prim.Native.Nat.{ℕ, ◌+◌, ◌≤◌}
use mathlib.Core.Path.{◌≡◌, refl, sym, ◌∙◌, ap}
use mathlib.Core.Bool.{true}
use mathlib.Core.List.{List, []}
use native.Mathlib.Omega.{arith}
use borrow.Author.Tests.{eq-eqb}
use lib.ListN.{length, get_or}
use Rattle.std.specs.Prelude.{is_some}
use Rattle.lists.specs.Runs.{front}
use Rattle.lists.proofs.Laws.{when_true}
use Rattle.packets.specs.Packet.{packet_bytes}
use Rattle.verdict.specs.declared.Reason.{Reason}
use Rattle.packets.specs.declared.Hold.{Hold}
use Rattle.panel.specs.declared.Line.{Line}
use Rattle.panel.specs.declared.Panel.{Panel}
use Rattle.panel.specs.State.{line_holding, line_unfiled}
use Rattle.filing.specs.declared.Refusal.{Refusal}
use Rattle.filing.specs.Filing.{Files, filed, filed_if}
use Rattle.answers.specs.declared.Answer.{Answer}
use Rattle.answers.specs.declared.Answer.TheVariants.{Waiting, Stray, Done, Refused, CallRefused}
use Rattle.answers.specs.declared.Said.{Said}
use Rattle.answers.specs.Answer.{numbers_of, filing_of}
use Rattle.answers.proofs.Checks.{Pass, refused_from_ten}
use Rattle.linecall.specs.Line.{line_list, line_reply}
use Rattle.statebytes.specs.State.{panel_of}
use Rattle.registerbytes.specs.Register.{register_size, records_lent, register_bytes, register_of, register_with}
use Rattle.saidbytes.specs.Says.{number_of}
use Rattle.linebytes.specs.Line.{faults_after}
use Rattle.theorems.specs.Run.{World}
use Rattle.theorems.specs.Library.{Kept, LineOn, StandsFor}
use Rattle.theorems.proofs.Outcomes.{tests_of}
use Rattle.theorems.proofs.Calls as calls
use Rattle.theorems.proofs.Standing as standing

-- the body, the picture and the list as they came
pub record BodyStays (k : Kept) (before : List ℕ) (l : Kept) (after : List ℕ) : Type 0 where
  pub body : (panel_of l.state).body ≡ (panel_of k.state).body
  pub picture : l.picture ≡ k.picture
  pub list : after ≡ before

-- and all of the line's part but the held bytes, the reply buffer and the register too
pub record AllStays (k : Kept) (before sent : List ℕ) (l : Kept) (after replied : List ℕ) : Type 0 where
  pub stays : BodyStays k before l after
  pub line : (panel_of l.state).line ≡ line_holding (panel_of k.state).line (panel_of l.state).line.hold
  pub reply : replied ≡ sent
  pub faults : l.faults ≡ k.faults

-- what the 16 bytes name as the key of a refusal
abbrev pub key_in : List ℕ → Refusal
key_in said = record { command = get_or said 1 0; reason = get_or said 2 0; place = get_or said 3 0 }

abbrev pub filed_as : Kept → List ℕ → Files
filed_as k said = filed (key_in said) (record { register = register_of k.faults; unfiled = (panel_of k.state).line.unfiled })

pub record RefusalFiled (k : Kept) (before sent : List ℕ) (l : Kept) (after replied said : List ℕ) : Type 0 where
  pub stays : BodyStays k before l after
  pub reply : replied ≡ front (packet_bytes (192 + get_or said 1 0) []) sent
  pub length : get_or said 12 0 ≡ 4
  pub line : (panel_of l.state).line ≡ line_unfiled (line_holding (panel_of k.state).line (panel_of l.state).line.hold) (filed_as k said).unfiled
  pub faults : l.faults ≡ register_bytes (filed_as k said).register

module _ {k : Kept} {w : World} (s : StandsFor k w) (font : List ℕ) {piece list out : List ℕ} {n : ℕ} {l : Kept} {list' out' said : List ℕ} (m : LineOn font k piece list out n l list' out' said) where
  abbrev r : Said
  r = standing.r s font m

  abbrev v : World
  v = standing.v s font m

  body_then : r.panel.body ≡ w.panel.body → (panel_of l.state).body ≡ (panel_of k.state).body
  body_then e = ap (λ (p : Panel). p.body) (standing.after_panel s font m) ∙ e ∙ sym (ap (λ (p : Panel). p.body) (standing.same_panel s))

  line_then : (x : Hold) (u : Line → ℕ) → r.panel.line ≡ line_unfiled (line_holding w.panel.line x) (u w.panel.line)
      → (panel_of l.state).line ≡ line_unfiled (line_holding (panel_of k.state).line (panel_of l.state).line.hold) (u (panel_of k.state).line)
  line_then x u e =
      let q : (panel_of l.state).line ≡ line_unfiled (line_holding w.panel.line x) (u w.panel.line) = ap (λ (p : Panel). p.line) (standing.after_panel s font m) ∙ e in
      let o : w.panel.line ≡ (panel_of k.state).line = sym (ap (λ (p : Panel). p.line) (standing.same_panel s)) in
      q ∙ (λ i. line_unfiled (line_holding (o i) (sym (ap (λ (y : Line). y.hold) q) i)) (u (o i)))

  quiet : (a : Answer) → (numbers_of a).number ≤ 2 → r.answer ≡ a
      → (r ≡ calls.quietly w.panel (standing.o s font m) a 0) × calls.Untouched w.panel (standing.o s font m) (records_lent k.faults) r v.picture (line_list w.panel (standing.o s font m)) (line_reply w.panel (standing.o s font m)) v.register (standing.heard s font m).called
      → AllStays k list out l list' out'
  quiet a h e u = record {
    stays = record { body = body_then (ap (λ (x : Said). x.panel.body) u.0); picture = standing.picture_is s font m ∙ u.1.picture ∙ sym s.picture; list = standing.list_is s font m ∙ u.1.list };
    line = line_then _ (λ (x : Line). x.unfiled) (ap (λ (x : Said). x.panel.line) u.0);
    reply = standing.reply_is s font m ∙ u.1.reply;
    faults = standing.faults_is s font m ∙ standing.faults_kept k.faults (standing.t s font m).answer _ (λ z. absurd (omega (arith, ap (λ (x : Answer). (numbers_of x).number) e)));
  }

  -- 1 and 2
  pub quiet_leaves : n ≤ 2 → AllStays k list out l list' out'
  unfolding numbers_of
  quiet_leaves h = go r.answer refl (rw (standing.number_is s font m) at h)
    where
      go : (a : Answer) → r.answer ≡ a → (numbers_of a).number ≤ 2 → AllStays k list out l list' out'
      go Waiting e n = quiet Waiting n e (calls.waiting_changes_only w.panel (standing.o s font m) (records_lent k.faults) r _ _ _ _ (standing.heard s font m).called e)
      go (Stray command) e n = quiet (Stray command) n e (calls.stray_changes_only w.panel (standing.o s font m) (records_lent k.faults) r _ _ _ _ (standing.heard s font m).called command e)
      go (Done command) e n = absurd (omega arith)
      go (Refused command reason place) e n = absurd (omega arith)
      go (CallRefused c) e n = absurd (omega (arith, refused_from_ten c))

  -- 4
  refused_files : (command : ℕ) (reason : Reason) (place : ℕ) → r.answer ≡ Refused command reason place → Pass (tests_of w.panel (standing.o s font m)) → RefusalFiled k list out l list' out' said
  unfolding numbers_of faults_after register_with filed_if
  refused_files command reason place e q =
      let b = standing.said_is s font m in
      let u = calls.refused_changes_only w.panel (standing.o s font m) (records_lent k.faults) r _ _ _ _ (standing.heard s font m).called command reason place e in
      let c : get_or said 1 0 ≡ command = b.command ∙ ap (λ (x : Answer). (numbers_of x).command) e in
      let key : calls.key_of command reason place ≡ key_in said = λ i. record {
        command = sym c i;
        reason = sym (b.reason ∙ ap (λ (x : Answer). (numbers_of x).reason) e) i;
        place = sym (b.place ∙ ap (λ (x : Answer). (numbers_of x).place) e) i;
      } in
      let files : filed (calls.key_of command reason place) (record { register = records_lent k.faults; unfiled = w.panel.line.unfiled }) ≡ filed_as k said =
      λ i. filed (key i) (record { register = standing.register_is s font m q i; unfiled = (sym (standing.same_panel s) i).line.unfiled }) in
      let unfiled : (filed (calls.key_of command reason place) (record { register = records_lent k.faults; unfiled = w.panel.line.unfiled })).unfiled ≡ (filed (key_in said) (record { register = register_of k.faults; unfiled = w.panel.line.unfiled })).unfiled =
      λ i. (filed (key i) (record { register = standing.register_is s font m q i; unfiled = w.panel.line.unfiled })).unfiled in
      let t : is_some (filing_of (standing.t s font m).answer) ≡ true = ap (λ (x : Answer). is_some (filing_of x)) e in
      record {
        stays = record { body = body_then (ap (λ (x : Said). x.panel.body) u.0); picture = standing.picture_is s font m ∙ u.1 ∙ sym s.picture; list = standing.list_is s font m ∙ u.2 };
        reply = standing.reply_is s font m ∙ u.3 ∙ ap (λ (x : ℕ). front (packet_bytes (192 + x) []) out) (sym c);
        length = b.reply ∙ ap (λ (x : Said). x.reply) u.0;
        line = line_then _ (λ (x : Line). (filed (key_in said) (record { register = register_of k.faults; unfiled = x.unfiled })).unfiled) (ap (λ (x : Said). x.panel.line) u.0 ∙ ap (λ (n : ℕ). line_unfiled (calls.heard_line w.panel (standing.o s font m)) n) unfiled);
        faults = standing.faults_is s font m ∙ when_true _ _ _ t ∙ when_true _ _ _ (eq-eqb (length k.faults) register_size (standing.is_register_lem s font m q))
            ∙ ap (λ (x : Files). register_bytes x.register) (standing.same_files s font m q) ∙ ap register_bytes u.4 ∙ ap (λ (x : Files). register_bytes x.register) files;
      }

  pub refused_leaves : n ≡ 4 → RefusalFiled k list out l list' out' said
  unfolding numbers_of
  refused_leaves h = standing.outcome_of s font m (λ c e. absurd (omega (arith, refused_from_ten c, number_is, ap (λ (x : Answer). (numbers_of x).number) e))) (λ _ q. go q r.answer refl (sym number_is ∙ h))
    where
      number_is : n ≡ number_of r
      number_is = standing.number_is s font m

      go : Pass (tests_of w.panel (standing.o s font m)) → (a : Answer) → r.answer ≡ a → (numbers_of a).number ≡ 4 → RefusalFiled k list out l list' out' said
      go q Waiting e n = absurd (omega arith)
      go q (Stray command) e n = absurd (omega arith)
      go q (Done command) e n = absurd (omega arith)
      go q (Refused command reason place) e n = refused_files command reason place e q
      go q (CallRefused c) e n = absurd (omega (arith, refused_from_ten c))

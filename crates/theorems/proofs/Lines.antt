-- A line call keeps a state in its ranges, leaves a panel that fits its bytes, and files what it refuses.
use Prim.Native.Nat.{ℕ, ◌%◌, ◌<◌, ◌≤◌}
use mathlib.Core.Path.{◌≡◌, refl, sym, ◌∙◌, ap}
use mathlib.Core.Bool.{Bool, true, false}
use mathlib.Core.List.{List}
use native.Mathlib.Omega.{arith}
use lib.ListN.{length}
use Rattle.std.specs.Prelude.{Ok}
use Rattle.lists.proofs.Laws.{when_true, when_false}
use Rattle.packets.specs.declared.Packet.{Packet}
use Rattle.packets.specs.Packet.{content_of}
use Rattle.framing.proofs.Theorems as framing
use Rattle.filing.specs.declared.Record.{Record}
use Rattle.filing.specs.Filing.{filed_if}
use Rattle.verdict.specs.Verdict.{verdict_of}
use Rattle.panel.specs.declared.Body.{Body}
use Rattle.panel.specs.declared.Line.{Line}
use Rattle.panel.specs.declared.Panel.{Panel}
use Rattle.panel.specs.State.{line_holding}
use Rattle.ranges.specs.Ranges.{in_ranges}
use Rattle.ranges.proofs.InRange.{panel_parts_lem, panel_whole}
use Rattle.answers.specs.declared.Answer.{Answer}
use Rattle.answers.specs.declared.Said.{Said}
use Rattle.answers.specs.Answer.{is_done, filing_of}
use Rattle.listen.specs.declared.Heard.{Heard}
use Rattle.listen.specs.Listen.{answer_in}
use Rattle.perform.specs.Commands.{carried}
use Rattle.linecall.specs.Line.{Lent, line_heard, body_after, line_said, files_after, LineCall}
use Rattle.theorems.proofs.Effects.{BodyInRange, body_in_range, effect_stays_in_range}
use Rattle.theorems.proofs.Outcomes.{scan_of, scan_packet, Outcome, turned_away, waits, finds, strays, does, refuses, outcome}

-- the body after a call: what holds of it as it came, and after a command that is carried out, holds of it
module _ (p : Panel) (l : Lent) (P : Body → Type 0) (same : P p.body)
    (done : let k = scan_packet p l in k.kind < 64 → verdict_of k.kind (content_of k) ≡ Ok tt → P (carried p.body k).body) where
  pub after_body : P (body_after p l)
  unfolding is_done answer_in
  after_body = go (outcome p l)
    where
      stays : {b : Bool} → is_done (line_heard p l).answer ≡ b → b ≡ false → P (body_after p l)
      stays e f = rw (when_false (is_done (line_heard p l).answer) (carried p.body (line_heard p l).packet).body p.body (e ∙ f)) same

      go : {a : Answer} → Outcome p l a → P (body_after p l)
      go (turned_away f h g) = stays (ap (λ (x : Heard). is_done x.answer) h) refl
      go (waits q h g f) = stays (ap (λ (x : Heard). is_done x.answer) h ∙ ap is_done (ap answer_in f)) refl
      go (finds q h g f b (strays k)) = stays (ap (λ (x : Heard). is_done x.answer) h ∙ ap is_done (ap answer_in f ∙ sym b)) refl
      go (finds q h g f b (refuses k v)) = stays (ap (λ (x : Heard). is_done x.answer) h ∙ ap is_done (ap answer_in f ∙ sym b)) refl
      go (finds q h g f b (does k v)) =
          let e : is_done (line_heard p l).answer ≡ true = ap (λ (x : Heard). is_done x.answer) h ∙ ap is_done (ap answer_in f ∙ sym b) in
          let c : body_after p l ≡ (carried p.body (scan_packet p l)).body =
          when_true (is_done (line_heard p l).answer) (carried p.body (line_heard p l).packet).body p.body e ∙ ap (λ (x : Heard). (carried p.body x.packet).body) h in
          rw c (done k v)

-- the line's part after a call: as it came, or the held bytes that the scan left
pub heard_line : (p : Panel) (l : Lent) (P : Line → Type 0) → P p.line → P (line_holding p.line (scan_of p l).hold) → P (line_heard p l).line
heard_line p l P same new = go (outcome p l)
  where
    go : {a : Answer} → Outcome p l a → P (line_heard p l).line
    go (turned_away f h g) = rw h same
    go (waits q h g f) = rw h new
    go (finds q h g f b k) = rw h new

carried_in_range : (b : Body) (k : Packet) → k.kind < 64 → verdict_of k.kind (content_of k) ≡ Ok tt → BodyInRange b → BodyInRange (carried b k).body
unfolding carried
carried_in_range b k h v i = let e : k.kind % 64 ≡ k.kind = omega arith in rw e (effect_stays_in_range k.kind (content_of k) v b i)

module _ (p : Panel) (l : Lent) where
  -- the unfiled number is the register's to change
  pub heard_unfiled : (line_heard p l).line.unfiled ≡ p.line.unfiled
  heard_unfiled = heard_line p l (λ (x : Line). x.unfiled ≡ p.line.unfiled) refl refl

  module _ (register : List Record) (r : Said) (picture' list' reply' : List ℕ) (register' : List Record) (called : LineCall p l register r picture' list' reply' register') where
    -- A line call takes a state in its ranges to one in its ranges: the hold's array has 25 bytes, whatever its count says.
    pub line_stays_in_range : in_ranges p ≡ true → length p.line.hold.bytes ≤ 25 → in_ranges r.panel ≡ true
    line_stays_in_range e n =
        let h = panel_parts_lem p e in
        let k = framing.held_at_most_25 p.line.hold l.piece (scan_of p l) refl n in
        let b = after_body p l BodyInRange (body_in_range p e) (λ u v. carried_in_range p.body (scan_packet p l) u v (body_in_range p e)) in
        let c : (line_heard p l).line.hold.count ≤ 25 = heard_line p l (λ (x : Line). x.hold.count ≤ 25) h.count k in
        rw called.0 (panel_whole _ record { count = c; live = b.live; boot = b.boot; keys = b.keys; pins = b.pins; sets = b.sets })

    -- the register and the unfiled number after the call
    pub line_files : record { register = register'; unfiled = r.panel.line.unfiled }
        ≡ filed_if (filing_of r.answer) (record { register = register; unfiled = p.line.unfiled })
    line_files =
        let s = line_said p l in
        let a : r.answer ≡ s.answer = ap (λ (x : Said). x.answer) called.0 in
        let u : r.panel.line.unfiled ≡ (files_after s register).unfiled = ap (λ (x : Said). x.panel.line.unfiled) called.0 in
        (λ i. record { register = called.4 i; unfiled = u i })
        ∙ ap (λ (x : ℕ). filed_if (filing_of s.answer) (record { register = register; unfiled = x })) heard_unfiled
        ∙ ap (λ (x : Answer). filed_if (filing_of x) (record { register = register; unfiled = p.line.unfiled })) (sym a)

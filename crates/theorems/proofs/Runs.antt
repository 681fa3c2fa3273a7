-- What each call keeps: the picture drawn afresh, the state in its ranges, the sum of what is filed.
use Prim.Native.Nat.{ℕ, ◌+◌, ◌<◌, ◌≤◌}
use mathlib.Core.Path.{◌≡◌, refl, sym, ◌∙◌, ap, subst}
use mathlib.Core.Bool.{true}
use mathlib.Core.List.{List, ◌∷◌}
use native.Mathlib.Omega.{arith}
use lib.ListN.{length, take, replicate, length-take}
use Rattle.std.specs.Prelude.{Option, Some, None, is_some}
use Rattle.lists.specs.Tests.{when◌then◌else◌}
use Rattle.lists.proofs.Laws.{length_front}
use Rattle.packets.specs.Hold.{held}
use Rattle.framing.specs.Scan.{scan, scanned_of}
use Rattle.framing.proofs.Bounds.{at_most_25}
use Rattle.panel.specs.declared.Line.{Line}
use Rattle.panel.specs.declared.Settings.{Settings}
use Rattle.panel.specs.declared.Body.{Body}
use Rattle.panel.specs.declared.Panel.{Panel}
use Rattle.panel.specs.State.{powered_on}
use Rattle.ranges.specs.Ranges.{in_ranges}
use Rattle.filing.specs.declared.Record.{Record}
use Rattle.filing.specs.declared.Refusal.{Refusal}
use Rattle.filing.specs.Filing.{Files, most, filed_if, total}
use Rattle.filing.proofs.Theorems.{one_more}
use Rattle.picture.specs.Draw.{screen_of, drawn}
use Rattle.picture.specs.Repaint.{painted}
use Rattle.picture.proofs.Changes.{repainted}
use Rattle.answers.specs.declared.Check.{Check}
use Rattle.answers.specs.declared.Said.{Said}
use Rattle.answers.specs.Answer.{numbers_of, filing_of, refused_call, accepted_call, with_unfiled}
use Rattle.answers.proofs.Checks.{refused_by, accepted_by, either_way, call_passed, call_refused, call_unchanged}
use Rattle.perform.specs.Perform.{shown_by}
use Rattle.power.specs.Power.{power_tests, PowersOn}
use Rattle.linecall.specs.Line.{Lent, lent, line_heard, body_after, line_said, line_picture, line_list, line_reply, files_after}
use Rattle.theorems.specs.Other.{Other, Answers}
use Rattle.theorems.specs.Run.{Call, line, other, World, with_panel, with_register, files_of, refused_in, Hears, Makes, hears, answers, lent_back, Runs, done, more, Afresh}
use Rattle.theorems.proofs.Others as others
use Rattle.theorems.proofs.Lines.{heard_line, line_stays_in_range, line_files}

-- power-on, accepted or refused, comes to the power-on state
module _ (picture font : List ℕ) (r : Said) (picture' : List ℕ) (on : PowersOn picture font r picture') where
  pub power_panel : r.panel ≡ powered_on
  power_panel =
      either_way (power_tests (length picture) (length font)) (λ c f. ap (λ (s : Said). s.panel) (on.0 ∙ refused_by f _ _))
      (λ q. ap (λ (s : Said). s.panel) (on.0 ∙ accepted_by _ q _ _))

  pub power_draws : (numbers_of r.answer).number < 10 → picture' ≡ drawn (shown_by r.panel.body) font
  power_draws a =
      let q = call_passed powered_on (power_tests (length picture) (length font)) (accepted_call powered_on 0) r on.0 a in
      on.1 ∙ accepted_by _ q _ _ ∙ sym (ap (λ (p : Panel). drawn (shown_by p.body) font) power_panel)

  pub power_refused : 10 ≤ (numbers_of r.answer).number → (c : Check) × ((r ≡ refused_call powered_on c) × (picture' ≡ picture))
  unfolding numbers_of
  power_refused h =
      let f = call_refused powered_on (power_tests (length picture) (length font)) (accepted_call powered_on 0) r on.0 (omega arith) h in
      (f.0, (call_unchanged powered_on _ _ r on.0 f.1, on.1 ∙ refused_by f.1 _ _))

-- the bytes of the hold's array that a call leaves
hold_short : (p : Panel) (l : Lent) → length p.line.hold.bytes ≤ 25 → length (line_heard p l).line.hold.bytes ≤ 25
unfolding scanned_of
hold_short p l n =
    heard_line p l (λ (x : Line). length x.hold.bytes ≤ 25) n
    (let k = at_most_25 (held p.line.hold) (take 65535 l.piece) (omega (arith, length-take p.line.hold.count p.line.hold.bytes)) in
    omega (arith, length_front (scan (held p.line.hold) (take 65535 l.piece)).hold (replicate 25 0) k))

-- a state in its ranges whose hold has no more bytes than its array
pub record InOrder (p : Panel) : Type 0 where
  pub ranges : in_ranges p ≡ true
  pub bytes : length p.line.hold.bytes ≤ 25

module _ {font : List ℕ} {w : World} {piece list out : List ℕ} {r : Said} {list' out' : List ℕ} {v : World} (h : Hears font w piece list out r list' out' v) where
  abbrev l : Lent
  l = lent piece w.picture font list out (length w.register)

  pub hears_in_order : InOrder w.panel → InOrder v.panel
  hears_in_order o =
      rw h.panel
      record {
        ranges = line_stays_in_range w.panel l w.register r v.picture list' out' v.register h.called o.ranges o.bytes;
        bytes = rw h.called.0 (hold_short w.panel l o.bytes);
      }

  -- a line call keeps the picture drawn afresh, accepted or refused
  pub hears_afresh : Afresh font w → Afresh font v
  hears_afresh e =
      let b : body_after w.panel l ≡ v.panel.body = sym (ap (λ (p : Panel). p.body) h.panel ∙ ap (λ (s : Said). s.panel.body) h.called.0) in
      h.called.1 ∙ ap (painted (shown_by w.panel.body) (shown_by (body_after w.panel l)) font) e ∙ repainted (shown_by w.panel.body) (shown_by (body_after w.panel l)) font
      ∙ ap (λ (x : Body). drawn (shown_by x) font) b

  pub hears_files : files_of v ≡ filed_if (filing_of r.answer) (files_of w)
  hears_files = rw h.panel (line_files w.panel l w.register r v.picture list' out' v.register h.called)

module _ {c : Other} {p : Panel} {out : List ℕ} {r : Said} {out' : List ℕ} (m : Answers c p out r out') where
  pub answers_in_order : InOrder p → InOrder r.panel
  answers_in_order o = record { ranges = others.stays_in_range m o.ranges; bytes = rw (others.line_kept m) o.bytes }

  pub answers_afresh : (font picture : List ℕ) → picture ≡ drawn (shown_by p.body) font → picture ≡ drawn (shown_by r.panel.body) font
  answers_afresh font picture e = e ∙ sym (ap (λ (s : Settings). drawn (screen_of s.shown) font) (others.live_kept m))

-- over a sequence of calls, whichever registers are lent
module _ {font : List ℕ} {Lends : World → List Record → Type 0} where
  pub still_afresh : {cs : List Call} {w v : World} {n : ℕ} → Runs font Lends cs w v n → Afresh font w → Afresh font v
  still_afresh done e = e
  still_afresh (more k (hears h) r) e = still_afresh r (hears_afresh h e)
  still_afresh (more k (answers m) r) e = still_afresh r (answers_afresh m font _ e)

  pub still_in_order : {cs : List Call} {w v : World} {n : ℕ} → Runs font Lends cs w v n → InOrder w.panel → InOrder v.panel
  still_in_order done o = o
  still_in_order (more k (hears h) r) o = still_in_order r (hears_in_order h o)
  still_in_order (more k (answers m) r) o = still_in_order r (answers_in_order m o)

-- one call adds to the total what it refuses
filed_if_lem : (k : Option Refusal) (f : Files) → total f + (when is_some k then 1 else 0) ≤ most → total (filed_if k f) ≡ total f + (when is_some k then 1 else 0)
unfolding filed_if when◌then◌else◌
filed_if_lem None f h = omega arith
filed_if_lem (Some k) f h = one_more k f (omega arith)

module _ (font : List ℕ) where
  one_call : {c : Call} {w : World} {r : Said} {v : World} → Makes font c w r v → total (files_of w) + refused_in r ≤ most → total (files_of v) ≡ total (files_of w) + refused_in r
  unfolding refused_in
  one_call {w = w} {r = r} (hears h) n = ap total (hears_files h) ∙ filed_if_lem (filing_of r.answer) (files_of w) n
  one_call {w = w} {r = r} (answers m) n = rw (others.line_kept m) (omega (arith, others.none_refused m))

  pub adds_up : {cs : List Call} {w v : World} {n : ℕ} → Runs font lent_back cs w v n → total (files_of w) + n ≤ most → total (files_of v) ≡ total (files_of w) + n
  adds_up done h = omega arith
  adds_up (more {u = u} {v = v} {register = register} {r = r} k m runs) h =
      let same : files_of (with_register u register) ≡ files_of u = ap (λ (x : List Record). record { register = x; unfiled = u.panel.line.unfiled }) k in
      let f = ap total same in
      let e = one_call m (omega arith) in
      omega (arith, adds_up runs (omega arith))

-- a line call: what is lent to it, what it says, and the world after it
module _ (font : List ℕ) (w : World) (piece list out : List ℕ) where
  abbrev pub lent_to : Lent
  lent_to = lent piece w.picture font list out (length w.register)

  abbrev files : Files
  files = files_after (line_said w.panel lent_to) w.register

  abbrev pub said_then : Said
  said_then = with_unfiled (line_said w.panel lent_to) files.unfiled

  abbrev pub world_then : World
  world_then = record { panel = said_then.panel; picture = line_picture w.panel lent_to; register = files.register }

  pub hears_then : Hears font w piece list out said_then (line_list w.panel lent_to) (line_reply w.panel lent_to) world_then
  hears_then = record { called = (refl, refl, refl, refl, refl); panel = refl }

-- each call can be made
pub makes : (font : List ℕ) (c : Call) (w : World) → (r : Said) × ((v : World) × Makes font c w r v)
makes font (line piece list out) w = (said_then font w piece list out, (world_then font w piece list out, hears (hears_then font w piece list out)))
makes font (other c out) w = (others.said_by c w.panel out, (with_panel w (others.said_by c w.panel out).panel, answers (others.from_row c w.panel out)))

-- a call before a sequence that comes to a world of a kind, with its refusals told by a number
pub and_more : {font : List ℕ} {Lends : World → List Record → Type 0} {c : Call} {cs : List Call} {u v : World} {register : List Record} {r : Said} {n m : ℕ} (P : World → Type 0)
    → n ≡ refused_in r → Lends u register → Makes font c (with_register u register) r v → (w : World) × Runs font Lends cs v w m × P w → (w : World) × Runs font Lends (c ∷ cs) u w (n + m) × P w
and_more {font} {Lends} {c} {cs} {u} {m = m} P e k made b = (b.0, subst (λ (x : ℕ). Runs font Lends (c ∷ cs) u b.0 (x + m)) (sym e) (more k made b.1), b.2)

-- Each call leaves a panel that can be written as bytes and read again: its arrays keep their sizes, its numbers stay small.
use Prim.Native.Nat.{ℕ, ◌<◌, ◌≤◌}
use mathlib.Core.Path.{◌≡◌, refl, ◌∙◌, ap}
use mathlib.Core.List.{List}
use native.Mathlib.Omega.{arith}
use lib.ListN.{length, take, replicate, length-set, length-map, length-take}
use Rattle.std.specs.Prelude.{Option, Some, None}
use Rattle.lists.specs.Tests.{◌=?◌}
use Rattle.lists.proofs.Laws.{when_either, length-pasted, length_front}
use Rattle.packets.specs.Hold.{held}
use Rattle.glyphs.specs.Glyphs.{flat_of}
use Rattle.glyphs.proofs.Flat.{length_flat}
use Rattle.framing.specs.Scan.{scan, scanned_of}
use Rattle.framing.proofs.Bounds.{at_most_25}
use Rattle.filing.specs.declared.Record.{Record}
use Rattle.filing.specs.declared.Filed.{Filed}
use Rattle.filing.specs.declared.Refusal.{Refusal}
use Rattle.filing.specs.Filing.{Files, filed_in, filed_at, filed, filed_if}
use Rattle.panel.specs.declared.Settings.{Settings}
use Rattle.panel.specs.declared.Body.{Body}
use Rattle.panel.specs.declared.Line.{Line}
use Rattle.panel.specs.declared.Panel.{Panel}
use Rattle.panel.specs.State.{with_text, line_holding}
use Rattle.sets.specs.Sets.{mark_of}
use Rattle.answers.specs.declared.Said.{Said}
use Rattle.answers.specs.Answer.{filing_of, refused_call}
use Rattle.answers.proofs.Checks.{refused_by, accepted_by, either_way}
use Rattle.effects.specs.Effects.{with_shown, cleared, text_written, live_after, effect}
use Rattle.perform.specs.Commands.{carried}
use Rattle.linecall.specs.Line.{Lent, line_heard, LineCall}
use Rattle.shapes.specs.Shape.{Fits}
use Rattle.statebytes.specs.Layout.{line_shape, line_parts, settings_shape, settings_parts, body_shape, body_parts}
use Rattle.statebytes.specs.State.{PanelFits}
use Rattle.statebytes.proofs.Theorems.{holding_fits, unfiled_fits, with_unfiled_fits}
use Rattle.theorems.specs.Other.{Other, Answers}
use Rattle.theorems.proofs.Rows.{live_rows, effect_rows}
use Rattle.theorems.proofs.Others.{tests, accepted, by_row, row_fits}
use Rattle.theorems.proofs.Outcomes.{scan_of}
use Rattle.theorems.proofs.Lines.{after_body, heard_line, line_files}

-- the settings after each command
module _ (code : ℕ) (d : List ℕ) where
  live_fits : (s : Settings) → Fits settings_shape (settings_parts s) → Fits settings_shape (settings_parts (live_after code d s))
  unfolding flat_of
  live_fits s h =
      live_rows code d (λ (x : Settings). Fits settings_shape (settings_parts x)) s
      (λ _. ((h.0.0, length_flat 8 _), h.1))
      (λ _. h)
      (λ _. h)
      (λ _. h)
      (λ _. h)
      (λ _. h)
      (λ _.
      let w = h.1.1.1.1 in
      (h.0, (h.1.0, (h.1.1.0, (h.1.1.1.0, (length-set s.wires.levels _ _ ∙ w.0, when_either (λ (l : List ℕ). length l ≡ 5) (length d =? 3) _ _ (λ _. length-set s.wires.configs _ _ ∙ w.1) (λ _. w.1)))))))
      h

  -- another text has as many codes, and so many bytes of sets
  text_fits : (b : Body) (s : Settings) → Fits settings_shape (settings_parts s) → Fits body_shape (body_parts b) → Fits body_shape (body_parts (with_text b s))
  text_fits b s l h = (l, (h.1.0, (h.1.1.0, (h.1.1.1.0, (h.1.1.1.1.0, length-map s.shown.text mark_of ∙ l.0.0)))))

  effect_fits : (b : Body) → Fits body_shape (body_parts b) → Fits body_shape (body_parts (effect code d b))
  effect_fits b h =
      effect_rows code d (λ (x : Body). Fits body_shape (body_parts x)) b
      (h.0, (h.1.0, (h.1.1.0, (h.1.1.1.0, (length-pasted b.flash 0 d ∙ h.1.1.1.1.0, h.1.1.1.1.1)))))
      (h.0, (h.0, h.1.1))
      (text_fits b b.boot h.1.0 h)
      (text_fits b (cleared b.live) ((refl, h.0.0.1), h.0.1) h)
      h
      (text_fits b (with_shown b.live (text_written b.live.shown d)) ((length-pasted b.live.shown.text _ _ ∙ h.0.0.0, h.0.0.1), h.0.1) h)
      h
      (live_fits b.live h.0, h.1)

-- what is held after a call has at most 25 bytes
held_fits : (p : Panel) (l : Lent) → Fits line_shape (line_parts p.line) → Fits line_shape (line_parts (line_holding p.line (scan_of p l).hold))
unfolding scanned_of
held_fits p l h =
    let k = (scan (held p.line.hold) (take 65535 l.piece)).hold in
    let n : length k ≤ 25 = at_most_25 (held p.line.hold) (take 65535 l.piece) (omega (arith, h.1.0, length-take p.line.hold.count p.line.hold.bytes)) in
    holding_fits p.line (scan_of p l).hold h (omega arith) (length_front k (replicate 25 0) n)

-- the unfiled number stops at the largest of 32 bits
filed_fits : (k : Option Refusal) (f : Files) → f.unfiled < 4294967296 → (filed_if k f).unfiled < 4294967296
unfolding filed_if filed filed_at filed_in
filed_fits None f u = u
filed_fits (Some k) f u =
    when_either Small _ _ _ (λ _. when_either (λ (q : Filed). q.unfiled < 4294967296) _ _ _ (λ _. u) (λ _. omega arith)) (λ _. omega arith)
  where
    Small : Files → Type 0
    Small g = g.unfiled < 4294967296

pub line_fits : (p : Panel) (l : Lent) (register : List Record) (r : Said) (picture' list' reply' : List ℕ) (register' : List Record) → LineCall p l register r picture' list' reply' register'
    → PanelFits p → PanelFits r.panel
unfolding carried
line_fits p l register r picture' list' reply' register' called h =
    let b = after_body p l (λ (x : Body). Fits body_shape (body_parts x)) h.1 (λ u v. effect_fits _ _ p.body h.1) in
    let k = heard_line p l (λ (x : Line). Fits line_shape (line_parts x)) h.0 (held_fits p l h.0) in
    let f = line_files p l register r picture' list' reply' register' called in
    let e : r.panel.line.unfiled ≡ (filed_if (filing_of r.answer) (record { register = register; unfiled = p.line.unfiled })).unfiled = ap (λ (x : Files). x.unfiled) f in
    let u : r.panel.line.unfiled < 4294967296 =
    rw e (filed_fits (filing_of r.answer) (record { register = register; unfiled = p.line.unfiled }) (unfiled_fits p.line h.0)) in
    let v = rw called.0 at u in
    rw called.0 (with_unfiled_fits (line_heard p l).line _ k v, b)

pub other_fits : {c : Other} {p : Panel} {out : List ℕ} {r : Said} {out' : List ℕ} → Answers c p out r out' → PanelFits p → PanelFits r.panel
other_fits {c} {p} {out} m h =
    either_way (tests c p out) (λ d f. rw ((by_row m).0 ∙ refused_by f (refused_call p) (accepted c p)) h)
    (λ q. rw ((by_row m).0 ∙ accepted_by (tests c p out) q (refused_call p) (accepted c p)) (row_fits c p h))

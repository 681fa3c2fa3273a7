-- What an allowed command leaves is in its ranges.
use Prim.Native.Nat.{ℕ, ◌<◌, ◌≤◌}
use mathlib.Core.Path.{◌≡◌, refl}
use mathlib.Core.Bool.{true, and-eq-true_iff}
use mathlib.Core.List.{List}
use native.Mathlib.Omega.{arith}
use lib.ListN.{length, get_or}
use borrow.Author.Tests.{eqb-true}
use Rattle.std.specs.Prelude.{Ok}
use Rattle.lists.specs.Tests.{when◌then◌else◌, ◌≤?◌, ◌=?◌, all_at_most}
use Rattle.lists.proofs.Laws.{when_either}
use Rattle.glyphs.specs.Glyphs.{eight_from}
use Rattle.glyphs.proofs.Every.{Every, Passes, glyph_set_passes, all_set}
use Rattle.bits.proofs.Laws.{without_bit_at_most}
use Rattle.table.specs.Table.{look_up, config_allowed}
use Rattle.table.specs.declared.Rule.TheVariants.{UpTo, Glyph, Place, Pin}
use Rattle.verdict.specs.Verdict.{in_range, verdict_of}
use Rattle.panel.specs.declared.Shown.{Shown}
use Rattle.panel.specs.declared.Cursor.{Cursor}
use Rattle.panel.specs.declared.Dials.{Dials}
use Rattle.panel.specs.declared.Masks.{Masks}
use Rattle.panel.specs.declared.Wires.{Wires}
use Rattle.panel.specs.declared.Settings.{Settings}
use Rattle.panel.specs.declared.Keys.{Keys}
use Rattle.panel.specs.declared.Pins.{Pins}
use Rattle.panel.specs.declared.Body.{Body}
use Rattle.panel.specs.declared.Panel.{Panel}
use Rattle.panel.specs.State.{with_style, with_contrast, with_backlight}
use Rattle.ranges.specs.Ranges.{configs_in_range, cursor_in_range, dials_in_range, masks_in_range, settings_in_range, keys_in_range, pins_in_range, sets_in_range, in_ranges}
use Rattle.sets.proofs.Laws.{search_is}
use Rattle.ranges.proofs.InRange.{kept, SettingsParts, settings_parts_lem, settings_whole, keys_parts_lem, keys_whole, pins_parts_lem, pins_whole, panel_parts_lem}
use Rattle.effects.specs.Effects.{polled, with_shown, with_cursor, with_dials, with_masks, with_wires, cleared, glyph_set, cursor_at, masks_given, text_written, pin_set, pin_read, live_after, effect}
use Rattle.theorems.proofs.Allowed.{Sound, allowed}
use Rattle.theorems.proofs.Rows.{live_rows, effect_rows}

-- a body whose values are in their ranges
pub record BodyInRange (b : Body) : Type 0 where
  pub live : settings_in_range b.live ≡ true
  pub boot : settings_in_range b.boot ≡ true
  pub keys : keys_in_range b.keys ≡ true
  pub pins : pins_in_range b.pins ≡ true
  pub sets : sets_in_range b ≡ true

pub body_in_range : (p : Panel) → in_ranges p ≡ true → BodyInRange p.body
body_in_range p e = let h = panel_parts_lem p e in record { live = h.live; boot = h.boot; keys = h.keys; pins = h.pins; sets = h.sets }

polled_in_range : (k : Keys) → keys_in_range k ≡ true → keys_in_range (polled k) ≡ true
polled_in_range k e = keys_whole _ record { down = (keys_parts_lem k e).down; pressed = omega arith; released = omega arith }

-- clearing edges, all or one pin's
edges_cleared : (p : Pins) → pins_in_range p ≡ true → pins_in_range (record { last = p.last; fell = 0; rose = 0 }) ≡ true
edges_cleared p e = pins_whole _ record { last = (pins_parts_lem p e).last; fell = omega arith; rose = omega arith }

pin_read_in_range : (p : Pins) (d : List ℕ) → pins_in_range p ≡ true → pins_in_range (pin_read p d) ≡ true
pin_read_in_range p d e =
    let h = pins_parts_lem p e in
    pins_whole _ record { last = h.last; fell = omega (arith, h.fell, without_bit_at_most p.fell (get_or d 0 0)); rose = omega (arith, h.rose, without_bit_at_most p.rose (get_or d 0 0)) }

module _ (s : Settings) (e : settings_in_range s ≡ true) where
  parts : SettingsParts s
  parts = settings_parts_lem s e

  with_shown_lem : (x : Shown) → all_at_most 63 x.glyphs ≡ true → settings_in_range (with_shown s x) ≡ true
  with_shown_lem x h = let p = parts in settings_whole (with_shown s x) record { glyphs = h; cursor = p.cursor; dials = p.dials; masks = p.masks; levels = p.levels; configs = p.configs }

  with_cursor_lem : (x : Cursor) → cursor_in_range x ≡ true → settings_in_range (with_cursor s x) ≡ true
  with_cursor_lem x h = let p = parts in settings_whole (with_cursor s x) record { glyphs = p.glyphs; cursor = h; dials = p.dials; masks = p.masks; levels = p.levels; configs = p.configs }

  with_dials_lem : (x : Dials) → dials_in_range x ≡ true → settings_in_range (with_dials s x) ≡ true
  with_dials_lem x h = let p = parts in settings_whole (with_dials s x) record { glyphs = p.glyphs; cursor = p.cursor; dials = h; masks = p.masks; levels = p.levels; configs = p.configs }

  with_masks_lem : (x : Masks) → masks_in_range x ≡ true → settings_in_range (with_masks s x) ≡ true
  with_masks_lem x h = let p = parts in settings_whole (with_masks s x) record { glyphs = p.glyphs; cursor = p.cursor; dials = p.dials; masks = h; levels = p.levels; configs = p.configs }

  with_wires_lem : (x : Wires) → all_at_most 100 x.levels ≡ true → configs_in_range x.configs ≡ true → settings_in_range (with_wires s x) ≡ true
  with_wires_lem x h g = let p = parts in settings_whole (with_wires s x) record { glyphs = p.glyphs; cursor = p.cursor; dials = p.dials; masks = p.masks; levels = h; configs = g }

  cleared_in_range : settings_in_range (cleared s) ≡ true
  unfolding cursor_in_range
  cleared_in_range = let p = parts in settings_whole (cleared s) record { glyphs = p.glyphs; cursor = refl; dials = p.dials; masks = p.masks; levels = p.levels; configs = p.configs }

  -- the settings after each command that changes them, by its row of the table
  module _ (d : List ℕ) where
    glyph_in_range : Sound 9 Glyph d → settings_in_range (with_shown s (glyph_set s.shown d)) ≡ true
    unfolding when◌then◌else◌ in_range
    glyph_in_range h =
        let n : 9 ≤ length d = h.enough in
        let row : (i : ℕ) → i < 9 → in_range Glyph d i ≡ true = λ i l. h.each i (omega arith) in
        let rows : Every (Passes (λ x. x ≤? 63)) (eight_from d 1) = (
          row 1 (omega arith),
          (row 2 (omega arith), (row 3 (omega arith), (row 4 (omega arith), (row 5 (omega arith), (row 6 (omega arith), (row 7 (omega arith), (row 8 (omega arith), tt))))))),
        ) in
        with_shown_lem (glyph_set s.shown d) (glyph_set_passes (λ x. x ≤? 63) refl s.shown.glyphs (get_or d 0 0) (eight_from d 1) parts.glyphs rows)

    cursor_in_range_lem : Sound 2 Place d → settings_in_range (with_cursor s (cursor_at d)) ≡ true
    unfolding when◌then◌else◌ in_range cursor_in_range
    cursor_in_range_lem h =
        let n : 2 ≤ length d = h.enough in
        with_cursor_lem _ (rw (h.each 0 (omega arith), h.each 1 (omega arith)))

    style_in_range : Sound 1 (UpTo 4) d → settings_in_range (with_dials s (with_style s.dials (get_or d 0 0))) ≡ true
    unfolding when◌then◌else◌ in_range dials_in_range
    style_in_range h =
        let n : 1 ≤ length d = h.enough in
        with_dials_lem _ (rw (h.each 0 (omega arith)) (kept true _ 0 parts.dials))

    contrast_in_range : Sound 1 (UpTo 254) d → settings_in_range (with_dials s (with_contrast s.dials (get_or d 0 0))) ≡ true
    unfolding when◌then◌else◌ in_range dials_in_range
    contrast_in_range h =
        let n : 1 ≤ length d = h.enough in
        with_dials_lem _ (rw (h.each 0 (omega arith)) (kept true _ 1 parts.dials))

    backlight_in_range : Sound 1 (UpTo 100) d → settings_in_range (with_dials s (with_backlight s.dials (get_or d 0 0))) ≡ true
    unfolding when◌then◌else◌ in_range dials_in_range
    backlight_in_range h =
        let n : 1 ≤ length d = h.enough in
        with_dials_lem _ (rw (h.each 0 (omega arith)) (kept true _ 2 parts.dials))

    masks_in_range_lem : Sound 2 (UpTo 63) d → settings_in_range (with_masks s (masks_given d)) ≡ true
    unfolding when◌then◌else◌ in_range masks_in_range
    masks_in_range_lem h =
        let n : 2 ≤ length d = h.enough in
        with_masks_lem _ (rw (h.each 0 (omega arith), h.each 1 (omega arith)))

    pin_in_range : Sound 2 Pin d → settings_in_range (with_wires s (pin_set s.wires d)) ≡ true
    unfolding when◌then◌else◌ in_range
    pin_in_range h =
        let n : 2 ≤ length d = h.enough in
        with_wires_lem _ (all_set (λ x. x ≤? 100) s.wires.levels (get_or d 0 0) (get_or d 1 0) (h.each 1 (omega arith)) parts.levels)
        (when_either (λ (l : List ℕ). configs_in_range l ≡ true) (length d =? 3) _ _
        (λ q. let l : length d ≡ 3 = eqb-true _ _ q in all_set config_allowed s.wires.configs (get_or d 0 0) (get_or d 2 0) ((and-eq-true_iff (get_or d 0 0 ≤? 4) _).0 (h.each 2 (omega arith))).1 parts.configs)
        (λ _. parts.configs))

-- each command's row
module _ (code : ℕ) (d : List ℕ) (v : verdict_of code d ≡ Ok tt) where
  live_in_range : (s : Settings) → settings_in_range s ≡ true → settings_in_range (live_after code d s) ≡ true
  unfolding look_up when◌then◌else◌
  live_in_range s h =
      live_rows code d (λ (x : Settings). settings_in_range x ≡ true) s
      (λ e. glyph_in_range s h d (allowed code d v 9 e _ refl))
      (λ e. cursor_in_range_lem s h d (allowed code d v 11 e _ refl))
      (λ e. style_in_range s h d (allowed code d v 12 e _ refl))
      (λ e. contrast_in_range s h d (allowed code d v 13 e _ refl))
      (λ e. backlight_in_range s h d (allowed code d v 14 e _ refl))
      (λ e. masks_in_range_lem s h d (allowed code d v 23 e _ refl))
      (λ e. pin_in_range s h d (allowed code d v 34 e _ refl))
      h

  -- no text is changed by the commands that leave the sets as they are
  live_text : (s : Settings) → (live_after code d s).shown.text ≡ s.shown.text
  live_text s = live_rows code d (λ (x : Settings). x.shown.text ≡ s.shown.text) s (λ _. refl) (λ _. refl) (λ _. refl) (λ _. refl) (λ _. refl) (λ _. refl) (λ _. refl) refl

  -- A command that the verdict allows takes a body in its ranges to such a body; the sets of another text are those that are searched for.
  pub effect_stays_in_range : (b : Body) → BodyInRange b → BodyInRange (effect code d b)
  effect_stays_in_range b h =
      let polls = polled_in_range b.keys h.keys in
      effect_rows code d BodyInRange b
      record { live = h.live; boot = h.boot; keys = h.keys; pins = h.pins; sets = h.sets }
      record { live = h.live; boot = h.live; keys = h.keys; pins = h.pins; sets = h.sets }
      record { live = h.boot; boot = h.boot; keys = polls; pins = edges_cleared b.pins h.pins; sets = search_is b.boot.shown.text }
      record { live = cleared_in_range b.live h.live; boot = h.boot; keys = h.keys; pins = h.pins; sets = search_is (cleared b.live).shown.text }
      record { live = h.live; boot = h.boot; keys = polls; pins = h.pins; sets = h.sets }
      record {
        live = with_shown_lem b.live h.live (text_written b.live.shown d) (settings_parts_lem b.live h.live).glyphs;
        boot = h.boot;
        keys = h.keys;
        pins = h.pins;
        sets = search_is (text_written b.live.shown d).text;
      }
      record { live = h.live; boot = h.boot; keys = h.keys; pins = pin_read_in_range b.pins d h.pins; sets = h.sets }
      record { live = live_in_range b.live h.live; boot = h.boot; keys = h.keys; pins = h.pins; sets = rw (live_text b.live) h.sets }

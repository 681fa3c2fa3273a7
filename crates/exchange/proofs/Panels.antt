-- Panels in their ranges: as at power-on, but for what they show and its sets, their wires, keys, pins and flash.
use Prim.Native.Nat.{ℕ}
use mathlib.Core.Path.{◌≡◌, refl, ◌∙◌}
use mathlib.Core.Bool.{true, and-eq-true_iff}
use mathlib.Core.List.{List, [], ◌∷◌, ◌++◌}
use native.Mathlib.Omega.{arith}
use borrow.Author.Tests.{leb-true, ltb-true}
use lib.ListN.{length, length-map}
use Rattle.lists.specs.Tests.{◌<?◌, ◌≤?◌, all, all_at_most}
use Rattle.packets.specs.Hold.{held}
use Rattle.table.specs.Table.{config_allowed}
use Rattle.sets.specs.Sets.{mark_of, searched}
use Rattle.sets.proofs.Laws.{mark_small, search_is}
use Rattle.panel.specs.declared.Shown.{Shown}
use Rattle.panel.specs.declared.Wires.{Wires}
use Rattle.panel.specs.declared.Settings.{Settings}
use Rattle.panel.specs.declared.Keys.{Keys}
use Rattle.panel.specs.declared.Pins.{Pins}
use Rattle.panel.specs.declared.Panel.{Panel}
use Rattle.panel.specs.State.{code_count, glyph_rows, pin_count, input_count, flash_size, factory_settings, powered_on}
use Rattle.ranges.specs.Ranges.{all_of, cursor_in_range, dials_in_range, masks_in_range, parts_in_range, configs_in_range, settings_in_range, keys_in_range, pins_in_range, in_ranges}
use Rattle.ranges.proofs.InRange.{settings_whole, panel_whole, keys_parts_lem, pins_parts_lem}
use Rattle.shapes.specs.Shape.{Shape, run, ◌▸◌, Value, ◌&◌, bytes, Fits, Bytes}
use Rattle.statebytes.specs.Layout.{line_shape, line_parts, shown_shape, shown_parts, wires_shape, wires_parts, settings_shape, settings_parts, bits_shape, keys_parts, pins_parts, body_shape, body_parts}
use Rattle.statebytes.specs.State.{bytes_of, PanelFits}
use Rattle.statebytes.proofs.Theorems.{power_fits}
use Rattle.exchange.specs.Writes.{Possible}
use Rattle.exchange.proofs.AreBytes.{EachByte, bytes_each, each_bytes, each_append, passing_bytes, computed_bytes}

-- what a panel has of its own
pub record Own : Type 0 where
  pub shown : Shown
  pub wires : Wires
  pub keys : Keys
  pub pins : Pins
  pub flash : List ℕ

abbrev settings_with : Shown → Wires → Settings
settings_with shown wires =
    record { shown = shown; cursor = factory_settings.cursor; dials = factory_settings.dials; masks = factory_settings.masks; wires = wires }

abbrev pub panel_with : Own → Panel
panel_with o =
    record {
      line = powered_on.line;
      body = record { live = settings_with o.shown o.wires; boot = factory_settings; keys = o.keys; pins = o.pins; flash = o.flash; sets = searched o.shown.text };
    }

-- in their ranges, and of their sizes
pub record ProperShown (s : Shown) : Type 0 where
  pub text_size : length s.text ≡ code_count
  pub text : Bytes s.text
  pub glyphs_size : length s.glyphs ≡ glyph_rows
  pub glyphs : all_at_most 63 s.glyphs ≡ true

pub record ProperWires (w : Wires) : Type 0 where
  pub levels_size : length w.levels ≡ pin_count
  pub levels : all_at_most 100 w.levels ≡ true
  pub configs_size : length w.configs ≡ input_count
  pub configs : configs_in_range w.configs ≡ true

pub record Proper (o : Own) : Type 0 where
  pub shown : ProperShown o.shown
  pub wires : ProperWires o.wires
  pub keys : keys_in_range o.keys ≡ true
  pub pins : pins_in_range o.pins ≡ true
  pub flash_size_lem : length o.flash ≡ flash_size
  pub flash : Bytes o.flash

-- the state's last part: keys, pins, flash, sets
abbrev inputs_shape : Shape
inputs_shape = bits_shape ▸ bits_shape ▸ run flash_size ▸ run code_count

-- the bytes of a value are bytes; those of a shape behind a shape are if those of both are
abbrev Small : (s : Shape) → Value s → Type 0
Small s v = EachByte (bytes s v)

behind : (s t : Shape) (v : Value s) (w : Value t) → Small s v → Small t w → Small (s ▸ t) (v & w)
unfolding bytes
behind s t v w e f = each_append (bytes s v) (bytes t w) e f

line_small : Small line_shape (line_parts powered_on.line)
unfolding bytes powered_on all
line_small = computed_bytes (bytes line_shape (line_parts powered_on.line)) refl

factory_small : Small settings_shape (settings_parts factory_settings)
unfolding bytes factory_settings all
factory_small = computed_bytes (bytes settings_shape (settings_parts factory_settings)) refl

factory_in_range : settings_in_range factory_settings ≡ true
unfolding factory_settings parts_in_range all cursor_in_range dials_in_range masks_in_range all_of config_allowed
factory_in_range = refl

-- a cell's byte in the sets is one
sets_small : (text : List ℕ) → EachByte (searched text)
sets_small [] = tt
sets_small (code ∷ text) = (omega (arith, mark_small code), sets_small text)

module _ (o : Own) (proper : Proper o) where
  abbrev sets : List ℕ
  sets = searched o.shown.text

  live_in_range : settings_in_range (settings_with o.shown o.wires) ≡ true
  unfolding factory_settings cursor_in_range dials_in_range masks_in_range all_of
  live_in_range = settings_whole (settings_with o.shown o.wires) record { glyphs = proper.shown.glyphs; cursor = refl; dials = refl; masks = refl; levels = proper.wires.levels; configs = proper.wires.configs }

  inputs_small : Small inputs_shape (keys_parts o.keys & pins_parts o.pins & o.flash & sets)
  unfolding bytes
  inputs_small =
      let k = keys_parts_lem o.keys proper.keys in
      let p = pins_parts_lem o.pins proper.pins in
      (omega (arith, k.down), (omega (arith, k.pressed), (omega (arith, k.released), (omega (arith, p.last), (omega (arith, p.fell), (omega (arith, p.rose), each_append o.flash sets (bytes_each o.flash proper.flash) (sets_small o.shown.text)))))))

  live_small : Small settings_shape (settings_parts (settings_with o.shown o.wires))
  unfolding bytes factory_settings config_allowed
  live_small =
      let s = o.shown in
      let w = o.wires in
      let glyphs = passing_bytes (λ x. x ≤? 63) (λ x h. omega (arith, leb-true x 63 h)) s.glyphs proper.shown.glyphs in
      let levels = passing_bytes (λ x. x ≤? 100) (λ x h. omega (arith, leb-true x 100 h)) w.levels proper.wires.levels in
      let configs = passing_bytes config_allowed (λ x h. omega (arith, ltb-true x 16 ((and-eq-true_iff (x <? 16) _).0 h).0)) w.configs proper.wires.configs in
      each_append (s.text ++ s.glyphs) (0 ∷ 0 ∷ 0 ∷ 95 ∷ 100 ∷ 63 ∷ 63 ∷ (w.levels ++ w.configs)) (each_append s.text s.glyphs (bytes_each s.text proper.shown.text) glyphs)
      (omega arith, (omega arith, (omega arith, (omega arith, (omega arith, (omega arith, (omega arith, each_append w.levels w.configs levels configs)))))))

  body_small : Small body_shape (body_parts (panel_with o).body)
  body_small =
      let inputs = keys_parts o.keys & pins_parts o.pins & o.flash & sets in
      let boot = settings_parts factory_settings in
      behind settings_shape (settings_shape ▸ inputs_shape) (settings_parts (settings_with o.shown o.wires)) (boot & inputs) live_small
      (behind settings_shape inputs_shape boot inputs factory_small inputs_small)

  small_with : Bytes (bytes_of (panel_with o))
  unfolding bytes_of
  small_with = each_bytes (bytes_of (panel_with o)) (behind line_shape body_shape (line_parts powered_on.line) (body_parts (panel_with o).body) line_small body_small)

  ranges_with : in_ranges (panel_with o) ≡ true
  unfolding powered_on
  ranges_with = panel_whole (panel_with o) record { count = omega arith; live = live_in_range; boot = factory_in_range; keys = proper.keys; pins = proper.pins; sets = search_is o.shown.text }

  fits_with : PanelFits (panel_with o)
  unfolding powered_on
  fits_with =
      let shown : Fits shown_shape (shown_parts o.shown) = (proper.shown.text_size, proper.shown.glyphs_size) in
      let wires : Fits wires_shape (wires_parts o.wires) = (proper.wires.levels_size, proper.wires.configs_size) in
      let boot = power_fits.1.1.0 in
      (power_fits.0, ((shown, ((tt, tt), ((tt, (tt, tt)), ((tt, tt), wires)))), (boot, ((tt, (tt, tt)), ((tt, (tt, tt)), (proper.flash_size_lem, length-map o.shown.text mark_of ∙ proper.shown.text_size))))))

  -- Such a panel can be.
  pub possible_with : Possible (panel_with o)
  possible_with = record { ranges = ranges_with; fits = fits_with; small = small_with }

pub holds_nothing : (o : Own) → held (panel_with o).line.hold ≡ []
unfolding powered_on
holds_nothing o = refl

-- A state in its ranges, part by part, and put together again.
use Prim.Native.Nat.{ℕ, zero, suc, ◌≤◌}
use mathlib.Core.Path.{◌≡◌, refl, sym, ◌∙◌, ap}
use mathlib.Core.List.{List, [], ◌∷◌}
use mathlib.Core.Bool.{Bool, true, false, ◌&&◌, and-eq-true_iff, and_assoc, and-true}
use lib.ListN.{set}
use borrow.Author.Tests.{leb-true, le-leb}
use Rattle.std.specs.List.{fold}
use Rattle.lists.specs.Tests.{all, all_at_most, when◌then◌else◌}
use Rattle.panel.specs.declared.Settings.{Settings}
use Rattle.panel.specs.declared.Keys.{Keys}
use Rattle.panel.specs.declared.Pins.{Pins}
use Rattle.panel.specs.declared.Panel.{Panel}
use Rattle.ranges.specs.Ranges.{all_of, configs_in_range, cursor_in_range, dials_in_range, masks_in_range, parts_in_range, settings_in_range, keys_in_range, pins_in_range, sets_in_range, in_ranges}

pub record PanelParts (p : Panel) : Type 0 where
  pub count : p.line.hold.count ≤ 25
  pub live : settings_in_range p.body.live ≡ true
  pub boot : settings_in_range p.body.boot ≡ true
  pub keys : keys_in_range p.body.keys ≡ true
  pub pins : pins_in_range p.body.pins ≡ true
  pub sets : sets_in_range p.body ≡ true

pub panel_parts_lem : (p : Panel) → in_ranges p ≡ true → PanelParts p
unfolding in_ranges
panel_parts_lem p e =
    let whole = (and-eq-true_iff _ _).0 e in
    let a = (and-eq-true_iff _ _).0 whole.0 in
    let b = (and-eq-true_iff _ _).0 a.0 in
    let c = (and-eq-true_iff _ _).0 b.0 in
    let d = (and-eq-true_iff _ _).0 a.1 in
    record { count = leb-true _ _ c.0; live = c.1; boot = b.1; keys = d.0; pins = d.1; sets = whole.1 }

pub panel_whole : (p : Panel) → PanelParts p → in_ranges p ≡ true
unfolding in_ranges
panel_whole p h = rw (le-leb _ _ h.count, h.live, h.boot, h.keys, h.pins, h.sets)

-- the groups of settings
pub record SettingsParts (s : Settings) : Type 0 where
  pub glyphs : all_at_most 63 s.shown.glyphs ≡ true
  pub cursor : cursor_in_range s.cursor ≡ true
  pub dials : dials_in_range s.dials ≡ true
  pub masks : masks_in_range s.masks ≡ true
  pub levels : all_at_most 100 s.wires.levels ≡ true
  pub configs : configs_in_range s.wires.configs ≡ true

pub settings_parts_lem : (s : Settings) → settings_in_range s ≡ true → SettingsParts s
unfolding parts_in_range
settings_parts_lem s e =
    let a = (and-eq-true_iff _ _).0 e in
    let b = (and-eq-true_iff _ _).0 a.0 in
    let c = (and-eq-true_iff _ _).0 b.0 in
    let d = (and-eq-true_iff _ _).0 c.0 in
    let f = (and-eq-true_iff _ _).0 d.0 in
    record { glyphs = f.0; cursor = f.1; dials = d.1; masks = c.1; levels = b.1; configs = a.1 }

pub settings_whole : (s : Settings) → SettingsParts s → settings_in_range s ≡ true
unfolding parts_in_range
settings_whole s h = rw (h.glyphs, h.cursor, h.dials, h.masks, h.levels, h.configs)

pub record KeysParts (k : Keys) : Type 0 where
  pub down : k.down ≤ 63
  pub pressed : k.pressed ≤ 63
  pub released : k.released ≤ 63

pub keys_parts_lem : (k : Keys) → keys_in_range k ≡ true → KeysParts k
unfolding keys_in_range
keys_parts_lem k e =
    let a = (and-eq-true_iff _ _).0 e in
    let b = (and-eq-true_iff _ _).0 a.0 in
    record { down = leb-true _ _ b.0; pressed = leb-true _ _ b.1; released = leb-true _ _ a.1 }

pub keys_whole : (k : Keys) → KeysParts k → keys_in_range k ≡ true
unfolding keys_in_range
keys_whole k h = rw (le-leb _ _ h.down, le-leb _ _ h.pressed, le-leb _ _ h.released)

pub record PinsParts (p : Pins) : Type 0 where
  pub last : p.last ≤ 31
  pub fell : p.fell ≤ 31
  pub rose : p.rose ≤ 31

pub pins_parts_lem : (p : Pins) → pins_in_range p ≡ true → PinsParts p
unfolding pins_in_range
pins_parts_lem p e =
    let a = (and-eq-true_iff _ _).0 e in
    let b = (and-eq-true_iff _ _).0 a.0 in
    record { last = leb-true _ _ b.0; fell = leb-true _ _ b.1; rose = leb-true _ _ a.1 }

pub pins_whole : (p : Pins) → PinsParts p → pins_in_range p ≡ true
unfolding pins_in_range
pins_whole p h = rw (le-leb _ _ h.last, le-leb _ _ h.fell, le-leb _ _ h.rose)

-- a fold that ends at no element says whether all pass
pub folded_all : (test : ℕ → Bool) (xs : List ℕ) (ok : Bool) → fold (λ (ok : Bool) (x : ℕ). ok && test x) ok xs ≡ (ok && all test xs)
unfolding all
folded_all test [] ok = sym (and-true ok)
folded_all test (x ∷ xs) ok = folded_all test xs (ok && test x) ∙ and_assoc ok (test x) (all test xs)

falls : (bs : List Bool) → all_of false bs ≡ false
unfolding all_of
falls [] = refl
falls (b ∷ bs) = falls bs

-- where all tests hold, they hold with one of them replaced by one that holds
pub kept : (ok : Bool) (bs : List Bool) (i : ℕ) → all_of ok bs ≡ true → all_of ok (set bs i true) ≡ true
unfolding all_of when◌then◌else◌
kept ok [] i e = e
kept true (true ∷ bs) zero e = e
kept true (false ∷ bs) zero e = sym (ap (λ (v : Bool). when v then all_of true bs else true) (sym (falls bs) ∙ e))
kept false (b ∷ bs) zero e = e
kept ok (b ∷ bs) (suc n) e = kept (ok && b) bs n e

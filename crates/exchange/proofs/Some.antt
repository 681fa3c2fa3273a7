-- Some panel for each echo, version, flash and poll that a host reads.
use Prim.Native.Nat.{ℕ, ◌+◌, ◌≤◌}
use mathlib.Core.Path.{◌≡◌, refl, sym}
use mathlib.Core.Bool.{true, false≢true, and-eq-true_iff}
use mathlib.Core.List.{List, [], ◌∷◌}
use native.Mathlib.Omega.{arith}
use borrow.Author.Tests.{eqb-true, leb-true}
use lib.ListN.{length, get_or, replicate}
use Rattle.std.specs.Prelude.{bytes_eq, Result, Ok, Err, is_ok}
use Rattle.std.proofs.lemmas.Slice.Eq.{bytes_eq-Decides}
use Rattle.lists.specs.Tests.{when◌then◌else◌, ◌≤?◌, ◌=?◌, all}
use Rattle.lists.specs.First.{first_below}
use Rattle.packets.specs.Packet.{content_most, packet_bytes}
use Rattle.table.specs.Table.{look_up, config_allowed}
use Rattle.shapes.specs.Shape.{Bytes}
use Rattle.verdict.specs.declared.Objection.{Objection}
use Rattle.verdict.specs.Verdict.{first_out, whole_verdict, verdict_by}
use Rattle.panel.specs.declared.Shown.{Shown}
use Rattle.panel.specs.declared.Wires.{Wires}
use Rattle.panel.specs.declared.Keys.{Keys}
use Rattle.panel.specs.declared.Pins.{Pins}
use Rattle.panel.specs.State.{flash_size, factory_settings, no_keys, low_pins}
use Rattle.ranges.specs.Ranges.{keys_in_range, pins_in_range}
use Rattle.ranges.proofs.InRange.{keys_whole}
use Rattle.glyphs.proofs.Flat.{all_elements}
use Rattle.replies.specs.Replies.{version, reply_data}
use Rattle.reading.specs.declared.Meaning.TheVariants.{Reply}
use Rattle.reading.specs.Reading.{is_poll, reading_with}
use Rattle.exchange.specs.Writes.{Writes}
use Rattle.exchange.proofs.Refusable.{always_allowed}
use Rattle.exchange.proofs.Made.{some_reply}
use Rattle.exchange.proofs.AreBytes.{tested_bytes}
use Rattle.exchange.proofs.Data.{passes_at}
use Rattle.exchange.proofs.Panels.{Own, panel_with, Proper, possible_with, holds_nothing}

-- some panel replies these data to the command
abbrev pub Replied : ℕ → List ℕ → Type 0
Replied code values = Writes (reading_with (Reply code) values) (packet_bytes (64 + code) values)

-- as at power-on
abbrev pub own : Shown → Wires → Keys → Pins → List ℕ → Own
own shown wires keys pins flash = record { shown = shown; wires = wires; keys = keys; pins = pins; flash = flash }

abbrev pub plain : Own
plain = own factory_settings.shown factory_settings.wires no_keys low_pins (replicate flash_size 0)

pub plain_proper : Proper plain
unfolding factory_settings all config_allowed keys_in_range pins_in_range
plain_proper =
    record {
      shown = record { text_size = refl; text = tested_bytes factory_settings.shown.text refl; glyphs_size = refl; glyphs = refl };
      wires = record { levels_size = refl; levels = refl; configs_size = refl; configs = refl };
      keys = refl;
      pins = refl;
      flash_size_lem = refl;
      flash = tested_bytes (replicate flash_size 0) refl;
    }

-- a verdict that a test finds allowed
pub allowed_is : (v : Result (Unit {0}) Objection) → is_ok v ≡ true → v ≡ Ok tt
allowed_is (Ok _) e = refl
allowed_is (Err o) e = absurd (false≢true e)

-- 0: the same data
pub echo_some : (d : List ℕ) → length d ≤ content_most → Bytes d → Replied 0 d
unfolding reply_data when◌then◌else◌
echo_some d few bytes = some_reply (panel_with plain) (possible_with plain plain_proper) (holds_nothing plain) 0 (omega arith) d few bytes (always_allowed d few) d refl

-- 1: the version
pub version_some : (d : List ℕ) → bytes_eq d version ≡ true → Replied 1 d
unfolding all reply_data look_up verdict_by first_out first_below whole_verdict when◌then◌else◌
version_some d same = some_reply (panel_with plain) (possible_with plain plain_proper) (holds_nothing plain) 1 (omega arith) [] (omega arith) (tested_bytes [] refl) refl d (sym ((bytes_eq-Decides d version).0 same))

-- 3: the flash
pub flash_some : (d : List ℕ) → Bytes d → length d ≡ flash_size → Replied 3 d
unfolding all reply_data look_up verdict_by first_out first_below whole_verdict when◌then◌else◌
flash_some d bytes size =
    let o = own plain.shown plain.wires no_keys low_pins d in
    let p = plain_proper in
    let proper : Proper o = record { shown = p.shown; wires = p.wires; keys = p.keys; pins = p.pins; flash_size_lem = size; flash = bytes } in
    some_reply (panel_with o) (possible_with o proper) (holds_nothing o) 3 (omega arith) [] (omega arith) (tested_bytes [] refl) refl d refl

-- 24: the keys
pub poll_some : (d : List ℕ) → is_poll d ≡ true → Replied 24 d
unfolding is_poll all reply_data look_up verdict_by first_out first_below whole_verdict when◌then◌else◌
poll_some d can =
    let both = (and-eq-true_iff (length d =? 3) _).0 can in
    let three : get_or d 0 0 ∷ get_or d 1 0 ∷ get_or d 2 0 ∷ [] ≡ d = all_elements 0 d 0 3 (eqb-true _ _ both.0) in
    let at : (i : ℕ) → get_or d i 0 ≤ 63 = λ i. leb-true _ _ (passes_at (λ x. x ≤? 63) refl d both.1 i) in
    let k : Keys = record { down = get_or d 0 0; pressed = get_or d 1 0; released = get_or d 2 0 } in
    let o = own plain.shown plain.wires k low_pins plain.flash in
    let p = plain_proper in
    let proper : Proper o = record { shown = p.shown; wires = p.wires; keys = keys_whole k record { down = at 0; pressed = at 1; released = at 2 }; pins = p.pins; flash_size_lem = p.flash_size_lem; flash = p.flash } in
    some_reply (panel_with o) (possible_with o proper) (holds_nothing o) 24 (omega arith) [] (omega arith) (tested_bytes [] refl) refl d three

-- What holds of the ranges over and above the functions' own promises.
use Prim.Native.Nat.{ℕ}
use mathlib.Core.Path.{◌≡◌, refl}
use mathlib.Core.Bool.{true}
use mathlib.Core.List.{List}
use native.Mathlib.Omega.{arith}
use Rattle.lists.specs.Promise.{Determined}
use Rattle.lists.specs.Tests.{all}
use Rattle.lists.proofs.Theorems.{one}
use Rattle.table.specs.Table.{config_allowed}
use Rattle.panel.specs.declared.Cursor.{Cursor}
use Rattle.panel.specs.declared.Dials.{Dials}
use Rattle.panel.specs.declared.Masks.{Masks}
use Rattle.panel.specs.declared.Keys.{Keys}
use Rattle.panel.specs.declared.Pins.{Pins}
use Rattle.panel.specs.declared.Panel.{Panel}
use Rattle.panel.specs.State.{factory_settings, powered_on}
use Rattle.sets.proofs.Laws.{search_is}
use Rattle.ranges.specs.Ranges.{all_of, cursor_in_range, dials_in_range, masks_in_range, parts_in_range, keys_in_range, pins_in_range, in_ranges, AllAtMost, PartsRange, InputsRange, Ranges}
use Rattle.ranges.proofs.InRange.{panel_whole}

-- The state at power-on is in its ranges: antt computes the tests, and the sets are those of the text.
pub power_on_in_range : in_ranges powered_on ≡ true
unfolding powered_on factory_settings parts_in_range cursor_in_range dials_in_range masks_in_range keys_in_range pins_in_range all all_of config_allowed
power_on_in_range =
    panel_whole powered_on record { count = omega arith; live = refl; boot = refl; keys = refl; pins = refl; sets = search_is factory_settings.shown.text }

-- For each public function, any two results that its promise allows are equal.
pub all_at_most_determined : (bytes : List ℕ) (most : ℕ) → Determined (AllAtMost bytes most)
all_at_most_determined bytes most = one _

pub parts_in_range_determined : (glyphs : List ℕ) (cursor : Cursor) (dials : Dials) (masks : Masks) (levels configs : List ℕ) → Determined (PartsRange glyphs cursor dials masks levels configs)
parts_in_range_determined glyphs cursor dials masks levels configs = one _

pub inputs_in_range_determined : (k : Keys) (p : Pins) → Determined (InputsRange k p)
inputs_in_range_determined k p = one _

pub in_ranges_determined : (p : Panel) → Determined (Ranges p)
in_ranges_determined p = one _

-- "A state is in its ranges if at most 25 bytes are held and each value, boot state included and taken alone (each key and
-- edge bit too), is one that the commands and events below can set; held bytes, text, flash and the unfiled number are free." The
-- sets are bound to the live text: 10 is given "also for sets that differ from that search" (document 02, order 4).
use Rattle.std.specs.Prelude.{ℕ, ◌≡◌, Bool, true, ◌&&◌, List, [], ◌∷◌}
use Rattle.lists.specs.Tests.{◌≤?◌, all, all_at_most}
use Rattle.packets.specs.Hold.{held_most}
use Rattle.table.specs.Table.{config_allowed}
use Rattle.sets.specs.Sets.{is_search}
use Rattle.panel.specs.declared.Line.{Line}
use Rattle.panel.specs.declared.Cursor.{Cursor}
use Rattle.panel.specs.declared.Dials.{Dials}
use Rattle.panel.specs.declared.Masks.{Masks}
use Rattle.panel.specs.declared.Settings.{Settings}
use Rattle.panel.specs.declared.Keys.{Keys}
use Rattle.panel.specs.declared.Pins.{Pins}
use Rattle.panel.specs.declared.Body.{Body}
use Rattle.panel.specs.declared.Panel.{Panel}

-- all of the tests, the first one first
unfoldable pub all_of : Bool → List Bool → Bool
all_of ok [] = ok
all_of ok (b ∷ bs) = all_of (ok && b) bs

-- command 11
unfoldable pub cursor_in_range : Cursor → Bool
cursor_in_range c = (c.column ≤? 19) && (c.row ≤? 3)

-- commands 12, 13 and 14
unfoldable pub dials_in_range : Dials → Bool
dials_in_range d = all_of true ((d.style ≤? 4) ∷ (d.contrast ≤? 254) ∷ (d.backlight ≤? 100) ∷ [])

-- command 23
unfoldable pub masks_in_range : Masks → Bool
masks_in_range m = (m.press ≤? 63) && (m.release ≤? 63)

abbrev pub configs_in_range : List ℕ → Bool
configs_in_range configs = all config_allowed configs

-- all of settings: these, the rows of command 9 and the pins' levels of command 34
unfoldable pub parts_in_range : List ℕ → Cursor → Dials → Masks → List ℕ → List ℕ → Bool
parts_in_range glyphs cursor dials masks levels configs =
    all_at_most 63 glyphs && cursor_in_range cursor && dials_in_range dials && masks_in_range masks && all_at_most 100 levels && configs_in_range configs

abbrev pub settings_in_range : Settings → Bool
settings_in_range s = parts_in_range s.shown.glyphs s.cursor s.dials s.masks s.wires.levels s.wires.configs

-- six keys
unfoldable pub keys_in_range : Keys → Bool
keys_in_range k = (k.down ≤? 63) && (k.pressed ≤? 63) && (k.released ≤? 63)

-- pins 0 to 4
unfoldable pub pins_in_range : Pins → Bool
pins_in_range p = (p.last ≤? 31) && (p.fell ≤? 31) && (p.rose ≤? 31)

abbrev pub inputs_in_range : Keys → Pins → Bool
inputs_in_range k p = keys_in_range k && pins_in_range p

-- "at most 25 bytes are held"
abbrev pub line_in_range : Line → Bool
line_in_range l = l.hold.count ≤? held_most

-- the sets are those that a search of the live text finds
abbrev pub sets_in_range : Body → Bool
sets_in_range b = is_search b.live.shown.text b.sets

unfoldable pub in_ranges : Panel → Bool
in_ranges p =
    line_in_range p.line && settings_in_range p.body.live && settings_in_range p.body.boot && inputs_in_range p.body.keys p.body.pins && sets_in_range p.body

-- what `all_at_most` promises
abbrev pub AllAtMost : List ℕ → ℕ → Bool → Type 0
AllAtMost bytes most r = r ≡ all_at_most most bytes

-- what `parts_in_range` promises
abbrev pub PartsRange : List ℕ → Cursor → Dials → Masks → List ℕ → List ℕ → Bool → Type 0
PartsRange glyphs cursor dials masks levels configs r = r ≡ parts_in_range glyphs cursor dials masks levels configs

-- what `inputs_in_range` promises
abbrev pub InputsRange : Keys → Pins → Bool → Type 0
InputsRange k p r = r ≡ inputs_in_range k p

-- what `in_ranges` promises
abbrev pub Ranges : Panel → Bool → Type 0
Ranges p r = r ≡ in_ranges p

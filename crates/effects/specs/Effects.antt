-- What each command does to the body: a function of the body and the packet's code and data alone.
use Rattle.std.specs.Prelude.{ℕ, ◌+◌, ◌*◌, ◌%◌, ◌≡◌, List, length, get_or, drop, set, replicate}
use Rattle.lists.specs.Tests.{when◌then◌else◌, ◌=?◌}
use Rattle.lists.specs.Runs.{pasted}
use Rattle.packets.specs.declared.Packet.{Packet}
use Rattle.packets.specs.Packet.{content_of}
use Rattle.bits.specs.Bits.{without_bit}
use Rattle.panel.specs.declared.Shown.{Shown}
use Rattle.panel.specs.declared.Cursor.{Cursor}
use Rattle.panel.specs.declared.Dials.{Dials}
use Rattle.panel.specs.declared.Masks.{Masks}
use Rattle.panel.specs.declared.Wires.{Wires}
use Rattle.panel.specs.declared.Settings.{Settings}
use Rattle.panel.specs.declared.Keys.{Keys}
use Rattle.panel.specs.declared.Pins.{Pins}
use Rattle.panel.specs.declared.Body.{Body}
use Rattle.panel.specs.State.{with_style, with_contrast, with_backlight, with_live, with_text, with_keys, with_pins}
use Rattle.sets.specs.Sets.{searched}
use Rattle.glyphs.specs.Glyphs.{eight_from, glyphs_with}

-- 2: "writes user flash"
abbrev pub with_flash : Body → List ℕ → Body
with_flash b d = record { live = b.live; boot = b.boot; keys = b.keys; pins = b.pins; flash = pasted b.flash 0 d; sets = b.sets }

-- 4: "stores boot state"
abbrev pub stored : Body → Body
stored b = record { live = b.live; boot = b.live; keys = b.keys; pins = b.pins; flash = b.flash; sets = b.sets }

-- 24: "clears the last two"
abbrev pub polled : Keys → Keys
polled k = record { down = k.down; pressed = 0; released = 0 }

-- 5: "Reboot brings it back and clears poll bytes and edges. Flash, held bytes, keys down, last pin levels, the register
-- and the unfiled number stay." The text that comes back brings its sets with it (document 02, order 4).
abbrev pub rebooted : Body → Body
rebooted b =
    record {
      live = b.boot;
      boot = b.boot;
      keys = polled b.keys;
      pins = record { last = b.pins.last; fell = 0; rose = 0 };
      flash = b.flash;
      sets = searched b.boot.shown.text;
    }

-- settings with another group
abbrev pub with_shown : Settings → Shown → Settings
with_shown s shown = record { shown = shown; cursor = s.cursor; dials = s.dials; masks = s.masks; wires = s.wires }

abbrev pub with_cursor : Settings → Cursor → Settings
with_cursor s cursor = record { shown = s.shown; cursor = cursor; dials = s.dials; masks = s.masks; wires = s.wires }

abbrev pub with_dials : Settings → Dials → Settings
with_dials s dials = record { shown = s.shown; cursor = s.cursor; dials = dials; masks = s.masks; wires = s.wires }

abbrev pub with_masks : Settings → Masks → Settings
with_masks s masks = record { shown = s.shown; cursor = s.cursor; dials = s.dials; masks = masks; wires = s.wires }

abbrev pub with_wires : Settings → Wires → Settings
with_wires s wires = record { shown = s.shown; cursor = s.cursor; dials = s.dials; masks = s.masks; wires = wires }

-- 6: "all text spaces (32), cursor 0,0"
abbrev pub cleared : Settings → Settings
cleared s =
    record {
      shown = record { text = replicate 80 32; glyphs = s.shown.glyphs };
      cursor = record { column = 0; row = 0 };
      dials = s.dials;
      masks = s.masks;
      wires = s.wires;
    }

-- 9: "sets a special glyph": index, then eight rows
abbrev pub glyph_set : Shown → List ℕ → Shown
glyph_set s d = record { text = s.text; glyphs = glyphs_with s.glyphs (get_or d 0 0) (eight_from d 1) }

-- 11: column, row
abbrev pub cursor_at : List ℕ → Cursor
cursor_at d = record { column = get_or d 0 0; row = get_or d 1 0 }

-- 23: "press, release masks"
abbrev pub masks_given : List ℕ → Masks
masks_given d = record { press = get_or d 0 0; release = get_or d 1 0 }

-- 31: column, row, text: "writes text; cursor stays"
abbrev pub text_written : Shown → List ℕ → Shown
text_written s d = record { text = pasted s.text (20 * get_or d 1 0 + get_or d 0 0) (drop 2 d); glyphs = s.glyphs }

-- 34: pin, level, config: "sets pin". "With two bytes config stays."
abbrev pub pin_set : Wires → List ℕ → Wires
pin_set w d =
    record {
      levels = set w.levels (get_or d 0 0) (get_or d 1 0);
      configs = when length d =? 3 then set w.configs (get_or d 0 0) (get_or d 2 0) else w.configs;
    }

-- 35: "clears edges", those of the pin that is read; "clearing keeps bit 0"
abbrev pub pin_read : Pins → List ℕ → Pins
pin_read p d = record { last = p.last; fell = without_bit p.fell (get_or d 0 0); rose = without_bit p.rose (get_or d 0 0) }

-- the column "does" of the table, of the commands that change the live settings alone, and no text
unfoldable pub live_after : ℕ → List ℕ → Settings → Settings
live_after code d s =
    when code =? 9 then with_shown s (glyph_set s.shown d)
    else when code =? 11 then with_cursor s (cursor_at d)
    else when code =? 12 then with_dials s (with_style s.dials (get_or d 0 0))
    else when code =? 13 then with_dials s (with_contrast s.dials (get_or d 0 0))
    else when code =? 14 then with_dials s (with_backlight s.dials (get_or d 0 0))
    else when code =? 23 then with_masks s (masks_given d)
    else when code =? 34 then with_wires s (pin_set s.wires d)
    else s

-- the same column for the whole body; commands 0, 1, 3 and 10 change nothing. A text that is written brings its sets with it: "After
-- any calls each set equals what a search of the text finds" (document 02, order 4).
unfoldable pub effect : ℕ → List ℕ → Body → Body
effect code d b =
    when code =? 2 then with_flash b d
    else when code =? 4 then stored b
    else when code =? 5 then rebooted b
    else when code =? 6 then with_text b (cleared b.live)
    else when code =? 24 then with_keys b (polled b.keys)
    else when code =? 31 then with_text b (with_shown b.live (text_written b.live.shown d))
    else when code =? 35 then with_pins b (pin_read b.pins d)
    else with_live b (live_after code d b.live)

-- what `effect_of` promises, of the command that the packet's low six type bits name
abbrev pub Affects : Body → Packet → Body → Type 0
Affects b p r = r ≡ effect (p.kind % 64) (content_of p) b

-- How the panel starts; dials, a body, a panel and its line with another part.
use Rattle.std.specs.Prelude.{ℕ, ◌≡◌, [], ◌∷◌, replicate}
use Rattle.packets.specs.declared.Hold.{Hold}
use Rattle.packets.specs.Hold.{hold_of}
use Rattle.sets.specs.Sets.{searched}
use Rattle.panel.specs.declared.Line.{Line}
use Rattle.panel.specs.declared.Dials.{Dials}
use Rattle.panel.specs.declared.Settings.{Settings}
use Rattle.panel.specs.declared.Keys.{Keys}
use Rattle.panel.specs.declared.Pins.{Pins}
use Rattle.panel.specs.declared.Body.{Body}
use Rattle.panel.specs.declared.Panel.{Panel}

-- how many codes are shown, rows the glyphs have, pins there are and pins with an input, and bytes the flash has
abbrev pub code_count : ℕ
code_count = 80

abbrev pub glyph_rows : ℕ
glyph_rows = 64

abbrev pub pin_count : ℕ
pin_count = 13

abbrev pub input_count : ℕ
input_count = 5

abbrev pub flash_size : ℕ
flash_size = 16

-- "Factory boot state, also at power-on: spaces, glyph rows 0, cursor 0,0, style 0, contrast 95, backlight 100, masks 63,
-- pin levels 0, config 3 for pin 1 and 2 for pins 0, 2, 3 and 4"
unfoldable pub factory_settings : Settings
factory_settings =
    record {
      shown = record { text = replicate code_count 32; glyphs = replicate glyph_rows 0 };
      cursor = record { column = 0; row = 0 };
      dials = record { style = 0; contrast = 95; backlight = 100 };
      masks = record { press = 63; release = 63 };
      wires = record { levels = replicate pin_count 0; configs = 2 ∷ 3 ∷ 2 ∷ 2 ∷ 2 ∷ [] };
    }

abbrev pub no_keys : Keys
no_keys = record { down = 0; pressed = 0; released = 0 }

abbrev pub low_pins : Pins
low_pins = record { last = 0; fell = 0; rose = 0 }

-- "At power-on flash is zeros, keys up, pins low, poll bytes and edges clear, nothing held, unfiled 0." The sets are what a search
-- of the text finds (document 02, order 4).
unfoldable pub powered_on : Panel
powered_on =
    record {
      line = record { hold = hold_of []; unfiled = 0 };
      body =
          record {
            live = factory_settings;
            boot = factory_settings;
            keys = no_keys;
            pins = low_pins;
            flash = replicate flash_size 0;
            sets = searched factory_settings.shown.text;
          };
    }

-- what `powered_on` promises
abbrev pub Starts : Panel → Type 0
Starts r = r ≡ powered_on

-- dials with another value
abbrev pub with_style : Dials → ℕ → Dials
with_style d style = record { style = style; contrast = d.contrast; backlight = d.backlight }

abbrev pub with_contrast : Dials → ℕ → Dials
with_contrast d contrast = record { style = d.style; contrast = contrast; backlight = d.backlight }

abbrev pub with_backlight : Dials → ℕ → Dials
with_backlight d backlight = record { style = d.style; contrast = d.contrast; backlight = backlight }

-- a body and a panel with another part
abbrev pub with_live : Body → Settings → Body
with_live b s = record { live = s; boot = b.boot; keys = b.keys; pins = b.pins; flash = b.flash; sets = b.sets }

-- live settings of another text, and the sets as a search of it finds them
abbrev pub with_text : Body → Settings → Body
with_text b s = record { live = s; boot = b.boot; keys = b.keys; pins = b.pins; flash = b.flash; sets = searched s.shown.text }

abbrev pub with_keys : Body → Keys → Body
with_keys b k = record { live = b.live; boot = b.boot; keys = k; pins = b.pins; flash = b.flash; sets = b.sets }

abbrev pub with_pins : Body → Pins → Body
with_pins b p = record { live = b.live; boot = b.boot; keys = b.keys; pins = p; flash = b.flash; sets = b.sets }

abbrev pub with_body : Panel → Body → Panel
with_body p b = record { line = p.line; body = b }

-- the line's part with other held bytes, and with another unfiled number
abbrev pub line_holding : Line → Hold → Line
line_holding l hold = record { hold = hold; unfiled = l.unfiled }

abbrev pub line_unfiled : Line → ℕ → Line
line_unfiled l n = record { hold = l.hold; unfiled = n }

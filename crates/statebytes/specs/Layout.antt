-- The panel's layout in bytes, the tables "The state" and "Settings" of include/naupelys.h. A part costs a row of its shape, and
-- its place in the two lists of fields below it.
use Rattle.std.specs.Prelude.{ℕ, ◌+◌}
use Rattle.shapes.specs.Shape.{Shape, byte, counter, word, run, ◌▸◌, ◌&◌, Value, size}
use Rattle.packets.specs.Hold.{held_most}
use Rattle.panel.specs.declared.Line.{Line}
use Rattle.panel.specs.declared.Shown.{Shown}
use Rattle.panel.specs.declared.Cursor.{Cursor}
use Rattle.panel.specs.declared.Dials.{Dials}
use Rattle.panel.specs.declared.Masks.{Masks}
use Rattle.panel.specs.declared.Wires.{Wires}
use Rattle.panel.specs.declared.Settings.{Settings}
use Rattle.panel.specs.declared.Keys.{Keys}
use Rattle.panel.specs.declared.Pins.{Pins}
use Rattle.panel.specs.declared.Body.{Body}
use Rattle.panel.specs.declared.Panel.{Panel}
use Rattle.panel.specs.State.{code_count, glyph_rows, pin_count, input_count, flash_size}

-- how many bytes are held, the bytes, the refusals that no record holds
abbrev pub line_shape : Shape
line_shape = counter ▸ run held_most ▸ word

abbrev pub line_parts : Line → Value line_shape
line_parts l = l.hold.count & l.hold.bytes & l.unfiled

abbrev pub line_from : Value line_shape → Line
line_from (count & held & unfiled) = record { hold = record { bytes = held; count = count }; unfiled = unfiled }

-- the codes, the special glyphs
abbrev pub shown_shape : Shape
shown_shape = run code_count ▸ run glyph_rows

abbrev pub shown_parts : Shown → Value shown_shape
shown_parts s = s.text & s.glyphs

abbrev pub shown_from : Value shown_shape → Shown
shown_from (text & glyphs) = record { text = text; glyphs = glyphs }

-- column, row
abbrev pub cursor_shape : Shape
cursor_shape = byte ▸ byte

abbrev pub cursor_parts : Cursor → Value cursor_shape
cursor_parts c = c.column & c.row

abbrev pub cursor_from : Value cursor_shape → Cursor
cursor_from (column & row) = record { column = column; row = row }

-- style, contrast, backlight
abbrev pub dials_shape : Shape
dials_shape = byte ▸ byte ▸ byte

abbrev pub dials_parts : Dials → Value dials_shape
dials_parts d = d.style & d.contrast & d.backlight

abbrev pub dials_from : Value dials_shape → Dials
dials_from (style & contrast & backlight) = record { style = style; contrast = contrast; backlight = backlight }

-- presses, releases
abbrev pub masks_shape : Shape
masks_shape = byte ▸ byte

abbrev pub masks_parts : Masks → Value masks_shape
masks_parts m = m.press & m.release

abbrev pub masks_from : Value masks_shape → Masks
masks_from (press & release) = record { press = press; release = release }

-- levels, configs
abbrev pub wires_shape : Shape
wires_shape = run pin_count ▸ run input_count

abbrev pub wires_parts : Wires → Value wires_shape
wires_parts w = w.levels & w.configs

abbrev pub wires_from : Value wires_shape → Wires
wires_from (levels & configs) = record { levels = levels; configs = configs }

-- shown, cursor, dials, masks, wires
abbrev pub settings_shape : Shape
settings_shape = shown_shape ▸ cursor_shape ▸ dials_shape ▸ masks_shape ▸ wires_shape

abbrev pub settings_parts : Settings → Value settings_shape
settings_parts s = shown_parts s.shown & cursor_parts s.cursor & dials_parts s.dials & masks_parts s.masks & wires_parts s.wires

abbrev pub settings_from : Value settings_shape → Settings
settings_from (shown & cursor & dials & masks & wires) =
    record { shown = shown_from shown; cursor = cursor_from cursor; dials = dials_from dials; masks = masks_from masks; wires = wires_from wires }

-- where each group stands in settings
abbrev pub cursor_place : ℕ
cursor_place = size shown_shape

abbrev pub dials_place : ℕ
dials_place = cursor_place + size cursor_shape

abbrev pub masks_place : ℕ
masks_place = dials_place + size dials_shape

abbrev pub wires_place : ℕ
wires_place = masks_place + size masks_shape

-- a bit for each: down, pressed, released of the keys; last, fell, rose of the pins
abbrev pub bits_shape : Shape
bits_shape = byte ▸ byte ▸ byte

abbrev pub keys_parts : Keys → Value bits_shape
keys_parts k = k.down & k.pressed & k.released

abbrev pub keys_from : Value bits_shape → Keys
keys_from (down & pressed & released) = record { down = down; pressed = pressed; released = released }

abbrev pub pins_parts : Pins → Value bits_shape
pins_parts p = p.last & p.fell & p.rose

abbrev pub pins_from : Value bits_shape → Pins
pins_from (last & fell & rose) = record { last = last; fell = fell; rose = rose }

-- live, boot, keys, pins, flash, sets
abbrev pub body_shape : Shape
body_shape = settings_shape ▸ settings_shape ▸ bits_shape ▸ bits_shape ▸ run flash_size ▸ run code_count

abbrev pub body_parts : Body → Value body_shape
body_parts b = settings_parts b.live & settings_parts b.boot & keys_parts b.keys & pins_parts b.pins & b.flash & b.sets

abbrev pub body_from : Value body_shape → Body
body_from (live & boot & keys & pins & flash & sets) =
    record { live = settings_from live; boot = settings_from boot; keys = keys_from keys; pins = pins_from pins; flash = flash; sets = sets }

-- where the body, its keys and its pins stand in a state
abbrev pub body_place : ℕ
body_place = size line_shape

abbrev pub keys_place : ℕ
keys_place = body_place + size settings_shape + size settings_shape

abbrev pub pins_place : ℕ
pins_place = keys_place + size bits_shape

-- the line, the body
abbrev pub panel_shape : Shape
panel_shape = line_shape ▸ body_shape

abbrev pub panel_parts : Panel → Value panel_shape
panel_parts p = line_parts p.line & body_parts p.body

abbrev pub panel_from : Value panel_shape → Panel
panel_from (line & body) = record { line = line_from line; body = body_from body }

-- What each command replies: a function of the body before it and the packet's code and data alone.
use Rattle.std.specs.Prelude.{ℕ, ◌+◌, ◌*◌, ◌-◌, ◌/◌, ◌%◌, ◌≡◌, Bool, true, false, List, [], ◌∷◌, get_or}
use Rattle.lists.specs.Tests.{when◌then◌else◌, ◌<?◌, ◌=?◌}
use Rattle.packets.specs.declared.Packet.{Packet}
use Rattle.packets.specs.Packet.{packet_of, content_of}
use Rattle.bits.specs.Bits.{is_on}
use Rattle.panel.specs.declared.Shown.{Shown}
use Rattle.panel.specs.declared.Pins.{Pins}
use Rattle.panel.specs.declared.Body.{Body}
use Rattle.glyphs.specs.Glyphs.{eight_from}

-- 1: CFA635:h1.1,s1.6
abbrev pub version : List ℕ
version = 67 ∷ 70 ∷ 65 ∷ 54 ∷ 51 ∷ 53 ∷ 58 ∷ 104 ∷ 49 ∷ 46 ∷ 49 ∷ 44 ∷ 115 ∷ 49 ∷ 46 ∷ 54 ∷ []

-- 10: "address 64 + 8g + k is row k of glyph g"; address 128 + 32r + c is column c of row r
unfoldable pub memory : Shown → ℕ → List ℕ
memory s address =
    when address <? 128 then eight_from s.glyphs (address - 64)
    else eight_from s.text (20 * ((address - 128) / 32) + (address - 128) % 32)

abbrev pub bit : Bool → ℕ
bit true = 1
bit false = 0

-- "Edges byte: bit 0 last level, bit 1 fell, bit 2 rose since last read ..; 0 for pins 5 to 12", which have no bit
unfoldable pub edges : Pins → ℕ → ℕ
edges p pin = bit (is_on p.last pin) + 2 * bit (is_on p.fell pin) + 4 * bit (is_on p.rose pin)

-- 35: "replies pin, edges, level, config"; for pins 5 to 12 the config is 0
abbrev pub pin_reply : Body → ℕ → List ℕ
pin_reply b pin = pin ∷ edges b.pins pin ∷ get_or b.live.wires.levels pin 0 ∷ get_or b.live.wires.configs pin 0 ∷ []

-- the data of a command's reply, from the body before the command
unfoldable pub reply_data : ℕ → List ℕ → Body → List ℕ
reply_data code d b =
    when code =? 0 then d
    else when code =? 1 then version
    else when code =? 3 then b.flash
    else when code =? 10 then get_or d 0 0 ∷ memory b.live.shown (get_or d 0 0)
    else when code =? 24 then b.keys.down ∷ b.keys.pressed ∷ b.keys.released ∷ []
    else when code =? 35 then pin_reply b (get_or d 0 0)
    else []

-- what `reply_to` promises, of the command that the packet's low six type bits name
abbrev pub RepliesTo : Body → Packet → Packet → Type 0
RepliesTo b p r = r ≡ packet_of (64 + p.kind % 64) (reply_data (p.kind % 64) (content_of p) b)

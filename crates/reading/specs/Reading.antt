-- What a panel means by the bytes that it writes. One definition, `meaning_of`, says which packets it can write from some state in
-- its ranges, and what each means: the reader and the panels are both held to it.
use Rattle.std.specs.Prelude.{ℕ, ◌+◌, ◌-◌, ◌≡◌, Bool, true, false, ◌&&◌, ◌||◌, List, [], length, take, drop, get_or, bytes_eq, Option, None, Some, is_some, is_ok, option_map}
use Rattle.lists.specs.Tests.{when◌then◌else◌, ◌<?◌, ◌≤?◌, ◌=?◌, all_at_most}
use Rattle.lists.specs.First.{first_below}
use Rattle.packets.specs.declared.Judgement.{Judgement}
use Rattle.packets.specs.declared.Judgement.TheVariants.{Wait, LongLength, WrongChecksum, Packet}
use Rattle.packets.specs.Packet.{content_most, padded}
use Rattle.packets.specs.Judge.{length_byte, judge}
use Rattle.table.specs.Table.{table, look_up, config_allowed}
use Rattle.verdict.specs.Verdict.{verdict_of}
use Rattle.panel.specs.State.{flash_size}
use Rattle.replies.specs.Replies.{version}
use Rattle.events.specs.Keys.{press_code}
use Rattle.reading.specs.declared.Meaning.{Meaning}
use Rattle.reading.specs.declared.Meaning.TheVariants.{Reply, ErrorReply, Report}
use Rattle.reading.specs.declared.Reading.{Reading}

-- how many data bytes the replies of commands 10, 24 and 35 have
abbrev pub memory_reply_size : ℕ
memory_reply_size = 9

abbrev pub poll_reply_size : ℕ
poll_reply_size = 3

abbrev pub pin_reply_size : ℕ
pin_reply_size = 4

-- 10: an address that the command allows and eight bytes; those of the glyphs, below 128, are rows of 0 to 63
unfoldable pub is_memory : List ℕ → Bool
is_memory d = (length d =? memory_reply_size) && is_ok (verdict_of 10 (take 1 d)) && ((128 ≤? get_or d 0 0) || all_at_most 63 (drop 1 d))

-- 24: down, pressed and released, of six keys
unfoldable pub is_poll : List ℕ → Bool
is_poll d = (length d =? poll_reply_size) && all_at_most 63 d

-- the edges and the config of a pin: "0 for pins 5 to 12, whose config is 0 too"
unfoldable pub is_wired : ℕ → ℕ → ℕ → Bool
is_wired pin edges config = when pin ≤? 4 then (edges ≤? 7) && config_allowed config else (edges =? 0) && (config =? 0)

-- 35: a pin that the command allows, its edges, a level of 0 to 100 and its config
unfoldable pub is_pin : List ℕ → Bool
is_pin d =
    (length d =? pin_reply_size) && is_ok (verdict_of 35 (take 1 d)) && (get_or d 2 0 ≤? 100) && is_wired (get_or d 0 0) (get_or d 1 0) (get_or d 3 0)

-- the data that a panel in its ranges can reply to a command: "A reply has type 64 + code and no data unless named."
unfoldable pub can_reply : ℕ → List ℕ → Bool
can_reply code d =
    when code =? 0 then true
    else when code =? 1 then bytes_eq d version
    else when code =? 3 then length d =? flash_size
    else when code =? 10 then is_memory d
    else when code =? 24 then is_poll d
    else when code =? 35 then is_pin d
    else is_some (look_up code table) && (length d =? 0)

-- the key that a press of this code reports: `press_code` read backwards
unfoldable pub key_pressed : ℕ → ℕ
key_pressed code = first_below (λ number. press_code number =? code) 6

-- "up 1, down 2, left 3, right 4, enter 5, cancel 6 for a press, plus 6 for a release"
unfoldable pub key_reported : ℕ → Option Meaning
key_reported code =
    when code =? 0 then None
    else when code ≤? 6 then Some (Report (key_pressed code) true)
    else when code ≤? 12 then Some (Report (key_pressed (code - 6)) false)
    else None

-- what a packet of a type and data means, or that no panel in its ranges writes it: type 64 + code is a reply, 128 with one data
-- byte a report, and 192 + code with none an error reply; command 0 is never refused
unfoldable pub meaning_of : ℕ → List ℕ → Option Meaning
meaning_of kind d =
    when kind <? 64 then None
    else when kind <? 128 then (when can_reply (kind - 64) d then Some (Reply (kind - 64)) else None)
    else when kind =? 128 then (when length d =? 1 then key_reported (get_or d 0 0) else None)
    else when kind ≤? 192 then None
    else when length d =? 0 then Some (ErrorReply (kind - 192))
    else None

-- "exactly one": the bytes are judged a packet, and none stands behind it
abbrev pub is_packet_found : Judgement → Bool
is_packet_found Wait = false
is_packet_found LongLength = false
is_packet_found WrongChecksum = false
is_packet_found Packet = true

unfoldable pub is_one_packet : List ℕ → Bool
is_one_packet bytes = is_packet_found (judge bytes) && (length bytes =? length_byte bytes + 4)

abbrev pub data_in : List ℕ → List ℕ
data_in bytes = take (length_byte bytes) (drop 2 bytes)

-- the values of a reply are its data; what is no reply has none
abbrev pub values_for : Meaning → List ℕ → List ℕ
values_for (Reply code) d = d
values_for (ErrorReply code) d = []
values_for (Report number down) d = []

abbrev pub reading_with : Meaning → List ℕ → Reading
reading_with m values = record { meaning = m; count = length values; values = padded content_most values }

-- a packet's meaning, with its values
abbrev pub reading_by : ℕ → List ℕ → Option Reading
reading_by kind d = option_map (λ m. reading_with m (values_for m d)) (meaning_of kind d)

unfoldable pub read_of : List ℕ → Option Reading
read_of bytes = when is_one_packet bytes then reading_by (get_or bytes 0 0) (data_in bytes) else None

-- what `read` promises
abbrev pub ReadsReply : List ℕ → Option Reading → Type 0
ReadsReply bytes r = r ≡ read_of bytes

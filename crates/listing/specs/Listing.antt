-- The lines that the program `recording` writes: each a form whose marks, "%", stand for numbers.
use Rattle.std.specs.Prelude.{ℕ, ◌+◌, ◌/◌, ◌%◌, List, [], ◌∷◌, ◌++◌, length, take}
use Rattle.lists.specs.Tests.{when◌then◌else◌, ◌<?◌, ◌=?◌}
use Rattle.wording.specs.Text.{mark, newline, FillsForm}
use Rattle.packets.specs.Packet.{content_most}

-- a hexadecimal digit's code: "0" and on, then "a" and on
abbrev pub hex_digit : ℕ → ℕ
hex_digit d = when d <? 10 then 48 + d else 87 + d

-- two digits a byte
unfoldable pub hex_text : List ℕ → List ℕ
hex_text [] = []
hex_text (b ∷ bytes) = hex_digit (b / 16) ∷ hex_digit (b % 16) ∷ hex_text bytes

-- "data in hexadecimal, or - for none"
unfoldable pub data_text : List ℕ → List ℕ
data_text content = when length content =? 0 then 45 ∷ [] else hex_text content

-- "packet entry offset type length data": five marks with a space behind each, and the data, 22 bytes at most
abbrev pub packet_marks : List ℕ
packet_marks = 37 ∷ 32 ∷ 37 ∷ 32 ∷ 37 ∷ 32 ∷ 37 ∷ 32 ∷ 37 ∷ 32 ∷ []

abbrev pub packet_form : List ℕ → List ℕ
packet_form content = packet_marks ++ data_text (take content_most content) ++ newline

-- "end packets ", " entries ", " bytes "
abbrev pub packets_word : List ℕ
packets_word = 101 ∷ 110 ∷ 100 ∷ 32 ∷ 112 ∷ 97 ∷ 99 ∷ 107 ∷ 101 ∷ 116 ∷ 115 ∷ 32 ∷ []

abbrev pub entries_word : List ℕ
entries_word = 32 ∷ 101 ∷ 110 ∷ 116 ∷ 114 ∷ 105 ∷ 101 ∷ 115 ∷ 32 ∷ []

abbrev pub bytes_word : List ℕ
bytes_word = 32 ∷ 98 ∷ 121 ∷ 116 ∷ 101 ∷ 115 ∷ 32 ∷ []

abbrev pub totals_form : List ℕ
totals_form = packets_word ++ mark ++ entries_word ++ mark ++ bytes_word ++ mark ++ newline

-- "refused "
abbrev pub refusal_form : List ℕ
refusal_form = 114 ∷ 101 ∷ 102 ∷ 117 ∷ 115 ∷ 101 ∷ 100 ∷ 32 ∷ 37 ∷ 10 ∷ []

-- what `packet`, `totals` and `refusal` promise of the buffer and the length
abbrev pub ListsPacket : List ℕ → ℕ → ℕ → ℕ → ℕ → List ℕ → ℕ → List ℕ → Type 0
ListsPacket out packet entry offset kind content r out' =
    FillsForm out (packet_form content) (packet ∷ entry ∷ offset ∷ kind ∷ length content ∷ []) r out'

abbrev pub ListsTotals : List ℕ → ℕ → ℕ → ℕ → ℕ → List ℕ → Type 0
ListsTotals out packets entries bytes r out' = FillsForm out totals_form (packets ∷ entries ∷ bytes ∷ []) r out'

abbrev pub ListsRefusal : List ℕ → ℕ → ℕ → List ℕ → Type 0
ListsRefusal out number r out' = FillsForm out refusal_form (number ∷ []) r out'

-- The judgement of the held bytes h at the oldest.
use Rattle.std.specs.Prelude.{ℕ, ◌+◌, ◌*◌, ◌≡◌, Bool, List, length, get_or, take}
use Rattle.lists.specs.Tests.{when◌then◌else◌, ◌<?◌, ◌=?◌}
use Rattle.packets.specs.declared.Judgement.{Judgement}
use Rattle.packets.specs.declared.Judgement.TheVariants.{Wait, LongLength, WrongChecksum, Packet}
use Rattle.fcs.specs.Fcs.{checksum}
use Rattle.packets.specs.Packet.{content_most}

-- the n of "type, length n"
abbrev pub length_byte : List ℕ → ℕ
length_byte h = get_or h 1 0

-- the checksum "over type, length and data" stands behind them "with its low byte first"
unfoldable pub checksum_right : List ℕ → Bool
checksum_right h =
    checksum (take (length_byte h + 2) h) =? get_or h (length_byte h + 2) 0 + 256 * get_or h (length_byte h + 3) 0

-- the five sentences of "Judgement at the oldest", in their order
unfoldable pub judge : List ℕ → Judgement
judge h =
    when length h <? 2 then Wait
    else when content_most <? length_byte h then LongLength
    else when length h <? length_byte h + 4 then Wait
    else when checksum_right h then Packet
    else WrongChecksum

-- what `judge` promises
abbrev pub Judges : List ℕ → Judgement → Type 0
Judges h r = r ≡ judge h

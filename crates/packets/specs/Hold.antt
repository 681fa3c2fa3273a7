-- The held bytes, oldest first, as a list and as the code has them.
use Rattle.std.specs.Prelude.{ℕ, ◌≡◌, List, [], length, take}
use Rattle.packets.specs.declared.Hold.{Hold}
use Rattle.packets.specs.Packet.{padded}

-- "at most 25 bytes are held"
abbrev pub held_most : ℕ
held_most = 25

abbrev pub held : Hold → List ℕ
held hold = take hold.count hold.bytes

-- zeros stand behind the count
abbrev pub hold_of : List ℕ → Hold
hold_of h = record { bytes = padded held_most h; count = length h }

-- what `empty` promises
abbrev pub HoldsNothing : Hold → Type 0
HoldsNothing r = r ≡ hold_of []

-- The next host packet of a recording from a place on.
use Rattle.std.specs.Prelude.{ℕ, suc, ◌+◌, ◌-◌, max, ◌≡◌, Bool, ◌&&◌, Option, Some, None, Result, Ok, Err, List, [], ◌∷◌, length, get_or, take, drop}
use Rattle.std.specs.Result.{result_and}
use Rattle.lists.specs.Tests.{when◌then◌else◌, ◌<?◌, ◌=?◌}
use Rattle.packets.specs.declared.Judgement.{Judgement}
use Rattle.packets.specs.declared.Judgement.TheVariants.{Wait, LongLength, WrongChecksum, Packet}
use Rattle.packets.specs.Judge.{judge}
use Rattle.recordings.specs.declared.Fault.{Fault}
use Rattle.recordings.specs.declared.Flaw.{Flaw}
use Rattle.recordings.specs.declared.Found.{Found}
use Rattle.recordings.specs.Recording.{entries_start, entry_head, direction, entry_end, entries_of, checked}

-- how many bytes of the line stand before its first packet, by the judgement at the oldest, where n is how many there are and
-- m what it is without the oldest; all of them where there is no packet
unfoldable pub before_at : Judgement → ℕ → ℕ → ℕ
before_at Wait n m = n
before_at LongLength n m = m
before_at WrongChecksum n m = m
before_at Packet n m = 0

unfoldable pub before : List ℕ → ℕ
before [] = 0
before (b ∷ line) = before_at (judge (b ∷ line)) (suc (length line)) (suc (before line))

-- where the look into an entry begins: a place inside its header, or before it, means its first byte
abbrev pub from_of : ℕ → ℕ → ℕ
from_of place at = max place (at + entry_head)

-- the bytes of an entry from there on
abbrev pub rest_of : List ℕ → ℕ → ℕ → List ℕ
rest_of r place at = take (entry_end r at - from_of place at) (drop (from_of place at) r)

-- whether it is a host entry that holds a packet from the place on
unfoldable pub holds_packet : List ℕ → ℕ → ℕ → Bool
holds_packet r place at =
    (direction r at =? 0) && (before (rest_of r place at) <? length (rest_of r place at))

-- the packet whose type stands at a place: its data bytes stand behind type and length, and its checksum behind them
abbrev pub packet_from : List ℕ → ℕ → Found
packet_from r at =
    record {
      kind = get_or r at 0;
      start = at + 2;
      length = get_or r (at + 1) 0;
      next = at + 2 + get_or r (at + 1) 0 + 2;
    }

-- what asking comes to where the recording is refused, and where there is no more
abbrev pub no_packet : Flaw → ℕ → Result (Option Found) Fault
no_packet flaw place = Err (record { flaw = flaw; place = place })

abbrev pub no_more : Result (Option Found) Fault
no_more = Ok None

-- what one entry has from the place on
unfoldable pub in_entry : List ℕ → ℕ → ℕ → Option Found
in_entry r place at =
    when holds_packet r place at then Some (packet_from r (from_of place at + before (rest_of r place at)))
    else None

-- the first of the entries that holds a packet
unfoldable pub first_packet : List ℕ → ℕ → List ℕ → Option Found
first_packet r place [] = None
first_packet r place (at ∷ more) = when holds_packet r place at then in_entry r place at else first_packet r place more

-- "The whole recording is checked before any packet is handed back."
unfoldable pub next_packet : List ℕ → ℕ → Result (Option Found) Fault
next_packet r place = result_and (checked r) (Ok (first_packet r place (entries_of r entries_start)))

-- what `in_entry` and `find` promise
abbrev pub FindsIn : List ℕ → ℕ → ℕ → Option Found → Type 0
FindsIn recording at place r = r ≡ in_entry recording place at

abbrev pub Finds : List ℕ → ℕ → Result (Option Found) Fault → Type 0
Finds recording place r = r ≡ next_packet recording place

-- A recording: "the mark PLR, a 16-bit version (low byte first, now 1), then entries of a direction byte (0 host, 1 panel), a
-- 16-bit length low byte first and that many bytes".
use Rattle.std.specs.Prelude.{ℕ, zero, suc, ◌+◌, ◌*◌, min, ◌≡◌, Bool, not, ◌&&◌, Result, Ok, Err, is_ok, List, [], ◌∷◌, length, get_or, drop}
use Rattle.std.specs.Borrow.{Bor}
use Rattle.std.specs.Result.{result_and}
use Rattle.lists.specs.Tests.{when◌then◌else◌, ◌<?◌, ◌≤?◌, ◌=?◌}
use Rattle.recordings.specs.declared.Fault.{Fault}
use Rattle.recordings.specs.declared.Flaw.{Flaw}
use Rattle.recordings.specs.declared.Flaw.TheVariants.{TooLong, Mark, Version, Direction, CutShort}
use Rattle.recordings.specs.declared.EntryPlaces.{EntryPlaces}

-- "up to 65,535 bytes"
abbrev pub recording_most : ℕ
recording_most = 65535

-- where the first entry stands, behind the mark and the version
abbrev pub entries_start : ℕ
entries_start = 5

-- the version stands behind the mark
abbrev pub version_place : ℕ
version_place = 3

-- an entry's bytes stand behind its direction byte and its length
abbrev pub entry_head : ℕ
entry_head = 3

-- 16 bits, low byte first; a byte past the end counts as 0
abbrev pub low16 : List ℕ → ℕ → ℕ
low16 r i = get_or r i 0 + 256 * get_or r (i + 1) 0

-- P, L and R
unfoldable pub marked : List ℕ → Bool
marked r = (get_or r 0 0 =? 80) && (get_or r 1 0 =? 76) && (get_or r 2 0 =? 82)

-- the version is there, and is 1
unfoldable pub versioned : List ℕ → Bool
versioned r = (entries_start ≤? length r) && (low16 r version_place =? 1)

-- an entry is told by the place of its direction byte
abbrev pub direction : List ℕ → ℕ → ℕ
direction r at = get_or r at 0

-- its direction byte, its length and "that many bytes"
abbrev pub entry_size : List ℕ → ℕ → ℕ
entry_size r at = entry_head + low16 r (at + 1)

unfoldable pub entry_end : List ℕ → ℕ → ℕ
entry_end r at = at + entry_size r at

-- the places of the entries from place at on, where the list holds the bytes from there and the first k of them belong to the
-- entry before
unfoldable pub entries_from : List ℕ → ℕ → ℕ → List ℕ → List ℕ
entries_from r at k [] = []
entries_from r at zero (b ∷ bytes) = at ∷ entries_from r (suc at) (low16 r (at + 1) + 2) bytes
entries_from r at (suc k) (b ∷ bytes) = entries_from r (suc at) k bytes

abbrev pub entries_of : List ℕ → ℕ → List ℕ
entries_of r at = entries_from r at 0 (drop at r)

-- the numbers of what is wrong: "22 file too long, 23 mark wrong or missing, 24 version unknown or missing, 25 bad direction,
-- 26 entry cut short"
abbrev pub flaw_number : Flaw → ℕ
flaw_number TooLong = 22
flaw_number Mark = 23
flaw_number Version = 24
flaw_number Direction = 25
flaw_number CutShort = 26

-- "25 bad direction, 26 entry cut short, in that order"
unfoldable pub entry_fault : List ℕ → ℕ → Result (Unit {0}) Flaw
entry_fault r at =
    when 1 <? direction r at then Err Direction
    else when length r <? entry_end r at then Err CutShort
    else Ok tt

-- "the last two at the first faulty entry"
unfoldable pub first_fault : List ℕ → List ℕ → Result (Unit {0}) Flaw
first_fault r [] = Ok tt
first_fault r (at ∷ more) = result_and (entry_fault r at) (first_fault r more)

-- "22 file too long, 23 mark wrong or missing, 24 version unknown or missing", then the entries
unfoldable pub recording_fault : List ℕ → Result (Unit {0}) Flaw
recording_fault r =
    when recording_most <? length r then Err TooLong
    else when not (marked r) then Err Mark
    else when not (versioned r) then Err Version
    else first_fault r (entries_of r entries_start)

-- the place of the first faulty entry; where there is none, the recording's end
unfoldable pub first_faulty : List ℕ → List ℕ → ℕ
first_faulty r [] = length r
first_faulty r (at ∷ more) = when is_ok (entry_fault r at) then first_faulty r more else at

-- at which byte it is wrong: the first byte too many, the mark, the version, or the faulty entry; where it is fine, its end
unfoldable pub faulty_place : List ℕ → ℕ
faulty_place r =
    when recording_most <? length r then recording_most
    else when not (marked r) then 0
    else when not (versioned r) then version_place
    else first_faulty r (entries_of r entries_start)

-- what is wrong, with its place
unfoldable pub fault_of : Result (Unit {0}) Flaw → ℕ → Result (Unit {0}) Fault
fault_of (Ok _) place = Ok tt
fault_of (Err flaw) place = Err (record { flaw = flaw; place = place })

abbrev pub entries_checked : List ℕ → List ℕ → Result (Unit {0}) Fault
entries_checked r entries = fault_of (first_fault r entries) (first_faulty r entries)

abbrev pub checked : List ℕ → Result (Unit {0}) Fault
checked r = fault_of (recording_fault r) (faulty_place r)

-- the places of the entries that an iterator over them has left
abbrev pub entries_left : EntryPlaces → List ℕ
entries_left s = entries_of s.recording.now s.at

-- what the conversion of a `Flaw` to its number promises
abbrev pub NumbersFlaw : Flaw → ℕ → Type 0
NumbersFlaw flaw r = r ≡ flaw_number flaw

-- what `check` promises
abbrev pub ChecksRecording : List ℕ → Result (Unit {0}) Fault → Type 0
ChecksRecording recording r = r ≡ checked recording

-- what `behind` promises: the place behind an entry, but not behind the recording
abbrev pub Passes : List ℕ → ℕ → ℕ → Type 0
Passes recording at r = r ≡ min (entry_end recording at) (length recording)

-- what `EntryPlaces::new` promises: all entries, and the recording itself
abbrev pub WalksEntries : Bor (List ℕ) → EntryPlaces → Type 0
WalksEntries recording r = (r.recording ≡ recording) × (r.at ≡ entries_start)

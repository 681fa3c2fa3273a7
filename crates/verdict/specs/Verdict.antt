-- Why a packet is refused: the first reason that applies, with its place.
use Rattle.std.specs.Prelude.{ℕ, ◌+◌, ◌-◌, ◌%◌, ◌≡◌, Bool, true, not, ◌&&◌, ◌||◌, List, length, get_or, Option, Some, None, Result, Ok, Err}
use Rattle.lists.specs.Tests.{when◌then◌else◌, ◌<?◌, ◌≤?◌, ◌=?◌}
use Rattle.lists.specs.First.{first_below}
use Rattle.table.specs.declared.Row.{Row}
use Rattle.table.specs.declared.Rule.{Rule}
use Rattle.table.specs.declared.Rule.TheVariants.{Free, UpTo, Glyph, Address, Place, Reboot, Pin}
use Rattle.verdict.specs.declared.Reason.{Reason}
use Rattle.verdict.specs.declared.Reason.TheVariants.{UnknownCommand, LengthNotAllowed, DataOutOfRange, PastColumn19, NotTheReboot}
use Rattle.verdict.specs.declared.Objection.{Objection}
use Rattle.table.specs.Table.{table, look_up, config_allowed}

-- whether the data byte at index i is in its range, by the column "data allowed"
unfoldable pub in_range : Rule → List ℕ → ℕ → Bool
in_range Free d i = true
in_range (UpTo most) d i = get_or d i 0 ≤? most
-- "index 0-7, rows 0-63"
in_range Glyph d i = when i =? 0 then get_or d i 0 ≤? 7 else get_or d i 0 ≤? 63
-- "64-120, or 128+32r+c, r 0-3, c 0-12"
in_range Address d i = (64 ≤? get_or d i 0) && (get_or d i 0 ≤? 120) || (128 ≤? get_or d i 0) && (get_or d i 0 % 32 ≤? 12)
-- "column 0-19, row 0-3, text"
in_range Place d i = when i =? 0 then get_or d i 0 ≤? 19 else when i =? 1 then get_or d i 0 ≤? 3 else true
-- "there is no reason 3 for it"
in_range Reboot d i = true
-- "pin 0-12, level 0-100, config"; a config "for pins 0 to 4 only"
in_range Pin d i =
    when i =? 0 then get_or d i 0 ≤? 12
    else when i =? 1 then get_or d i 0 ≤? 100
    else (get_or d 0 0 ≤? 4) && config_allowed (get_or d i 0)

-- the index of the first data byte out of range, or how many there are
unfoldable pub first_out : Rule → List ℕ → ℕ
first_out rule d = first_below (λ i. not (in_range rule d i)) (length d)

-- 8, 18, 99
unfoldable pub is_reboot : List ℕ → Bool
is_reboot d = (length d =? 3) && (get_or d 0 0 =? 8) && (get_or d 1 0 =? 18) && (get_or d 2 0 =? 99)

-- a refusal with its reason and its place; a packet that is not refused is `Ok`
abbrev pub refused : Reason → ℕ → Result (Unit {0}) Objection
refused reason place = Err (record { reason = reason; place = place })

-- reasons 4 and 5: "command 31's text passes column 19, place 24 - column"; "command 5's three bytes differ from 8, 18,
-- 99, place 2"
unfoldable pub whole_verdict : Rule → List ℕ → Result (Unit {0}) Objection
whole_verdict Free d = Ok tt
whole_verdict (UpTo most) d = Ok tt
whole_verdict Glyph d = Ok tt
whole_verdict Address d = Ok tt
whole_verdict Place d = when 20 <? get_or d 0 0 + (length d - 2) then refused PastColumn19 (24 - get_or d 0 0) else Ok tt
whole_verdict Reboot d = when is_reboot d then Ok tt else refused NotTheReboot 2
whole_verdict Pin d = Ok tt

-- "First that applies: reason 1, unknown command, place 0. Reason 2, length not allowed, place 1. Reason 3, a data byte
-- out of range, the first such, place 2 + its index." Then reasons 4 and 5.
unfoldable pub verdict_by : Option Row → List ℕ → Result (Unit {0}) Objection
verdict_by None d = refused UnknownCommand 0
verdict_by (Some r) d =
    when (length d <? r.shortest) || (r.longest <? length d) then refused LengthNotAllowed 1
    else when first_out r.rule d <? length d then refused DataOutOfRange (2 + first_out r.rule d)
    else whole_verdict r.rule d

abbrev pub verdict_of : ℕ → List ℕ → Result (Unit {0}) Objection
verdict_of code d = verdict_by (look_up code table) d

-- document 01's number of a reason
abbrev pub reason_number : Reason → ℕ
reason_number UnknownCommand = 1
reason_number LengthNotAllowed = 2
reason_number DataOutOfRange = 3
reason_number PastColumn19 = 4
reason_number NotTheReboot = 5

-- what a reason as a number promises
abbrev pub GivesNumber : Reason → ℕ → Type 0
GivesNumber reason r = r ≡ reason_number reason

-- what `verdict_on` promises
abbrev pub Rules : ℕ → List ℕ → Result (Unit {0}) Objection → Type 0
Rules code d r = r ≡ verdict_of code d

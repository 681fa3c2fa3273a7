-- What the call on a recording promises of its number and of the numbers that are lent to it.
use Rattle.std.specs.Prelude.{ℕ, ◌+◌, ◌-◌, ◌≤◌, ◌≡◌, Option, Some, None, Result, Ok, Err, List, length, get_or}
use Rattle.recordings.specs.declared.Fault.{Fault}
use Rattle.recordings.specs.declared.Found.{Found}
use Rattle.recordings.specs.Recording.{flaw_number}
use Rattle.recordings.specs.Next.{next_packet}

-- the number that is told: 1 there is no more, 3 a packet, or that of what is wrong
abbrev pub answer_number : Result (Option Found) Fault → ℕ
answer_number (Ok None) = 1
answer_number (Ok (Some f)) = 3
answer_number (Err fault) = flaw_number fault.flaw

-- a lent number afterwards: that of the packet, or as it came where there is none
abbrev pub or_as_came : Result (Option Found) Fault → (Found → ℕ) → ℕ → ℕ
or_as_came (Ok (Some f)) found came = found f
or_as_came (Ok None) found came = came
or_as_came (Err fault) found came = came

pub record NextTold (f : Result (Option Found) Fault) (place kind start length r place' kind' start' length' : ℕ) : Type 0 where
  pub number : r ≡ answer_number f
  pub next : place' ≡ or_as_came f (λ f. f.next) place
  pub type : kind' ≡ or_as_came f (λ f. f.kind) kind
  pub at : start' ≡ or_as_came f (λ f. f.start) start
  pub size : length' ≡ or_as_came f (λ f. f.length) length

-- what `naupelys_recording_next` promises
abbrev pub TellsNext : List ℕ → ℕ → ℕ → ℕ → ℕ → ℕ → ℕ → ℕ → ℕ → ℕ → Type 0
TellsNext recording place kind start length r place' kind' start' length' =
    NextTold (next_packet recording place) place kind start length r place' kind' start' length'

-- a packet that is told is the recording's own: its type and its length stand in the two bytes before its data, and the data and the
-- checksum behind them end inside the recording
pub record OwnBytes (recording : List ℕ) (kind start n : ℕ) : Type 0 where
  pub ahead : 2 ≤ start
  pub type : kind ≡ get_or recording (start - 2) 0
  pub size : n ≡ get_or recording (start - 1) 0
  pub inside : start + n + 2 ≤ length recording

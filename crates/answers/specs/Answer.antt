-- What a call says, in document 01's numbers.
use Rattle.std.specs.Prelude.{ℕ, ◌≡◌, Bool, true, false, Option, Some, None}
use Rattle.filing.specs.declared.Refusal.{Refusal}
use Rattle.framing.specs.declared.Counts.{Counts}
use Rattle.panel.specs.declared.Panel.{Panel}
use Rattle.panel.specs.State.{line_unfiled}
use Rattle.verdict.specs.Verdict.{reason_number}
use Rattle.answers.specs.declared.Check.{Check}
use Rattle.answers.specs.declared.Check.TheVariants.{StateRange, PieceSize, PictureSize, FontSize, ListSize, ReplySize, RegisterSize, KeyOrPin, KeyAsTold, GlyphNumber}
use Rattle.answers.specs.declared.Answer.{Answer}
use Rattle.answers.specs.declared.Answer.TheVariants.{Waiting, Stray, Done, Refused, CallRefused}
use Rattle.answers.specs.declared.Said.{Said}
use Rattle.answers.specs.declared.Numbers.{Numbers}

-- the table of "What a call says", from 10 on; "27 glyph above 7" (document 02, order 4)
unfoldable pub check_number : Check → ℕ
check_number StateRange = 10
check_number PieceSize = 11
check_number PictureSize = 12
check_number FontSize = 13
check_number ListSize = 14
check_number ReplySize = 15
check_number RegisterSize = 16
check_number KeyOrPin = 17
check_number KeyAsTold = 18
check_number GlyphNumber = 27

abbrev pub numbered : ℕ → ℕ → Numbers
numbered number command = record { number = number; command = command; reason = 0; place = 0 }

-- the whole table: "An answer without a command, reason or place gives 0 for it."
unfoldable pub numbers_of : Answer → Numbers
numbers_of Waiting = numbered 1 0
numbers_of (Stray command) = numbered 2 command
numbers_of (Done command) = numbered 3 command
numbers_of (Refused command reason place) = record { number = 4; command = command; reason = reason_number reason; place = place }
numbers_of (CallRefused check) = numbered (check_number check) 0

-- 3: "done"
unfoldable pub is_done : Answer → Bool
is_done Waiting = false
is_done (Stray command) = false
is_done (Done command) = true
is_done (Refused command reason place) = false
is_done (CallRefused check) = false

-- "packet refused, with reason and place": what is to be filed
abbrev pub filing_of : Answer → Option Refusal
filing_of Waiting = None
filing_of (Stray command) = None
filing_of (Done command) = None
filing_of (Refused command reason place) = Some (record { command = command; reason = reason_number reason; place = place })
filing_of (CallRefused check) = None

-- "all counts 0"
abbrev pub no_counts : Counts
no_counts = record { taken = 0; dropped = 0; checked = 0 }

-- a call that takes nothing of the line: all counts 0, no cells listed, and a reply of some length
abbrev pub nothing_taken : Panel → Answer → ℕ → Said
nothing_taken p a reply = record { panel = p; answer = a; counts = no_counts; reply = reply; listed = 0 }

-- "'Nothing' means state unchanged, all counts 0, no cells listed."
abbrev pub refused_call : Panel → Check → Said
refused_call p check = nothing_taken p (CallRefused check) 0

-- "An accepted key, pin or power-on call answers 3."
abbrev pub accepted_call : Panel → ℕ → Said
accepted_call p reply = nothing_taken p (Done 0) reply

-- what a call says, with another unfiled number
abbrev pub with_unfiled : Said → ℕ → Said
with_unfiled s n =
    record {
      panel = record { line = line_unfiled s.panel.line n; body = s.panel.body };
      answer = s.answer;
      counts = s.counts;
      reply = s.reply;
      listed = s.listed;
    }

-- what a check's conversion to its number promises
abbrev pub NumbersCheck : Check → ℕ → Type 0
NumbersCheck check n = n ≡ check_number check

-- what `told` promises
abbrev pub Tells : Answer → Numbers → Type 0
Tells a r = r ≡ numbers_of a

-- what `to_file` promises
abbrev pub Hands : Answer → Option Refusal → Type 0
Hands a r = r ≡ filing_of a

-- what `nothing_taken` promises
abbrev pub TakesNothing : Panel → Answer → ℕ → Said → Type 0
TakesNothing p a reply r = r ≡ nothing_taken p a reply

-- The one definition of a command's code and values, read backwards.
use Rattle.std.specs.Prelude.{ℕ, ◌≡◌, Bool, true, false, ◌&&◌, List, [], ◌∷◌, length, get_or, Option, Some, None, Result, Ok, Err}
use Rattle.lists.specs.Tests.{when◌then◌else◌, ◌≤?◌, ◌=?◌}
use Rattle.verdict.specs.declared.Objection.{Objection}
use Rattle.verdict.specs.Verdict.{verdict_of}
use Rattle.commands.specs.declared.Command.{Command}
use Rattle.commands.specs.declared.Command.TheVariants.{Ping, Version, WriteFlash, ReadFlash, StoreBoot, Reboot, Clear, SetGlyph, ReadMemory, SetCursor, SetStyle, SetContrast, SetBacklight, SetMasks, Poll, WriteText, SetPin, ConfigurePin, ReadPin}
use Rattle.commands.specs.Commands.{Form, exactly, followed, form_of}

-- whether a code and so many data bytes have this form
abbrev pub has_form : ℕ → ℕ → Form → Bool
has_form code n (exactly c values) = (code =? c) && (n =? length values)
has_form code n (followed c values) = (code =? c) && (length values ≤? n)

-- whether bytes follow the values of a form
abbrev pub follows : Form → Bool
follows (exactly c values) = false
follows (followed c values) = true

-- each command once, with its values from a, b and c
abbrev pub candidates : ℕ → ℕ → ℕ → List Command
candidates a b c =
    Ping
    ∷ Version
    ∷ WriteFlash
    ∷ ReadFlash
    ∷ StoreBoot
    ∷ Reboot
    ∷ Clear
    ∷ SetGlyph a
    ∷ ReadMemory a
    ∷ SetCursor a b
    ∷ SetStyle a
    ∷ SetContrast a
    ∷ SetBacklight a
    ∷ SetMasks a b
    ∷ Poll
    ∷ WriteText a b
    ∷ SetPin a b
    ∷ ConfigurePin a b c
    ∷ ReadPin a
    ∷ []

-- the first of them with that code and so many data bytes
unfoldable pub first_with : ℕ → ℕ → List Command → Option Command
first_with code n [] = None
first_with code n (c ∷ cs) = when has_form code n (form_of c) then Some c else first_with code n cs

-- the command of a code and data that the panel allows
unfoldable pub named_by : Result (Unit {0}) Objection → ℕ → List ℕ → Option Command
named_by (Ok _) code d = first_with code (length d) (candidates (get_or d 0 0) (get_or d 1 0) (get_or d 2 0))
named_by (Err o) code d = None

-- what `command_of` promises
abbrev pub ReadsCommand : ℕ → List ℕ → Option Command → Type 0
ReadsCommand code d r = r ≡ named_by (verdict_of code d) code d

-- What holds of a command read backwards over and above the function's own promise.
use Prim.Native.Nat.{ℕ, suc}
use mathlib.Core.Path.{◌≡◌, refl, ◌∙◌}
use mathlib.Core.Bool.{true, false≢true}
use mathlib.Core.List.{List}
use native.Mathlib.Omega.{arith}
use lib.ListN.{length, get_or}
use lib.Seq.{drop_at}
use borrow.Author.Tests.{le-leb}
use Rattle.std.specs.Prelude.{Option, Some, Ok}
use Rattle.lists.specs.Promise.{Determined}
use Rattle.lists.specs.Tests.{when◌then◌else◌}
use Rattle.lists.proofs.Theorems.{one}
use Rattle.verdict.specs.Verdict.{verdict_of}
use Rattle.composer.specs.declared.Written.{Written}
use Rattle.composer.proofs.Ways.{written_allowed}
use Rattle.commands.specs.declared.Command.{Command}
use Rattle.commands.specs.declared.Command.TheVariants.{Ping, Version, WriteFlash, ReadFlash, StoreBoot, Reboot, Clear, SetGlyph, ReadMemory, SetCursor, SetStyle, SetContrast, SetBacklight, SetMasks, Poll, WriteText, SetPin, ConfigurePin, ReadPin}
use Rattle.commandreads.proofs.Names.{named}
use Rattle.commands.specs.Commands.{Form, exactly, followed, form_of, form_data, form_bytes, code_of, data_of, bytes_in, ComposesCommand, ReadsBytes}
use Rattle.commandreads.specs.Backwards.{follows, candidates, first_with, named_by, ReadsCommand}

-- Any two results that the promise allows are equal.
pub command_of_determined : (code : ℕ) (d : List ℕ) → Determined (ReadsCommand code d)
command_of_determined code d = one _

-- the form of a command read backwards: no other command has its code and its number of data bytes
found_again : (c : Command) (bytes : List ℕ)
    → let d = data_of c bytes in first_with (code_of c) (length d) (candidates (get_or d 0 0) (get_or d 1 0) (get_or d 2 0)) ≡ Some c
unfolding first_with form_of when◌then◌else◌
found_again Ping bytes = rw (le-leb 0 (length bytes) (omega arith))
found_again Version bytes = refl
found_again WriteFlash bytes = rw (le-leb 0 (length bytes) (omega arith))
found_again ReadFlash bytes = refl
found_again StoreBoot bytes = refl
found_again Reboot bytes = refl
found_again Clear bytes = refl
found_again (SetGlyph index) bytes = rw (le-leb 1 (suc (length bytes)) (omega arith))
found_again (ReadMemory address) bytes = refl
found_again (SetCursor column row) bytes = refl
found_again (SetStyle style) bytes = refl
found_again (SetContrast contrast) bytes = refl
found_again (SetBacklight backlight) bytes = refl
found_again (SetMasks press release) bytes = refl
found_again Poll bytes = refl
found_again (WriteText column row) bytes = rw (le-leb 2 (suc (suc (length bytes))) (omega arith))
found_again (SetPin pin level) bytes = refl
found_again (ConfigurePin pin level config) bytes = refl
found_again (ReadPin pin) bytes = refl

bytes_again : (f : Form) (bytes : List ℕ) → follows f ≡ true → form_bytes f (form_data f bytes) ≡ bytes
bytes_again (exactly code values) bytes t = absurd (false≢true t)
bytes_again (followed code values) bytes t = drop_at values bytes (length values) refl

-- The value read backwards from what was composed is the value that it was composed from: the command, and the bytes beside it
-- where it takes some.
pub values_come_back : (packet : List ℕ) (c : Command) (bytes : List ℕ) (w : Written) (packet' : List ℕ) → ComposesCommand packet c bytes (Ok w) packet'
    → (r : Option Command) → ReadsCommand (code_of c) (data_of c bytes) r → (r ≡ Some c) × (follows (form_of c) ≡ true → (b : List ℕ) → ReadsBytes c (data_of c bytes) b → b ≡ bytes)
unfolding named_by
values_come_back packet c bytes w packet' composed r e =
    let v = written_allowed packet (code_of c) (data_of c bytes) w packet' composed in
    (e ∙ rw v (found_again c bytes), λ t b q. q ∙ bytes_again (form_of c) bytes t)

-- And the other way round: every packet that the panel allows is a command's, and composed again from what is read backwards it has
-- the same code and data.
pub allowed_is_a_command : (code : ℕ) (d : List ℕ) → verdict_of code d ≡ Ok tt
    → (c : Command) × ((named_by (verdict_of code d) code d ≡ Some c) × ((code_of c ≡ code) × (data_of c (bytes_in c d) ≡ d)))
unfolding named_by
allowed_is_a_command code d v = let n = named code d v in (n.0, (rw v n.1.0, n.1.1))

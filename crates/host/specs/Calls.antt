-- What a composer for C says and promises: the tables of include/naupelys_host.h.
use Rattle.std.specs.Prelude.{ℕ, ◌≡◌, List, Result, Ok, Err}
use Rattle.answers.specs.declared.Answer.TheVariants as answers
use Rattle.answers.specs.declared.Numbers.{Numbers}
use Rattle.answers.specs.Answer.{numbered, numbers_of, no_counts}
use Rattle.saidbytes.specs.Says.{said_bytes}
use Rattle.composer.specs.declared.Written.{Written}
use Rattle.composer.specs.declared.ComposeError.{ComposeError}
use Rattle.composer.specs.declared.ComposeError.TheVariants.{BufferSize, Refused}
use Rattle.composer.specs.Compose.{composing, packet_by}
use Rattle.commands.specs.declared.Command.{Command}
use Rattle.commands.specs.Commands.{code_of, data_of}

-- a composer's answer in the papers' numbers: "21, the composer's buffer not 26 bytes"; a refused packet and a done command are
-- told as the panel tells them
unfoldable pub compose_numbers : Result Written ComposeError → Numbers
compose_numbers (Ok w) = numbers_of (answers.Done w.command)
compose_numbers (Err BufferSize) = numbered 21 0
compose_numbers (Err (Refused command reason place)) = numbers_of (answers.Refused command reason place)

-- the packet's length, 0 where none is written
unfoldable pub packet_length : Result Written ComposeError → ℕ
packet_length (Ok w) = w.size
packet_length (Err e) = 0

-- the 16 bytes, placed as in what the panel's calls say
abbrev pub compose_said : Result Written ComposeError → List ℕ
compose_said r = said_bytes (compose_numbers r) no_counts (packet_length r) 0

-- what `told` promises of the number that it returns and of the 16 bytes
abbrev pub TellsComposing : Result Written ComposeError → ℕ → List ℕ → Type 0
TellsComposing r n said' = (n ≡ (compose_numbers r).number) × (said' ≡ compose_said r)

-- what `naupelys_compose` promises of the number that it returns, of the packet's buffer and of the 16 bytes
abbrev pub ComposeBytes : ℕ → (d packet : List ℕ) → ℕ → List ℕ → List ℕ → Type 0
ComposeBytes code d packet n packet' said' =
    (packet' ≡ packet_by (composing packet code d) code d packet) × TellsComposing (composing packet code d) n said'

-- what `command` and the named composers promise: what the general one does of the command's code and data
abbrev pub CommandBytes : Command → (bytes packet : List ℕ) → ℕ → List ℕ → List ℕ → Type 0
CommandBytes c bytes = ComposeBytes (code_of c) (data_of c bytes)

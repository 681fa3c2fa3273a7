-- What the functions over the run of records promise.
use Rattle.std.specs.Prelude.{ℕ, ◌<◌, ◌≡◌, Option, MatchOption, List, length}
use Rattle.filing.specs.declared.Record.{Record}
use Rattle.filing.specs.declared.Refusal.{Refusal}
use Rattle.filing.specs.Filing.{slot, filed_if}
use Rattle.register.specs.declared.run.FiledIn.{FiledIn}

-- what `find` promises: `slot`, where that is inside the register
abbrev pub FindsSlot : List Record → Refusal → Option ℕ → Type 0
FindsSlot register k r =
    MatchOption r (slot k register ≡ length register) (λ i. (slot k register ≡ i) × (i < length register))

-- what `file` promises of the unfiled number that it returns and of the register
abbrev pub FilesIn : List Record → Option Refusal → ℕ → ℕ → List Record → Type 0
FilesIn register refusal unfiled r register' =
    (r ≡ (filed_if refusal (record { register = register; unfiled = unfiled })).unfiled)
    × (register' ≡ (filed_if refusal (record { register = register; unfiled = unfiled })).register)

-- what `file_in` promises
abbrev pub FilesBack : List Record → Option Refusal → ℕ → FiledIn → Type 0
FilesBack register refusal unfiled r =
    let f = filed_if refusal (record { register = register; unfiled = unfiled }) in
    r ≡ record { register = f.register; unfiled = f.unfiled }

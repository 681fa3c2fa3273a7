-- Filing a refusal in the fault register.
use Rattle.std.specs.Prelude.{ℕ, ◌+◌, min, ◌≡◌, Bool, not, ◌&&◌, Option, None, Some, List, [], ◌∷◌, length, get_or, set, replicate}
use Rattle.lists.specs.Tests.{when◌then◌else◌, ◌<?◌, ◌=?◌}
use Rattle.lists.specs.First.{first_below}
use Rattle.filing.specs.declared.Record.{Record}
use Rattle.filing.specs.declared.Refusal.{Refusal}
use Rattle.filing.specs.declared.Filed.{Filed}

-- the register, and the panel's own number of what could not be filed
pub record Files : Type 0 where
  pub register : List Record
  pub unfiled : ℕ

abbrev pub blank : Record
blank = record { command = 0; reason = 0; place = 0; count = 0 }

-- "a run of 64 records"
abbrev pub register_records : ℕ
register_records = 64

abbrev pub most : ℕ
most = 4294967295

-- "count 0 is a free record"
abbrev pub is_free : Record → Bool
is_free r = r.count =? 0

-- "in use with its key"
abbrev pub is_with : Refusal → Record → Bool
is_with k r = not (is_free r) && (r.command =? k.command) && (r.reason =? k.reason) && (r.place =? k.place)

-- the first of the records that passes a test, or how many there are
abbrev pub first_record : (Record → Bool) → List Record → ℕ → ℕ
first_record test records n = first_below (λ i. test (get_or records i blank)) n

-- "the first record in use with its key, else .. the first free one", or else past the end
unfoldable pub slot : Refusal → List Record → ℕ
slot k records =
    when first_record (is_with k) records (length records) <? length records then first_record (is_with k) records (length records)
    else first_record is_free records (length records)

-- "stops there too"
abbrev pub unfiled_more : ℕ → ℕ
unfiled_more unfiled = min (unfiled + 1) most

-- a record that is free or has the key: "adds 1", or "takes .. with a count of 1", which for a count of 0 is the same; with
-- "the count found at 4,294,967,295, it adds 1 to the panel's own unfiled number"
unfoldable pub filed_in : Refusal → Record → ℕ → Filed
filed_in k r unfiled =
    when r.count <? most
    then record { fault = record { command = k.command; reason = k.reason; place = k.place; count = r.count + 1 }; unfiled = unfiled }
    else record { fault = r; unfiled = unfiled_more unfiled }

-- the refusal filed in the record at i, or, past the end, unfiled
unfoldable pub filed_at : Refusal → ℕ → Files → Files
filed_at k i f =
    when i <? length f.register then (
    let q = filed_in k (get_or f.register i blank) f.unfiled in
    record { register = set f.register i q.fault; unfiled = q.unfiled }
    ) else record { register = f.register; unfiled = unfiled_more f.unfiled }

-- a refusal filed
unfoldable pub filed : Refusal → Files → Files
filed k f = filed_at k (slot k f.register) f

-- what a call does to the register: a refusal filed where there is one
unfoldable pub filed_if : Option Refusal → Files → Files
filed_if None f = f
filed_if (Some k) f = filed k f

-- refusals filed one after the other
unfoldable pub filed_all : List Refusal → Files → Files
filed_all [] f = f
filed_all (k ∷ ks) f = filed_all ks (filed k f)

-- the counts of all records, and with the unfiled number
unfoldable pub counts : List Record → ℕ
counts [] = 0
counts (r ∷ records) = r.count + counts records

abbrev pub total : Files → ℕ
total f = counts f.register + f.unfiled

-- what `filed_in` promises
abbrev pub FilesOne : Refusal → Record → ℕ → Filed → Type 0
FilesOne k r unfiled q = q ≡ filed_in k r unfiled

-- what `unfiled_more` promises
abbrev pub Unfiles : ℕ → ℕ → Type 0
Unfiles unfiled r = r ≡ unfiled_more unfiled

-- what `empty` promises
abbrev pub Empties : List Record → Type 0
Empties r = r ≡ replicate register_records blank

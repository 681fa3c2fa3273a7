-- What holds of the register's bytes over and above the functions' own promises.
use Prim.Native.Nat.{ℕ, ◌*◌, ◌<◌}
use mathlib.Core.Path.{◌≡◌, refl, sym, ◌∙◌, ap}
use mathlib.Core.Bool.{Bool, true, false}
use mathlib.Core.List.{List, [], ◌∷◌, map, map-map, map-id}
use native.Mathlib.Omega.{arith}
use borrow.Author.Tests.{eq-eqb}
use lib.ListN.{length, get_or, length-map, length-replicate}
use lib.Seq.{take_all}
use Rattle.lists.specs.Tests.{when◌then◌else◌}
use Rattle.lists.specs.Promise.{Determined}
use Rattle.lists.proofs.Laws.{when_true, when_either}
use Rattle.lists.proofs.Theorems.{one}
use Rattle.shapes.specs.Shape.{◌&◌, Value, bytes, value, size, places, Fits, Each, Bytes}
use Rattle.shapes.proofs.Rows.{each_at, each_mapped, length-collected}
use Rattle.shapes.proofs.Laws.{read_back, written_back}
use Rattle.filing.specs.declared.Record.{Record}
use Rattle.filing.specs.Filing.{blank}
use Rattle.registerbytes.specs.Register.{record_shape, record_parts, record_from, register_shape, register_size, is_register, register_bytes, records_lent, register_of, ReadsRegister, WritesRegister}
use Rattle.registerbytes.proofs.Records.{length-written}

-- The places, computed: the numbers of the table in include/naupelys.h.
pub register_size_lem : register_size ≡ 448
register_size_lem = refl

pub record_places : places record_shape 0 ≡ 0 ∷ 1 ∷ 2 ∷ 3 ∷ []
record_places = refl

-- the record of the parts of a record is that record
parts_back : (records : List Record) → map record_from (map record_parts records) ≡ records
parts_back records = map-map record_from record_parts records ∙ map-id records

from_back : (parts : List (Value record_shape)) → map record_parts (map record_from parts) ≡ parts
from_back [] = refl
from_back ((command & reason & place & count) ∷ parts) = λ i. (command & reason & place & count) ∷ from_back parts i

pub length-register : (records : List Record) → length records ≡ 64 → length (register_bytes records) ≡ register_size
length-register records e = length-written records ∙ ap (λ (n : ℕ). n * size record_shape) e

pub length_read : (b : List ℕ) → length (register_of b) ≡ 64
unfolding register_of value
length_read b =
    when_either (λ (l : List Record). length l ≡ 64) (is_register b) _ _
    (λ _. length-map (value register_shape b 0) record_from ∙ length-collected (size record_shape) (value record_shape b) 64 0) (λ _. length-replicate 64 blank)

-- Lent bytes that are a register are its 64 records; others are none.
pub length-lent : (b : List ℕ) → length (records_lent b) ≡ when is_register b then 64 else 0
unfolding records_lent value when◌then◌else◌
length-lent b = go (is_register b)
  where
    go : (t : Bool) → length (when t then map record_from (value register_shape b 0) else []) ≡ when t then 64 else 0
    go true = length-map (value register_shape b 0) record_from ∙ length-collected (size record_shape) (value record_shape b) 64 0
    go false = refl

pub lent_is_read : (b : List ℕ) → length b ≡ register_size → records_lent b ≡ register_of b
unfolding records_lent register_of
lent_is_read b e = let t = eq-eqb (length b) register_size e in when_true _ _ _ t ∙ sym (when_true _ _ _ t)

-- 64 records written as bytes and read again are the same records.
pub register_read_back : (records : List Record) → length records ≡ 64 → ((i : ℕ) → i < 64 → (get_or records i blank).count < 4294967296)
    → register_of (register_bytes records) ≡ records
unfolding register_of register_bytes
register_read_back records e fits =
    let each : Each (λ (r : Record). r.count < 4294967296) records = each_at _ blank records (λ i h. fits i (omega arith)) in
    let parts = each_mapped (Fits record_shape) record_parts (λ (r : Record) (h : r.count < 4294967296). (tt, (tt, (tt, h)))) records each in
    when_true _ _ _ (eq-eqb _ register_size (length-register records e))
    ∙ ap (map record_from) (read_back register_shape (map record_parts records) (length-map records record_parts ∙ e, parts))
    ∙ parts_back records

pub lent_read_back : (records : List Record) → length records ≡ 64 → ((i : ℕ) → i < 64 → (get_or records i blank).count < 4294967296)
    → records_lent (register_bytes records) ≡ records
lent_read_back records e fits = lent_is_read (register_bytes records) (length-register records e) ∙ register_read_back records e fits

-- Bytes that are a register, read as records and written again, are the same bytes.
pub register_written_back : (b : List ℕ) → length b ≡ register_size → Bytes b → register_bytes (register_of b) ≡ b
unfolding register_of register_bytes
register_written_back b e small =
    ap (λ (records : List Record). bytes register_shape (map record_parts records)) (when_true _ _ _ (eq-eqb _ register_size e))
    ∙ ap (bytes register_shape) (from_back (value register_shape b 0))
    ∙ written_back register_shape b 0 (omega arith) small
    ∙ take_all register_size b (omega arith)

-- For each public function, any two results that its promise allows are equal, the lent bytes included.
pub register_read_determined : (faults : List ℕ) → Determined (ReadsRegister faults)
register_read_determined faults = one _

pub register_write_determined : (faults : List ℕ) (records : List Record) → Determined (WritesRegister faults records)
register_write_determined faults records = one _

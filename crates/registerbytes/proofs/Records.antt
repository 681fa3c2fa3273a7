-- Laws of records and their bytes, one record at a time.
use Rattle.std.specs.List.{range_with_len}
use mathlib.Core.Path.{◌≡◌, refl, sym, ◌∙◌, ap}
use mathlib.Core.List.{List, [], ◌∷◌, ◌++◌, map, map-append}
use Prim.Native.Nat.{ℕ, zero, suc, ◌+◌, ◌*◌, ◌<◌, ◌≤◌}
use native.Mathlib.Numerals.{add-one}
use native.Mathlib.Omega.{arith}
use lib.ListN.{length, take, get_or, length-map}
use lib.Seq.{take-suc, length-take-le}
use Rattle.lists.specs.Runs.{front, pasted}
use Rattle.lists.proofs.Laws.{front_run}
use Rattle.shapes.specs.Words.{word_of}
use Rattle.shapes.specs.Shape.{bytes, value, size, collected, joined, Sized, Each}
use Rattle.shapes.proofs.Rows.{joined_more, length-joined}
use Rattle.shapes.proofs.Laws.{length-bytes}
use Rattle.filing.specs.declared.Record.{Record}
use Rattle.filing.specs.Filing.{blank}
use Rattle.registerbytes.specs.Register.{record_shape, record_parts, record_at, register_bytes}

-- a record, byte by byte
pub bytes_of_record : (b : List ℕ) (k : ℕ)
    → record_at b k
    ≡ record {
      command = get_or b k 0;
      reason = get_or b (k + 1) 0;
      place = get_or b (k + 2) 0;
      count = word_of (get_or b (k + 3) 0) (get_or b (k + 4) 0) (get_or b (k + 5) 0) (get_or b (k + 6) 0);
    }
unfolding value
bytes_of_record b k =
    let second : k + 1 + 1 ≡ k + 2 = omega arith in
    let third : k + 2 + 1 ≡ k + 3 = omega arith in
    let fourth : k + 3 + 1 ≡ k + 4 = omega arith in
    let fifth : k + 3 + 2 ≡ k + 5 = omega arith in
    let sixth : k + 3 + 3 ≡ k + 6 = omega arith in
    rw (second, third, fourth, fifth, sixth)

pub all_sized : (records : List Record) → Each (Sized record_shape) (map record_parts records)
all_sized [] = tt
all_sized (r ∷ records) = ((tt, (tt, (tt, tt))), all_sized records)

pub length-written : (records : List Record) → length (register_bytes records) ≡ length records * size record_shape
unfolding register_bytes bytes
length-written records =
    length-joined (size record_shape) (bytes record_shape) (Sized record_shape) (length-bytes record_shape) (map record_parts records) (all_sized records)
    ∙ ap (λ (n : ℕ). n * size record_shape) (length-map records record_parts)

-- one record more
pub written_more : (records : List Record) (r : Record) → register_bytes (records ++ r ∷ []) ≡ register_bytes records ++ bytes record_shape (record_parts r)
unfolding register_bytes bytes
written_more records r =
    ap (joined (bytes record_shape)) (map-append record_parts records (r ∷ [])) ∙ joined_more (bytes record_shape) (map record_parts records) (record_parts r)

-- the records at n places, one record apart
pub records_collected : (b : List ℕ) (n a : ℕ) → map (λ i. record_at b (i * size record_shape)) (range_with_len a n) ≡ collected (record_at b) n (a * size record_shape) (size record_shape)
unfolding collected
records_collected b zero a = refl
records_collected b (suc n) a =
    let e : (a + 1) * size record_shape ≡ a * size record_shape + size record_shape = omega arith in
    let more = rw e at (records_collected b n (a + 1)) in
    λ i. record_at b (a * size record_shape) ∷ more i

-- one record more is written
pub write_turn : (n : ℕ) (records : List Record) (o : List ℕ) → n < length records → n * size record_shape + size record_shape ≤ length o
    → pasted (front (register_bytes (take n records)) o) (n * size record_shape) (bytes record_shape (record_parts (get_or records n blank)))
    ≡ front (register_bytes (take (n + 1) records)) o
write_turn n records o h l =
    let r = record_parts (get_or records n blank) in
    let first = register_bytes (take n records) in
    let m = length-bytes record_shape r (tt, (tt, (tt, tt))) in
    let e : n * size record_shape ≡ length first = sym (length-written (take n records) ∙ ap (λ (k : ℕ). k * size record_shape) (length-take-le n records (omega arith))) in
    rw (add-one n, take-suc records n blank h, written_more (take n records) (get_or records n blank))
    (front_run first o (bytes record_shape r) (n * size record_shape) e (omega arith))

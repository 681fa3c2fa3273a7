-- What holds of reading over and above the functions' own promises.
use mathlib.Core.Path.{◌≡◌, refl, sym, ◌∙◌}
use mathlib.Core.List.{List}
use Prim.Native.Nat.{ℕ}
use native.Mathlib.Omega.{arith}
use denote.Ref.{Bor}
use Rattle.std.specs.Prelude.{Option, Some, None, Result, Ok, Err}
use Rattle.lists.specs.Promise.{Determined}
use Rattle.recordings.specs.declared.Fault.{Fault}
use Rattle.recordings.specs.declared.Found.{Found}
use Rattle.recordings.specs.Next.{next_packet}
use Rattle.recordings.proofs.Begins.{Stands, stands}
use Rattle.readers.specs.declared.Handed.{Handed}
use Rattle.readers.specs.Handed.{PartOf, HandsPacket, HandsOn, HandsBack, OwnPacket, SamePacket, SameHanded, ReadsFrom}

own : (recording : Bor (List ℕ)) (f : Found) (h : Handed) → Stands recording.now f → HandsPacket recording f h → OwnPacket recording h
own recording f h p b =
    let start = p.start in
    let size = p.size in
    record {
      at = p.at;
      kind = b.kind ∙ p.kind;
      block = b.content.block;
      place = b.content.place ∙ omega arith;
      bytes = b.content.bytes ∙ rw (start, size);
      inside = omega arith;
    }

-- "it hands back the data bytes as a part of the recording itself"
pub part_of_the_recording : (recording : Bor (List ℕ)) (place : ℕ) (h : Handed) → HandsBack recording place (Ok (Some h)) → OwnPacket recording h
part_of_the_recording recording place h b = go (next_packet recording.now place) refl b
  where
    go : (o : Result (Option Found) Fault) → next_packet recording.now place ≡ o → HandsOn recording o (Ok (Some h)) → OwnPacket recording h
    go (Ok (Some f)) e b = own recording f h (stands recording.now place f e) b
    go (Ok None) e b = absurd b
    go (Err fault) e b = absurd b

-- Any two results that a promise allows are equal; of references, what they point to and where.
pub part_determined : (recording : Bor (List ℕ)) (start n : ℕ) (x y : Bor (List ℕ)) → PartOf recording start n x → PartOf recording start n y → (x.ref_ptr ≡ y.ref_ptr) × (x.now ≡ y.now)
part_determined recording start n x y p q = (λ i. ((p.block ∙ sym q.block) i, (p.place ∙ sym q.place) i), p.bytes ∙ sym q.bytes)

same_packet : (recording : Bor (List ℕ)) (f : Found) (x y : Handed) → HandsPacket recording f x → HandsPacket recording f y → SamePacket x y
same_packet recording f x y p q =
    let c = part_determined recording _ _ x.content y.content p.content q.content in
    record { kind = p.kind ∙ sym q.kind; place = c.0; bytes = c.1; next = p.next ∙ sym q.next }

pub next_determined : (recording : Bor (List ℕ)) (place : ℕ) (x y : Result (Option Handed) Fault) → HandsBack recording place x → HandsBack recording place y → SameHanded x y
next_determined recording place x y p q = go (next_packet recording.now place) x y p q
  where
    go : (o : Result (Option Found) Fault) (x y : Result (Option Handed) Fault) → HandsOn recording o x → HandsOn recording o y → SameHanded x y
    go (Ok (Some f)) (Ok (Some x)) (Ok (Some y)) p q = same_packet recording f x y p q
    go (Ok None) (Ok None) (Ok None) p q = tt
    go (Err fault) (Err f) (Err g) p q = p ∙ sym q
    go (Ok (Some f)) (Ok (Some x)) (Ok None) p q = absurd q
    go (Ok (Some f)) (Ok (Some x)) (Err g) p q = absurd q
    go (Ok (Some f)) (Ok None) y p q = absurd p
    go (Ok (Some f)) (Err g) y p q = absurd p
    go (Ok None) (Ok None) (Ok (Some y)) p q = absurd q
    go (Ok None) (Ok None) (Err g) p q = absurd q
    go (Ok None) (Ok (Some x)) y p q = absurd p
    go (Ok None) (Err g) y p q = absurd p
    go (Err fault) (Err f) (Ok y) p q = absurd q
    go (Err fault) (Ok x) y p q = absurd p

pub reader_determined : (recording : Bor (List ℕ)) (place : ℕ) → Determined (ReadsFrom recording place)
reader_determined recording place x y p q = λ i. record { recording = (p.0 ∙ sym q.0) i; place = (p.1 ∙ sym q.1) i }

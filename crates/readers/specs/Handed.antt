-- What is handed back of a packet: "the data bytes as a part of the recording itself".
use Rattle.std.specs.Prelude.{ℕ, ◌+◌, ◌≤◌, min, ◌≡◌, Option, Some, None, Result, Ok, Err, List, length, get_or, take, drop}
use Rattle.std.specs.Borrow.{Bor}
use Rattle.recordings.specs.declared.Fault.{Fault}
use Rattle.recordings.specs.declared.Found.{Found}
use Rattle.readers.specs.declared.Handed.{Handed}
use Rattle.readers.specs.declared.Reader.{Reader}
use Rattle.recordings.specs.Next.{next_packet}

-- a slice points to a block of memory and a place in it: it is a part of the whole, n bytes from a place on or as many of them
-- as there are, where it lies in the whole's own block, so many places behind the whole's first byte
pub record PartOf (whole : Bor (List ℕ)) (start n : ℕ) (part : Bor (List ℕ)) : Type 0 where
  pub block : part.ref_ptr.0 ≡ whole.ref_ptr.0
  pub place : part.ref_ptr.1 ≡ min start (length whole.now) + whole.ref_ptr.1
  pub bytes : part.now ≡ take n (drop start whole.now)

-- what a packet that was found is handed back as
pub record HandsPacket (recording : Bor (List ℕ)) (f : Found) (r : Handed) : Type 0 where
  pub kind : r.kind ≡ f.kind
  pub content : PartOf recording f.start f.length r.content
  pub next : r.next ≡ f.next

-- a packet, that there is no more, or what is wrong with the recording
abbrev pub HandsOn : Bor (List ℕ) → Result (Option Found) Fault → Result (Option Handed) Fault → Type 0
HandsOn recording (Ok (Some f)) (Ok (Some r)) = HandsPacket recording f r
HandsOn recording (Ok None) (Ok None) = Unit {0}
HandsOn recording (Err fault) (Err fault') = fault' ≡ fault
HandsOn recording _ _ = ⊥

-- what `next` promises, and `read` of the reader's recording and place
abbrev pub HandsBack : Bor (List ℕ) → ℕ → Result (Option Handed) Fault → Type 0
HandsBack recording place r = HandsOn recording (next_packet recording.now place) r

-- a packet handed back is the recording's own: its type stands at a place in it, its length behind the type, and its data bytes are
-- the part of the recording that follows, with room for the checksum behind them
pub record OwnPacket (recording : Bor (List ℕ)) (r : Handed) : Type 0 where
  pub at : ℕ
  pub kind : r.kind ≡ get_or recording.now at 0
  pub block : r.content.ref_ptr.0 ≡ recording.ref_ptr.0
  pub place : r.content.ref_ptr.1 ≡ at + 2 + recording.ref_ptr.1
  pub bytes : r.content.now ≡ take (get_or recording.now (at + 1) 0) (drop (at + 2) recording.now)
  pub inside : at + 2 + get_or recording.now (at + 1) 0 + 2 ≤ length recording.now

-- two packets that are handed back as the same: the same numbers, and the same bytes at the same place in memory
pub record SamePacket (x y : Handed) : Type 0 where
  pub kind : x.kind ≡ y.kind
  pub place : x.content.ref_ptr ≡ y.content.ref_ptr
  pub bytes : x.content.now ≡ y.content.now
  pub next : x.next ≡ y.next

-- two answers that hand back the same
abbrev pub SameHanded : Result (Option Handed) Fault → Result (Option Handed) Fault → Type 0
SameHanded (Ok (Some x)) (Ok (Some y)) = SamePacket x y
SameHanded (Ok None) (Ok None) = Unit {0}
SameHanded (Err f) (Err g) = f ≡ g
SameHanded _ _ = ⊥

-- what `open` promises: the recording itself, and the place
abbrev pub ReadsFrom : Bor (List ℕ) → ℕ → Reader → Type 0
ReadsFrom recording place r = (r.recording ≡ recording) × (r.place ≡ place)

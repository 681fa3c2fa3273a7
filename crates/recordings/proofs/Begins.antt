-- A packet that is found stands in the recording.
use mathlib.Core.Path.{◌≡◌, refl, ap}
use mathlib.Core.Bool.{Bool, true, false}
use mathlib.Core.List.{List, [], ◌∷◌}
use Rattle.std.specs.Prelude.{Some, Result, Ok, Err}
use Rattle.recordings.specs.declared.Flaw.{Flaw}
use Prim.Native.Nat.{ℕ, ◌+◌, ◌≤◌}
use native.Mathlib.Omega.{arith}
use lib.ListN.{length, get_or}
use Rattle.lists.specs.Tests.{when◌then◌else◌}
use Rattle.recordings.specs.declared.Found.{Found}
use Rattle.recordings.specs.Recording.{entries_of, recording_fault}
use Rattle.recordings.specs.Next.{before, from_of, rest_of, holds_packet, packet_from, in_entry, first_packet, next_packet}
use Rattle.recordings.proofs.Asked.{inside}
use Rattle.recordings.proofs.Looks.{refuses, seeks}

-- the packet of an answer begins at a place
begins_in : (r : List ℕ) (place : ℕ) (entries : List ℕ) (f : Found) → first_packet r place entries ≡ Some f → (at : ℕ) × (f ≡ packet_from r at)
unfolding first_packet in_entry when◌then◌else◌
begins_in r place [] f n = cc
begins_in r place (at ∷ more) f n = go (holds_packet r place at) refl (λ m. begins_in r place more f m)
  where
    go : (t : Bool) → holds_packet r place at ≡ t → (first_packet r place more ≡ Some f → (at : ℕ) × (f ≡ packet_from r at)) → (at : ℕ) × (f ≡ packet_from r at)
    go true e later = let m = rw e at n in (from_of place at + before (rest_of r place at), cc)
    go false e later = later (rw e at n)

-- a packet is found in a recording that is fine alone, as its first one
found_fine : (r : List ℕ) (place : ℕ) (f : Found) → next_packet r place ≡ Ok (Some f) → (recording_fault r ≡ Ok tt) × (first_packet r place (entries_of r 5) ≡ Some f)
found_fine r place f n = go (recording_fault r) refl
  where
    go : (t : Result (Unit {0}) Flaw) → recording_fault r ≡ t → (recording_fault r ≡ Ok tt) × (first_packet r place (entries_of r 5) ≡ Some f)
    go (Ok _) e = let s = seeks r place e in (e, cc)
    go (Err flaw) e = let s = refuses r place flaw e in cc

-- its type and its length stand there, its data bytes behind them, and its checksum ends inside the recording
pub record Stands (r : List ℕ) (f : Found) : Type 0 where
  pub at : ℕ
  pub kind : f.kind ≡ get_or r at 0
  pub start : f.start ≡ at + 2
  pub size : f.length ≡ get_or r (at + 1) 0
  pub inside : at + 2 + f.length + 2 ≤ length r

pub stands : (r : List ℕ) (place : ℕ) (f : Found) → next_packet r place ≡ Ok (Some f) → Stands r f
stands r place f n =
    let e = found_fine r place f n in
    let b = begins_in r place (entries_of r 5) f e.1 in
    let s : f.start ≡ b.0 + 2 = ap (λ (f : Found). f.start) b.1 in
    let i = inside r e.0 place f e.1 in
    record {
      at = b.0;
      kind = ap (λ (f : Found). f.kind) b.1;
      start = s;
      size = ap (λ (f : Found). f.length) b.1;
      inside = omega arith;
    }

-- Lists of which each is a byte.
use Prim.Native.Nat.{ℕ, zero, suc, ◌+◌, ◌<◌, ◌≤◌}
use mathlib.Core.Path.{◌≡◌}
use mathlib.Core.Bool.{Bool, true}
use mathlib.Core.List.{List, [], ◌∷◌, ◌++◌}
use native.Mathlib.Omega.{arith}
use borrow.Author.Tests.{ltb-true}
use lib.ListN.{length, take, drop}
use lib.Seq.{get_or-drop}
use Rattle.lists.specs.Tests.{◌<?◌, all}
use Rattle.glyphs.proofs.Every.{Every, every_at, every_append, all_every, Passes}
use Rattle.fcs.specs.Fcs.{checksum}
use Rattle.packets.specs.Packet.{content_most, covered, low_first, packet_bytes}
use Rattle.shapes.specs.Shape.{Bytes}

abbrev pub EachByte : List ℕ → Type 0
EachByte l = Every (λ (x : ℕ). x < 256) l

pub bytes_each : (l : List ℕ) → Bytes l → EachByte l
bytes_each [] h = tt
bytes_each (x ∷ l) h = (h 0, bytes_each l (λ k. h (suc k)))

pub each_bytes : (l : List ℕ) → EachByte l → Bytes l
each_bytes l e k = every_at (λ (x : ℕ). x < 256) l 0 (omega arith) e k

pub each_append : (xs ys : List ℕ) → EachByte xs → EachByte ys → EachByte (xs ++ ys)
each_append xs ys e f = every_append (λ (x : ℕ). x < 256) xs ys e f

-- a test that only bytes pass
pub passing_bytes : (test : ℕ → Bool) → ((x : ℕ) → test x ≡ true → x < 256) → (l : List ℕ) → all test l ≡ true → EachByte l
passing_bytes test small l e = go l (all_every test l e)
  where
    go : (l : List ℕ) → Every (Passes test) l → EachByte l
    go [] h = tt
    go (x ∷ l) h = (small x h.0, go l h.1)

-- and one that antt computes
pub computed_bytes : (l : List ℕ) → all (λ x. x <? 256) l ≡ true → EachByte l
computed_bytes l e = passing_bytes (λ x. x <? 256) (λ x h. ltb-true x 256 h) l e

pub tested_bytes : (l : List ℕ) → all (λ x. x <? 256) l ≡ true → Bytes l
tested_bytes l e = each_bytes l (computed_bytes l e)

-- a part of bytes
pub drop-bytes : (n : ℕ) (l : List ℕ) → Bytes l → Bytes (drop n l)
drop-bytes n l h k = rw (get_or-drop n l k 0) (h (n + k))

pub take-bytes : (n : ℕ) (l : List ℕ) → Bytes l → Bytes (take n l)
take-bytes n l h = each_bytes (take n l) (go n l (bytes_each l h))
  where
    go : (n : ℕ) (l : List ℕ) → EachByte l → EachByte (take n l)
    go zero l e = tt
    go (suc n) [] e = tt
    go (suc n) (x ∷ l) e = (e.0, go n l e.1)

-- A packet of bytes is bytes.
pub packet_bytes_lem : (kind : ℕ) (content : List ℕ) → kind < 256 → length content ≤ content_most → Bytes content → Bytes (packet_bytes kind content)
packet_bytes_lem kind content k few h =
    each_bytes (packet_bytes kind content) (k, (omega arith, each_append content (low_first (checksum (covered kind content))) (bytes_each content h) (omega arith, (omega arith, tt))))

-- A story of the C library's calls, as `Story` is one of the panel's: a line heard in pieces, with other calls among them, and the
-- state, the picture and the register lent back as the last call left their bytes.
use Rattle.std.specs.Prelude.{ℕ, suc, ◌+◌, ◌*◌, ◌<◌, ◌≡◌, List, [], ◌∷◌, ◌++◌, length, take, drop, get_or}
use Rattle.lists.specs.Tests.{when◌then◌else◌, ◌=?◌}
use Rattle.theorems.specs.Other.{Other, room_for, AnswersBytes}
use Rattle.theorems.specs.Story.{Place, after}
use Rattle.theorems.specs.Library.{Kept, with_state, LineOn}

-- what a call says, read from its 16 bytes: number, command, reason and place; how many bytes it took; the bytes replied and the
-- cells listed
abbrev pub answer_bytes : List ℕ → List ℕ
answer_bytes said = take 4 said

abbrev pub taken_in : List ℕ → ℕ
taken_in said = get_or said 4 0 + 256 * get_or said 5 0

abbrev pub reply_in : List ℕ → List ℕ → List ℕ
reply_in said out = take (get_or said 12 0) out

abbrev pub cells_in : List ℕ → List ℕ → List ℕ
cells_in said list = take (get_or said 13 0) list

-- what another call wrote to the front of its buffer
abbrev pub wrote_in : List ℕ → List ℕ → List ℕ
wrote_in said out = take (get_or said 12 0 + get_or said 13 0) out

-- what a story tells
pub data Note : Type 0 where
  packet : (answer reply cells : List ℕ) → Note
  other : Other → (answer front : List ℕ) → Note

-- of a call on the line: nothing where it waits
unfoldable pub noted_in : List ℕ → List ℕ → List ℕ → List Note
noted_in said list out = when get_or said 0 0 =? 1 then [] else packet (answer_bytes said) (reply_in said out) (cells_in said list) ∷ []

-- a line call that is not refused by number
pub record HearsBytes (font : List ℕ) (k : Kept) (piece said list' out' : List ℕ) (l : Kept) : Type 0 where
  pub list : List ℕ
  pub out : List ℕ
  pub number : ℕ
  pub called : LineOn font k piece list out number l list' out' said
  pub accepted : number < 10

-- OthersBytes k notes l: other calls, each lent a buffer of its size
pub data OthersBytes : Kept → List Note → Kept → Type 0 where
  none : {k : Kept} → OthersBytes k [] k
  one : {k m : Kept} {c : Other} {n : ℕ} {out state' out' said : List ℕ} {notes : List Note} → length out ≡ room_for c → AnswersBytes c k.state out n state' out' said
      → OthersBytes (with_state k state') notes m → OthersBytes k (other c (answer_bytes said) (wrote_in said out') ∷ notes) m

-- Cut font k bytes notes l: the bytes, cut into pieces anywhere and given to line calls, with other calls anywhere among them
-- and each lent a buffer of its size, take the bytes k to l
pub data Cut (font : List ℕ) : Kept → List ℕ → List Note → Kept → Type 0 where
  -- the last call on the line: all is taken and the number is 1
  last : {k l m : Kept} {bytes said list' out' : List ℕ} {notes : List Note} → HearsBytes font k bytes said list' out' l → taken_in said ≡ length bytes
      → get_or said 0 0 ≡ 1 → OthersBytes l notes m → Cut font k bytes notes m
  -- a call on a piece, and then what comes of the bytes that it has not taken and those behind
  line : {k l m : Kept} (piece rest : List ℕ) {said list' out' : List ℕ} {notes : List Note} → HearsBytes font k piece said list' out' l
      → Cut font l (drop (taken_in said) (piece ++ rest)) notes m → Cut font k (piece ++ rest) (noted_in said list' out' ++ notes) m
  -- another call
  call : {k m : Kept} {bytes : List ℕ} {c : Other} {n : ℕ} {out state' out' said : List ℕ} {notes : List Note} → length out ≡ room_for c → AnswersBytes c k.state out n state' out' said
      → Cut font (with_state k state') bytes notes m → Cut font k bytes (other c (answer_bytes said) (wrote_in said out') ∷ notes) m

-- the other calls, each with the number of packets before it
abbrev pub places_in : ℕ → List Note → List Place
places_in n [] = []
places_in n (packet _ _ _ ∷ notes) = places_in (suc n) notes
places_in n (other c _ _ ∷ notes) = after n c ∷ places_in n notes

-- A story of calls: a line heard in pieces, with other calls among them, and the state, the picture and the register lent back as
-- the last call left them.
use Rattle.std.specs.Prelude.{ℕ, suc, ◌+◌, ◌<◌, ◌≡◌, List, [], ◌∷◌, ◌++◌, length, take, drop}
use Rattle.lists.specs.Tests.{when◌then◌else◌, ◌=?◌}
use Rattle.panel.specs.declared.Panel.{Panel}
use Rattle.answers.specs.declared.Answer.{Answer}
use Rattle.answers.specs.declared.Answer.TheVariants.{Waiting}
use Rattle.answers.specs.declared.Said.{Said}
use Rattle.answers.specs.Answer.{numbers_of}
use Rattle.theorems.specs.Other.{Other, room_for, Answers}
use Rattle.theorems.specs.Run.{World, with_panel, Hears}

-- what a story tells: of each packet what was answered, the bytes replied and the cells listed; of each other call its answer and
-- what it wrote to the front of its buffer
pub data Entry : Type 0 where
  packet : Answer → (reply cells : List ℕ) → Entry
  other : Other → Answer → (front : List ℕ) → Entry

abbrev pub replied : Said → List ℕ → List ℕ
replied r out = take r.reply out

abbrev pub listed : Said → List ℕ → List ℕ
listed r list = take r.listed list

-- what another call wrote to the front of its buffer: its report, or the cells that it lists
abbrev pub wrote : Said → List ℕ → List ℕ
wrote r out = take (r.reply + r.listed) out

-- of a call on the line: nothing where it waits
unfoldable pub noted : Said → List ℕ → List ℕ → List Entry
noted r list out = when (numbers_of r.answer).number =? 1 then [] else packet r.answer (replied r out) (listed r list) ∷ []

-- a line call that is not refused by number
pub record LineHears (font : List ℕ) (w : World) (piece : List ℕ) (r : Said) (list' out' : List ℕ) (v : World) : Type 0 where
  pub list : List ℕ
  pub out : List ℕ
  pub heard : Hears font w piece list out r list' out' v
  pub accepted : (numbers_of r.answer).number < 10

-- Others p entries q: other calls, each lent a buffer of its size, take the panel p to q
pub data Others : Panel → List Entry → Panel → Type 0 where
  none : {p : Panel} → Others p [] p
  one : {p : Panel} {c : Other} {out : List ℕ} {r : Said} {out' : List ℕ} {entries : List Entry} {q : Panel} → length out ≡ room_for c → Answers c p out r out'
      → Others r.panel entries q → Others p (other c r.answer (wrote r out') ∷ entries) q

-- Story font w bytes entries v: the bytes, cut into pieces anywhere and given to line calls, with other calls anywhere among
-- them and each lent a buffer of its size, take the world w to v
pub data Story (font : List ℕ) : World → List ℕ → List Entry → World → Type 0 where
  -- the last call on the line: all is taken and the answer is waiting
  last : {w v : World} {bytes : List ℕ} {r : Said} {list' out' : List ℕ} {entries : List Entry} {q : Panel} → LineHears font w bytes r list' out' v
      → r.counts.taken ≡ length bytes → r.answer ≡ Waiting → Others v.panel entries q → Story font w bytes entries (with_panel v q)
  -- a call on a piece, and then what comes of the bytes that it has not taken and those behind
  line : {w u v : World} (piece more : List ℕ) {r : Said} {list' out' : List ℕ} {entries : List Entry} → LineHears font w piece r list' out' u
      → Story font u (drop r.counts.taken (piece ++ more)) entries v → Story font w (piece ++ more) (noted r list' out' ++ entries) v
  -- another call
  call : {w v : World} {bytes : List ℕ} {c : Other} {out : List ℕ} {r : Said} {out' : List ℕ} {entries : List Entry} → length out ≡ room_for c → Answers c w.panel out r out'
      → Story font (with_panel w r.panel) bytes entries v → Story font w bytes (other c r.answer (wrote r out') ∷ entries) v

-- the other calls, each with the number of packets before it
pub data Place : Type 0 where
  after : ℕ → Other → Place

abbrev pub call_places : ℕ → List Entry → List Place
call_places n [] = []
call_places n (packet _ _ _ ∷ entries) = call_places (suc n) entries
call_places n (other c _ _ ∷ entries) = after n c ∷ call_places n entries

-- Sequences of the C library's calls: the state and the picture are lent back as the last call left their bytes, and each call is
-- lent buffers of any size and content, but the same font.
use Rattle.std.specs.Prelude.{ℕ, ◌+◌, ◌≡◌, List, [], ◌∷◌, length}
use Rattle.lists.specs.Tests.{when◌then◌else◌, ◌=?◌}
use Rattle.linecall.specs.Line.{lent}
use Rattle.statebytes.specs.State.{bytes_of, PanelFits}
use Rattle.linebytes.specs.Line.{records_in, LineBytes}
use Rattle.theorems.specs.Other.{Other, AnswersBytes}
use Rattle.theorems.specs.Run.{Call, line, other, World}

-- what goes from call to call
pub record Kept : Type 0 where
  pub state : List ℕ
  pub picture : List ℕ
  pub faults : List ℕ

abbrev pub with_state : Kept → List ℕ → Kept
with_state k state = record { state = state; picture = k.picture; faults = k.faults }

abbrev pub with_faults : Kept → List ℕ → Kept
with_faults k faults = record { state = k.state; picture = k.picture; faults = faults }

-- a line call on those bytes: it returns n and leaves the bytes l, the list, the reply buffer and what it says as given last
abbrev pub LineOn : List ℕ → Kept → (piece list out : List ℕ) → ℕ → Kept → (list' out' said' : List ℕ) → Type 0
LineOn font k piece list out n l list' out' said' =
    LineBytes k.state (lent piece k.picture font list out (records_in (length k.faults))) k.faults n l.state l.picture list' out' l.faults said'

-- Returns font c k n l: the call c may take the bytes k to l and return n: its promise allows it
pub data Returns (font : List ℕ) : Call → Kept → ℕ → Kept → Type 0 where
  hears : {piece list out : List ℕ} {k : Kept} {n : ℕ} {l : Kept} {list' out' said' : List ℕ} → LineOn font k piece list out n l list' out' said' → Returns font (line piece list out) k n l
  answers : {c : Other} {out : List ℕ} {k : Kept} {n : ℕ} {state' out' said' : List ℕ} → AnswersBytes c k.state out n state' out' said' → Returns font (other c out) k n (with_state k state')

-- a call that returns 4 has refused a packet
unfoldable pub refusals : ℕ → ℕ
refusals n = when n =? 4 then 1 else 0

-- which bytes are lent as a register: any, or those that the last call left
abbrev pub any_faults : Kept → List ℕ → Type 0
any_faults k faults = Unit

abbrev pub faults_lent_back : Kept → List ℕ → Type 0
faults_lent_back k faults = faults ≡ k.faults

-- a sequence of calls, and the packets refused in all of them
pub data Library (font : List ℕ) (Lends : Kept → List ℕ → Type 0) : List Call → Kept → Kept → ℕ → Type 0 where
  done : {k : Kept} → Library font Lends [] k k 0
  more : {c : Call} {cs : List Call} {k l m : Kept} {faults : List ℕ} {n r : ℕ} → Lends k faults → Returns font c (with_faults k faults) n l → Library font Lends cs l m r
      → Library font Lends (c ∷ cs) k m (refusals n + r)

-- the bytes stand for a panel and a picture: the state is the panel, written, and its sizes and numbers are what their types allow
pub record StandsFor (k : Kept) (w : World) : Type 0 where
  pub state : k.state ≡ bytes_of w.panel
  pub fits : PanelFits w.panel
  pub picture : k.picture ≡ w.picture

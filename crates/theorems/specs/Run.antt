-- Sequences of calls: the state and the picture are lent back as the last call left them, and each call is lent buffers of any size
-- and content, but the same font.
use Rattle.std.specs.Prelude.{ℕ, ◌+◌, ◌≡◌, List, [], ◌∷◌, length, is_some}
use Rattle.lists.specs.Tests.{when◌then◌else◌}
use Rattle.panel.specs.declared.Panel.{Panel}
use Rattle.filing.specs.declared.Record.{Record}
use Rattle.filing.specs.Filing.{Files}
use Rattle.picture.specs.Draw.{drawn}
use Rattle.perform.specs.Perform.{shown_by}
use Rattle.answers.specs.declared.Said.{Said}
use Rattle.answers.specs.Answer.{filing_of}
use Rattle.linecall.specs.Line.{lent, LineCall}
use Rattle.theorems.specs.Other.{Other, Answers}

pub data Call : Type 0 where
  line : (piece list out : List ℕ) → Call
  other : Other → (out : List ℕ) → Call

-- what goes from call to call
pub record World : Type 0 where
  pub panel : Panel
  pub picture : List ℕ
  pub register : List Record

abbrev pub with_panel : World → Panel → World
with_panel w p = record { panel = p; picture = w.picture; register = w.register }

abbrev pub with_register : World → List Record → World
with_register w register = record { panel = w.panel; picture = w.picture; register = register }

abbrev pub files_of : World → Files
files_of w = record { register = w.register; unfiled = w.panel.line.unfiled }

-- one packet refused, or none
unfoldable pub refused_in : Said → ℕ
refused_in r = when is_some (filing_of r.answer) then 1 else 0

-- a line call on the piece takes the world w to v, says r and leaves the list and the reply buffer as list' and out'
pub record Hears (font : List ℕ) (w : World) (piece list out : List ℕ) (r : Said) (list' out' : List ℕ) (v : World) : Type 0 where
  pub called : LineCall w.panel (lent piece w.picture font list out (length w.register)) w.register r v.picture list' out' v.register
  pub panel : v.panel ≡ r.panel

-- Makes font c w r v: the call c may take the world w to v and say r: its promise allows it
pub data Makes (font : List ℕ) : Call → World → Said → World → Type 0 where
  hears : {piece list out : List ℕ} {w : World} {r : Said} {list' out' : List ℕ} {v : World} → Hears font w piece list out r list' out' v → Makes font (line piece list out) w r v
  answers : {c : Other} {out : List ℕ} {w : World} {r : Said} {out' : List ℕ} → Answers c w.panel out r out' → Makes font (other c out) w r (with_panel w r.panel)

-- which register is lent to a call: any, or the one that the last call left
abbrev pub any_register : World → List Record → Type 0
any_register w register = Unit

abbrev pub lent_back : World → List Record → Type 0
lent_back w register = register ≡ w.register

-- a sequence of calls, and the packets refused in all of them
pub data Runs (font : List ℕ) (Lends : World → List Record → Type 0) : List Call → World → World → ℕ → Type 0 where
  done : {w : World} → Runs font Lends [] w w 0
  more : {c : Call} {cs : List Call} {u v w : World} {register : List Record} {r : Said} {m : ℕ} → Lends u register → Makes font c (with_register u register) r v
      → Runs font Lends cs v w m → Runs font Lends (c ∷ cs) u w (refused_in r + m)

-- the picture is the one drawn afresh from the state
abbrev pub Afresh : List ℕ → World → Type 0
Afresh font w = w.picture ≡ drawn (shown_by w.panel.body) font

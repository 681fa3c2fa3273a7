-- What a program lends to its calls: power-on, and a session's call on what is left of its piece.
use Rattle.std.specs.Prelude.{ℕ, ◌-◌, min, ◌≡◌, List, length, take, drop, replicate}
use Rattle.linecall.specs.Line.{lent}
use Rattle.linebytes.specs.Line.{records_in, LineBytes}
use Rattle.statebytes.specs.State.{panel_of}
use Rattle.saidreads.specs.Told.{call_of}
use Rattle.kept.specs.declared.Session.{Session}
use Rattle.kept.specs.Session.{with_call}
use Rattle.naupelys.specs.Calls.{PowerOnBytes}
use Rattle.session.specs.declared.Desk.{Desk}
use Rattle.session.specs.declared.sizes.TheConstants.{STATE, PICTURE, LIST, REPLY, FAULTS}

-- where the piece ends, and where what is left of it begins
abbrev pub end_in : Session → List ℕ → ℕ
end_in s piece = min s.end (length piece)

abbrev pub start_in : Session → List ℕ → ℕ
start_in s piece = min s.at (end_in s piece)

abbrev pub left_of : Session → List ℕ → List ℕ
left_of s piece = take (end_in s piece - start_in s piece) (drop (start_in s piece) piece)

-- how many bytes of the line the state holds
abbrev pub held_in : List ℕ → ℕ
held_in state = (panel_of state).line.hold.count

-- what `powered_on` promises: the panel's power-on over bytes that are all zero, as everything else that is lent besides the font
pub record PowersDesk (f : List ℕ) (d : Desk) : Type 0 where
  pub number : ℕ
  pub on : PowerOnBytes (replicate STATE 0) (replicate PICTURE 0) f number d.state d.picture d.said
  pub font : d.font ≡ f
  pub list : d.list ≡ replicate LIST 0
  pub reply : d.reply ≡ replicate REPLY 0
  pub faults : d.faults ≡ replicate FAULTS 0

-- what `held` promises
abbrev pub TellsHeld : Desk → ℕ → Type 0
TellsHeld d r = r ≡ held_in d.state

-- what `call` promises: the line call over bytes on what is left, and the session after what it says; the font stays
pub record CallsOn (s : Session) (piece : List ℕ) (d : Desk) (s' : Session) (d' : Desk) : Type 0 where
  pub number : ℕ
  pub line : LineBytes d.state (lent (left_of s piece) d.picture d.font d.list d.reply (records_in (length d.faults))) d.faults number d'.state d'.picture d'.list d'.reply d'.faults d'.said
  pub font : d'.font ≡ d.font
  pub session : s' ≡ with_call s (start_in s piece) (held_in d.state) (call_of d'.said)

-- For each public function, any two results that its promise allows are equal.
use mathlib.Core.Bool.{Bool}
use Prim.Native.Nat.{ℕ}
use Rattle.lists.specs.Promise.{Determined}
use Rattle.lists.proofs.Theorems.{one}
use Rattle.tally.specs.declared.CallTold.{CallTold}
use Rattle.kept.specs.declared.Session.{Session}
use Rattle.kept.specs.Session.{StartsSession, Goes, PieceCame, CallMade}

pub started_determined : Determined StartsSession
started_determined = one _

pub going_determined : (steps : ℕ) (over : Bool) → Determined (Goes steps over)
going_determined steps over = one _

pub with_piece_determined : (s : Session) (count : ℕ) (failed : Bool) → Determined (PieceCame s count failed)
with_piece_determined s count failed = one _

pub with_call_determined : (s : Session) (at held : ℕ) (c : CallTold) → Determined (CallMade s at held c)
with_call_determined s at held c = one _

use mathlib.Core.Path.{ap}
use mathlib.Core.List.{List, []}
use Prim.Native.Nat.{ℕ}
use lib.ListN.{get_or}
use Rattle.picture.proofs.draw.glyph.Goals as goal

pub returns : goal.returns
returns c = ap (λ (l : List (List ℕ)). get_or l c.args.number []) c.nested.ensures

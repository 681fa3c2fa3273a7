use Prim.Native.Nat.{ℕ}
use mathlib.Core.Path.{◌∙◌, ap}
use mathlib.Core.List.{List}
use lib.ListN.{length}
use Rattle.packets.proofs.Bytes.{padding}
use native.Mathlib.Omega.{arith}
use Rattle.framing.proofs.kept.Goals as goal

pub returns : goal.returns
returns c =
    let w = c.args.window.now in
    ap (λ (b : List ℕ). record { bytes = b; count = length w }) (c.paste.ensures ∙ padding 25 w (omega arith))

use Prim.Native.Nat.{◌/◌}
use mathlib.Core.Path.{sym, ◌∙◌, ap}
use native.Mathlib.Omega.{arith}
use lib.Bits.{bit_xor}
use Rattle.fcs.proofs.Steps.{byte_step}
use Rattle.fcs.proofs.byte.Goals as goal

-- the step by the table is eight steps of the polynomial
pub returns : goal.returns
returns c =
    let a = c.args in
    ap (bit_xor (a.c / 256)) c.word.ensures ∙ sym (byte_step a.c a.b (omega arith))

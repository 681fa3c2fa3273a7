use Prim.Native.Nat.{◌≤◌}
use native.Mathlib.Omega.{arith}
use Rattle.bits.proofs.Laws.{byte_off}
use Rattle.events.proofs.Events.{as_told_lem, up_as_told}
use Rattle.events.proofs.keys.as_told.Goals as goal

pub returns-in-Ok : goal.returns-in-Ok
returns-in-Ok c =
    let a = c.args in
    rw (c.is_on.ensures, c.in-Ok.ensures.1) (as_told_lem a.down a.number a.k)

pub returns-in-Err : goal.returns-in-Err
returns-in-Err c =
    let a = c.args in
    let wide : 256 ≤ a.number = omega (arith, c.in-Err.ensures) in
    up_as_told a.down a.number a.k (byte_off a.k.down a.number (omega arith) (omega arith))

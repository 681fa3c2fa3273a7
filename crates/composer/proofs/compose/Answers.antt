use mathlib.Core.Path.{◌≡◌}
use native.Mathlib.Omega.{arith}
use Rattle.std.specs.Prelude.{Ok}
use Rattle.verdict.specs.Verdict.{verdict_of}
use Rattle.composer.proofs.Ways.{composed_for}
use Rattle.composer.proofs.compose.Goals as goal

pub returns : goal.returns
returns c =
    let v : verdict_of c.args.code c.args.content.now ≡ Ok tt = grind arith in
    composed_for _ _ _ c.if-packet-ne-REPLY.false v _ _ c.compose-size.ensures

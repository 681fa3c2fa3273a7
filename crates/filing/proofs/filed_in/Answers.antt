use borrow.Author.Tests.{lt-ltb, le-ltb}
use Rattle.std.proofs.Common.{◌<◌, ◌≤◌, arith}
use Rattle.lists.specs.Tests.{when◌then◌else◌}
use Rattle.filing.specs.Filing.{most, filed_in}
use Rattle.filing.proofs.filed_in.Goals as goal

pub returns-in_default : goal.returns-in_default
unfolding filed_in when◌then◌else◌
returns-in_default c =
    let h : most ≤ c.args.r.count = omega (arith, c.in_default.ensures) in
    simp (le-ltb _ _ h, c.unfiled_more.ensures)

pub returns : goal.returns
unfolding filed_in when◌then◌else◌
returns c =
    let h : c.args.r.count < most = omega (arith, c.in-Some.ensures) in
    simp (c.in-Some.ensures.1, lt-ltb _ _ h)

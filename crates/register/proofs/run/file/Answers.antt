use Rattle.std.proofs.Common.{◌≤◌, length, refl, arith}
use borrow.Author.Tests.{lt-ltb, le-ltb}
use Rattle.lists.specs.Tests.{when◌then◌else◌}
use Rattle.filing.specs.Filing.{slot, filed_at, filed, filed_if}
use Rattle.register.proofs.run.file.Goals as goal

pub returns-in_default : goal.returns-in_default
unfolding filed_if
returns-in_default c = rw c.in_default.is (refl, refl)

pub returns-in_default-find : goal.returns-in_default-find
unfolding filed_if filed filed_at when◌then◌else◌
returns-in_default-find c =
    let n = length c.args.register.now in
    let h : n ≤ slot c.in-Some.k c.args.register.now = omega (arith, c.in_default-find.ensures) in
    rw (c.in-Some.is, le-ltb _ _ h, c.unfiled_more.ensures) (refl, refl)

pub returns : goal.returns
unfolding filed_if filed filed_at when◌then◌else◌
returns c =
    let s = c.in-Some-find.ensures in
    rw (c.in-Some.is, s.0, lt-ltb _ _ s.1, c.filed_in-q.ensures) (refl, refl)

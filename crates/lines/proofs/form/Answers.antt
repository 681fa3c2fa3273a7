use borrow.Author.Tests.{ne_eqb}
use Rattle.lists.specs.Tests.{when◌then◌else◌}
use Rattle.lines.specs.Lines.{kind_word}
use Rattle.lines.proofs.form.Goals as goal

pub returns-in-2 : goal.returns-in-2
unfolding kind_word when◌then◌else◌
returns-in-2 c = rw c.in-2.is

pub returns-in-3 : goal.returns-in-3
unfolding kind_word when◌then◌else◌
returns-in-3 c = rw c.in-3.is

pub returns-in_default : goal.returns-in_default
unfolding kind_word when◌then◌else◌
returns-in_default c =
    let rest = c.in_default.in_default-own.rest in
    rw (ne_eqb _ 2 rest.0.1, ne_eqb _ 3 rest.1)

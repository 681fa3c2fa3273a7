use borrow.Author.Rules.{rules}
use Rattle.lists.specs.Tests.{when◌then◌else◌}
use Rattle.table.specs.Table.{look_up}
use Rattle.table.proofs.look.Goals as goal

pub returns-in_default : goal.returns-in_default
unfolding look_up when◌then◌else◌
returns-in_default c = search rules

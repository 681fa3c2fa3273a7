use borrow.Author.Rules.{rules}
use Rattle.lists.specs.Tests.{when◌then◌else◌}
use Rattle.reading.specs.Reading.{can_reply}
use Rattle.reading.proofs.can_reply.Goals as goal

pub returns-then-is_some : goal.returns-then-is_some
unfolding can_reply when◌then◌else◌
returns-then-is_some c = search rules

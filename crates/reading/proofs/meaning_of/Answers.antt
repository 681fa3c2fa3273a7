use borrow.Author.Rules.{rules}
use Rattle.lists.specs.Tests.{when◌then◌else◌}
use Rattle.reading.specs.Reading.{meaning_of}
use Rattle.reading.proofs.meaning_of.Goals as goal

pub returns-in-64-to-127 : goal.returns-in-64-to-127
unfolding meaning_of when◌then◌else◌
returns-in-64-to-127 c = search rules

pub returns-in-193-to-255 : goal.returns-in-193-to-255
unfolding meaning_of when◌then◌else◌
returns-in-193-to-255 c = search rules

pub returns-in_default-3 : goal.returns-in_default-3
unfolding meaning_of when◌then◌else◌
returns-in_default-3 c = search rules

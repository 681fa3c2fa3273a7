use borrow.Author.Rules.{rules}
use Rattle.lists.specs.Tests.{when◌then◌else◌}
use Rattle.commands.specs.Commands.{form_of}
use Rattle.commandreads.specs.Backwards.{first_with, named_by}
use Rattle.commandreads.proofs.command_of.Goals as goal

-- no command has another code
pub returns-in_default-26 : goal.returns-in_default-26
unfolding named_by first_with form_of when◌then◌else◌
returns-in_default-26 c = search rules

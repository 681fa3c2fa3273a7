use Rattle.std.proofs.Common.{◌≡◌, ◌∙◌, refl, Bool, true, false}
use Rattle.std.specs.Int.{from_bool}
use Rattle.lists.specs.Tests.{when◌then◌else◌}
use Rattle.tally.specs.Sums.{is_found, packets_by}
use Rattle.tally.proofs.packets.Goals as goal

one_or_none : (found : Bool) → from_bool found ≡ when found then 1 else 0
unfolding when◌then◌else◌
one_or_none true = refl
one_or_none false = refl

pub returns : goal.returns
unfolding packets_by
returns c = c.from.ensures ∙ one_or_none (is_found c.args.number)

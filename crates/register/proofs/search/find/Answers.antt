use Rattle.std.proofs.Common.{rules, ◌≡◌}
use Rattle.std.specs.Prelude.{position, MatchOption, Some}
use Rattle.filing.specs.Filing.{is_free}
use Rattle.register.proofs.Slots.{finds}
use Rattle.register.proofs.search.find.Goals as goal

pub returns : goal.returns
returns c =
    let e : MatchOption c.first_with-known.result (c.or_else.result ≡ position is_free c.args.register.now) (λ i. c.or_else.result ≡ Some i) = search rules in
    finds _ _ _ _ c.first_with-known.ensures e

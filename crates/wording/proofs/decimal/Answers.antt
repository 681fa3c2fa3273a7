use Rattle.std.proofs.Common.{arith, rules}
use Rattle.wording.proofs.Laws.{tenth_fits, digit_turn, first_digit}
use Rattle.wording.proofs.decimal.Goals as goal

pub loop-rest-preserved : goal.loop-rest-preserved
loop-rest-preserved c =
    let l = c.loop-rest in
    let large = c.loop-rest-test.true in (
      omega arith,
      tenth_fits l.k l.rest large l.invariant.1,
      search rules,
      digit_turn l.k l.rest large l.invariant.1 c.args.n l.room (omega arith) l.invariant.3,
    )

pub returns-clause-digits : goal.returns-clause-digits
returns-clause-digits c = let l = c.loop-rest in first_digit c.args.n l.rest l.k l.room c.loop-rest-test.false (omega arith) l.invariant.3

use Rattle.std.proofs.Common.{length, arith, ap}
use Rattle.recordings.proofs.Entries.{no_entry, in_turn}
use Rattle.recordings.proofs.EntryPlacesIterator.next.Goals as goal

pub returns-then-self-at-clause-steps : goal.returns-then-self-at-clause-steps
returns-then-self-at-clause-steps c =
    let s = c.args.self.now in
    let e = no_entry s.recording.now s.at c.if-self-at.true in
    (e, e)

pub returns-clause-steps : goal.returns-clause-steps
returns-clause-steps c =
    let s = c.args.self.now in
    in_turn s.recording.now s.at c.behind-self.result c.if-self-at.false c.behind-self.ensures

pub returns-clause-goes : goal.returns-clause-goes
returns-clause-goes c =
    let s = c.args.self.now in
    let e = ap length (in_turn s.recording.now s.at c.behind-self.result c.if-self-at.false c.behind-self.ensures) in
    record { on = λ f. (tt, tt, omega (arith, e)); keeps = tt; rests = λ _. tt }

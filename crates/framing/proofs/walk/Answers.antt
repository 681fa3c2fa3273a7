use mathlib.Core.Path.{sym, ◌∙◌}
use Rattle.lists.specs.Tests.{when◌then◌else◌}
use Rattle.framing.proofs.Waits.{waits_for}
use Rattle.framing.proofs.Turns.{first_turn, longs, wrongs, farther, took, dropped_long, dropped_wrong}
use native.Mathlib.Omega.{arith}
use Rattle.framing.proofs.walk.Goals as goal

pub loop-end-init : goal.loop-end-init
loop-end-init c = first_turn _ _ _ (omega arith) (omega arith) (omega arith)

pub overflow_add-start : goal.overflow_add-start
overflow_add-start c = let n = (waits_for _ (sym c.judge-j.ensures ∙ c.in-Wait.is)).1 in omega (arith, c.wanted.ensures)

pub loop-end-smaller-then-end-bytes : goal.loop-end-smaller-then-end-bytes
loop-end-smaller-then-end-bytes c =
    let f = farther _ _ _ _ _ _ c.loop-end.invariant _ _ (sym c.judge-j.ensures ∙ c.in-Wait.is) c.wanted.ensures c.at_most-end.ensures (omega arith) in
    omega arith

pub loop-end-preserved-then-end-bytes : goal.loop-end-preserved-then-end-bytes
loop-end-preserved-then-end-bytes c = took _ _ _ _ _ _ c.loop-end.invariant _ _ (sym c.judge-j.ensures ∙ c.in-Wait.is) c.wanted.ensures c.at_most-end.ensures (omega arith)

pub returns-else-end-bytes : goal.returns-else-end-bytes
unfolding when◌then◌else◌
returns-else-end-bytes c =
    record {
      reached = c.loop-end.invariant;
      judged = sym c.judge-j.ensures ∙ c.in-Wait.is;
      used = λ _. omega arith;
    }

pub loop-end-smaller-in-LongLength : goal.loop-end-smaller-in-LongLength
loop-end-smaller-in-LongLength c = let n = longs _ _ _ _ _ _ c.loop-end.invariant (sym c.judge-j.ensures ∙ c.in-LongLength.is) in omega arith

pub loop-end-preserved-in-LongLength : goal.loop-end-preserved-in-LongLength
loop-end-preserved-in-LongLength c = dropped_long _ _ _ _ _ _ c.loop-end.invariant (sym c.judge-j.ensures ∙ c.in-LongLength.is)

pub bounds-bytes-start : goal.bounds-bytes-start
bounds-bytes-start c = let n = (wrongs _ _ _ _ _ _ c.loop-end.invariant (sym c.judge-j.ensures ∙ c.in-WrongChecksum.is)).0 in omega arith

pub loop-end-smaller : goal.loop-end-smaller
loop-end-smaller c = let n = (wrongs _ _ _ _ _ _ c.loop-end.invariant (sym c.judge-j.ensures ∙ c.in-WrongChecksum.is)).0 in omega arith

pub loop-end-preserved : goal.loop-end-preserved
loop-end-preserved c = dropped_wrong _ _ _ _ _ _ c.loop-end.invariant _ (sym c.judge-j.ensures ∙ c.in-WrongChecksum.is) c.wide-covered.ensures.0

pub returns-in-Packet : goal.returns-in-Packet
unfolding when◌then◌else◌
returns-in-Packet c =
    record {
      reached = c.loop-end.invariant;
      judged = sym c.judge-j.ensures ∙ c.in-Packet.is;
      used = λ e. cc;
    }

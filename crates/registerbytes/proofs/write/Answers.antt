use Rattle.std.proofs.Common.{◌≡◌, refl, sym, ◌∙◌, rules, arith}
use lib.Seq.{take_all}
use borrow.Author.Tests.{eq-eqb, ne_eqb}
use Rattle.lists.proofs.Laws.{when_true, when_false, whole_front}
use Rattle.shapes.specs.Shape.{bytes, joined}
use Rattle.registerbytes.specs.Register.{register_size, register_bytes, register_with}
use Rattle.registerbytes.proofs.Records.{write_turn, length-written}
use Rattle.registerbytes.proofs.write.Goals as goal

pub returns-then-faults-ne-REGISTER : goal.returns-then-faults-ne-REGISTER
unfolding register_with
returns-then-faults-ne-REGISTER c = sym (when_false _ _ _ (ne_eqb _ register_size c.if-faults-ne-REGISTER.true))

pub loop-i-init : goal.loop-i-init
unfolding register_bytes bytes joined
loop-i-init c = (refl, search rules)

pub loop-i-preserved : goal.loop-i-preserved
loop-i-preserved c =
    let l = c.loop-i in
    let h = c.if-faults-ne-REGISTER.false in
    let p = c.paste in
    (p.ensures ∙ rw (l.invariant.0, c.record_bytes.ensures) (write_turn l.i c.args.records c.args.faults.now (omega arith) (omega arith)), p.auto.out ∙ l.invariant.1)

pub returns : goal.returns
unfolding register_with
returns c =
    let l = c.loop-i in
    let a = c.args in
    let h = c.if-faults-ne-REGISTER.false in
    let e : l.i ≡ 64 = omega arith in
    let n = length-written a.records in
    l.invariant.0
    ∙ rw (e, take_all 64 a.records (omega arith)) (whole_front (register_bytes a.records) a.faults.now (omega arith))
    ∙ sym (when_true _ _ _ (eq-eqb _ register_size h))

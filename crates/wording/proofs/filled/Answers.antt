use Rattle.std.proofs.Common.{◌≡◌, sym, ◌∙◌, get_or, rules, arith}
use Rattle.wording.specs.Text.{text}
use Rattle.wording.proofs.Laws.{mark_turn, byte_turn, form_end}
use Rattle.wording.proofs.filled.Goals as goal
use Rattle.wording.proofs.filled.Goals.{then-b-eq37, else-b-eq37}

pub loop-b-preserved : goal.loop-b-preserved
loop-b-preserved c =
    let l = c.loop-b in
    let a = c.args in
    let t = text l.out l.n in
    elim c.if-b-eq37.branch [
      | then-b-eq37 w ↦
          let number : w.unwrap_or.result ≡ get_or a.numbers.now l.k 0 = search rules in
          record {
            counted = omega arith;
            inside = rw (w.n-is, w.out-is) w.number-n.ensures.inside;
            rest = rw (w.out-is, w.n-is, w.k-is, w.number-n.ensures.added, number)
                (sym (mark_turn t a.form.now a.numbers.now l.b-index l.k (omega arith) w.if-b-eq37.true) ∙ l.invariant.rest);
          }
      | else-b-eq37 w ↦
          record {
            counted = omega arith;
            inside = rw (w.n-is, w.out-is) w.byte-n.ensures.inside;
            rest = rw (w.out-is, w.n-is, w.k-is, w.byte-n.ensures.added)
                (sym (byte_turn t a.form.now a.numbers.now l.b-index l.k (omega arith) w.if-b-eq37.false) ∙ l.invariant.rest);
          }
    ]

pub returns-clause-filled : goal.returns-clause-filled
returns-clause-filled c =
    let l = c.loop-b in
    let a = c.args in
    sym (form_end (text l.out l.n) a.form.now a.numbers.now l.b-index l.k (omega arith)) ∙ l.invariant.rest

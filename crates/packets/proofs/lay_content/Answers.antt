use mathlib.Core.Path.{◌≡◌, sym, ◌∙◌}
use native.Mathlib.Numerals.{add-one}
use native.Mathlib.Omega.{arith}
use lib.ListN.{length, length-set}
use lib.Seq.{paste-suc}
use Rattle.lists.proofs.Laws.{pasted_fits}
use Rattle.packets.proofs.lay_content.Goals as goal

pub loop-i-preserved : goal.loop-i-preserved
loop-i-preserved c =
    let a = c.args in
    let l = c.loop-i in
    record {
      laid = rw (l.invariant.laid, add-one) (paste-suc a.out.now 2 a.content.now l.i 0 (omega (arith, c.requires)) (omega arith));
      kept = length-set l.out _ _ ∙ l.invariant.kept;
    }

pub returns : goal.returns
returns c =
    let a = c.args in
    let l = c.loop-i in
    let e : l.i ≡ length a.content.now = omega arith in
    l.invariant.laid ∙ rw e (sym (pasted_fits a.out.now 2 a.content.now (omega (arith, c.requires))))

use Rattle.std.proofs.Common.{arith, rules, ◌<◌, ◌+◌, length, refl, sym, ◌∙◌}
use Rattle.std.proofs.lemmas.Slice.{put_mid-paste}
use Rattle.lists.proofs.Laws.{pasted_fits, pasted_refused}
use Rattle.lists.proofs.paste.Goals as goal
use Rattle.lists.proofs.paste.Goals.{else-place-out-via-then-place-out+else-run-out, else-place-out-via-else-place-out}

pub returns-then-run-out : goal.returns-then-run-out
returns-then-run-out c =
    let a = c.args in
    put_mid-paste a.place _ a.out.now _ a.run.now _ (search rules) (omega arith) refl ∙ sym (pasted_fits a.out.now a.place a.run.now (omega arith))

pub returns-else-place-out : goal.returns-else-place-out
returns-else-place-out c =
    let short : length c.args.out.now < c.args.place + length c.args.run.now = elim c.else-place-out.branch [
      | else-place-out-via-then-place-out+else-run-out w ↦ omega arith
      | else-place-out-via-else-place-out w ↦ omega arith
    ] in
    sym (pasted_refused c.args.out.now c.args.place c.args.run.now short)

use Rattle.std.proofs.Common.{◌≡◌, ◌∙◌, sym, arith}
use Rattle.std.specs.Prelude.{Ok, Err}
use Rattle.recordings.specs.Recording.{checked}
use Rattle.recordings.specs.Next.{next_packet}
use Rattle.recordings.proofs.find.Goals as goal

pub returns-in_err-check : goal.returns-in_err-check
unfolding next_packet
returns-in_err-check c =
    let h : checked c.args.recording.now ≡ Err c.in_err-check.field-0.0 = sym c.check.ensures ∙ c.in_err-check.was in
    let g : c.from_residual.result ≡ Err c.in_err-check.field-0.0 = grind arith in
    rw (h, g)

pub returns : goal.returns
unfolding next_packet
returns c =
    let h : checked c.args.recording.now ≡ Ok c.in_ok-check.field-0 = sym c.check.ensures ∙ c.in_ok-check.was in
    rw (h, c.seek.ensures)

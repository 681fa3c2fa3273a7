use Rattle.std.proofs.Common.{sym, ◌∙◌, ◌*◌, rules}
use borrow.Author.Tests.{eq-eqb, ne_eqb}
use Rattle.lists.proofs.Laws.{when_true, when_false}
use Rattle.filing.specs.Filing.{blank}
use Rattle.shapes.specs.Shape.{value, size}
use Rattle.shapes.proofs.Rows.{map-collected}
use Rattle.registerbytes.specs.Register.{record_shape, record_from, record_at, register_size, register_of}
use Rattle.lists.proofs.Made.{is_made}
use Rattle.registerbytes.proofs.Records.{records_collected}
use Rattle.registerbytes.proofs.read.Goals as goal

pub returns-then-faults-ne-REGISTER : goal.returns-then-faults-ne-REGISTER
unfolding register_of
returns-then-faults-ne-REGISTER c = c.empty.ensures ∙ sym (when_false _ _ _ (ne_eqb _ register_size c.if-faults-ne-REGISTER.true))

pub returns : goal.returns
unfolding register_of value
returns c =
    let b = c.args.faults.now in
    is_made _ _ (λ k. record_at b (k * 7)) (λ i y q h. search rules) c.from_fn.result 64 blank c.from_fn.ensures.items
    ∙ records_collected b 64 0
    ∙ sym (when_true _ _ _ (eq-eqb _ register_size c.if-faults-ne-REGISTER.false) ∙ map-collected (size record_shape) record_from (value record_shape b) 64 0)

use Prim.Native.Nat.{◌≤◌}
use Rattle.std.specs.Prelude.{IfSome}
use Rattle.reading.specs.declared.Reading.{Reading}
use Rattle.reading.proofs.Theorems.{values_at_most_22}
use mathlib.Core.Path.{sym, subst, ◌∙◌}
use Rattle.std.specs.Prelude.{Option}
use Rattle.hostreads.proofs.naupelys_read_reply.Goals as goal

pub reading_bytes-requires : goal.reading_bytes-requires
reading_bytes-requires c =
    subst (λ (o : Option Reading). IfSome o (λ r. r.count ≤ 22)) (sym c.read.ensures ∙ c.in-Some.is) (values_at_most_22 c.args.bytes.now)

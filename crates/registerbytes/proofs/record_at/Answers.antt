use mathlib.Core.Path.{sym}
use Rattle.registerbytes.proofs.Records.{bytes_of_record}
use Rattle.registerbytes.proofs.record_at.Goals as goal

pub returns : goal.returns
returns c = rw c.word_of.ensures (sym (bytes_of_record _ _))

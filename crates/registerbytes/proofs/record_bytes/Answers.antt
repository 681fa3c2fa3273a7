use Rattle.shapes.specs.Shape.{bytes}
use Rattle.registerbytes.proofs.record_bytes.Goals as goal

pub returns : goal.returns
unfolding bytes
returns c = rw c.word_bytes.ensures

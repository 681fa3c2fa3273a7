use native.Mathlib.Omega.{arith}
use Rattle.packets.proofs.Judgements.{right_by}
use Rattle.packets.proofs.checksum_right.Goals as goal

pub returns : goal.returns
returns c = right_by c.args.held.now c.args.n c.requires.0 c.checksum.result c.from_le_bytes.result c.checksum.ensures (omega (arith, c.from_le_bytes.ensures))

use Rattle.std.proofs.Common.{arith}
use Rattle.packets.proofs.Bytes.{padding}
use Rattle.replies.proofs.packet_of.Goals as goal

pub returns : goal.returns
returns c = let zeros = padding 22 c.args.bytes.now (omega arith) in cc

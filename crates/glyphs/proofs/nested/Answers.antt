use Rattle.std.proofs.Common.{rules, []}
use Rattle.glyphs.proofs.Flat.{nested_all}
use Rattle.glyphs.proofs.nested.Goals as goal

pub returns : goal.returns
returns c = let k = c.from_fn.ensures.items in nested_all c.args.flat _ k.long (λ g h. let q = k.at g [] h in search rules)

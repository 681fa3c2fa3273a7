use mathlib.Core.Path.{◌∙◌}
use borrow.Author.Rules.{rules}
use Rattle.picture.proofs.Turns.{put_pasted}
use Rattle.picture.proofs.draw.put_cell.Goals as goal

pub returns : goal.returns
returns c = let a = c.args in c.paste.ensures ∙ put_pasted a.cell a.bytes a.picture.now (search rules) c.requires c.told-picture

use Prim.Native.Nat.{◌+◌}
use mathlib.Core.Path.{◌≡◌, refl}
use mathlib.Core.List.{◌++◌}
use lib.ListN.{length, take, replicate}
use Rattle.composer.proofs.Ways.{trimmed}
use Rattle.commands.proofs.Forms.{laid_taken}
use Rattle.commands.proofs.with_bytes.Goals as goal

pub returns : goal.returns
returns c =
    let v = c.args.values.now in
    let b = c.args.bytes.now in
    let taken : take (length v + c.min-more.result) c.paste-2.new.out ≡ take 23 (v ++ b) =
    laid_taken v b (replicate 23 0) _ _ _ _ refl c.requires refl c.min-more.ensures c.paste.ensures c.paste-2.ensures in
    trimmed _ _ _ _ _ (rw (taken, c.from.ensures) at c.compose.ensures)

use Rattle.std.proofs.Common.{rules, arith, get_or, ◌+◌, ◌*◌, ◌/◌, ◌%◌, ◌≡◌, ◌∙◌}
use Rattle.font.proofs.program_font.Goals as goal

pub returns : goal.returns
returns c =
    let made = c.from_fn.ensures.items in (
      made.long,
      λ code row h k.
          let call = made.at (8 * code + row) 0 (omega arith) in
          let byte : get_or c.from_fn.result (8 * code + row) 0 ≡ (8 * code + row) / 8 % 64 = search rules in
          byte ∙ omega arith,
    )

-- Any two fonts that the promise allows are equal.
use mathlib.Core.Path.{◌≡◌, sym, ◌∙◌}
use Prim.Native.Nat.{◌+◌, ◌*◌, ◌/◌, ◌%◌, ◌<◌}
use native.Mathlib.Omega.{arith}
use lib.Seq.{ext_get_or}
use Rattle.lists.specs.Promise.{Determined}
use Rattle.font.specs.Font.{IsFont}

pub program_font_determined : Determined IsFont
program_font_determined f g p q =
    ext_get_or 0 f g (p.0 ∙ sym q.0)
    (λ i h. let e : 8 * (i / 8) + i % 8 ≡ i = omega arith in
    let small : i / 8 < 256 = omega (arith, p.0) in
    let row : i % 8 < 8 = omega arith in
    rw e at (p.1 (i / 8) (i % 8) small row ∙ sym (q.1 (i / 8) (i % 8) small row)))

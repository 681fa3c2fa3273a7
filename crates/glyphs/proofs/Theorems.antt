-- What holds of the glyphs over and above the functions' own promises.
use Prim.Native.Nat.{ℕ, ◌<◌}
use mathlib.Core.Path.{◌≡◌}
use mathlib.Core.List.{List, []}
use lib.ListN.{length, get_or}
use Rattle.lists.specs.Promise.{Determined}
use Rattle.lists.proofs.Theorems.{one}
use Rattle.glyphs.specs.Glyphs.{nested_of, flat_of, Reads8, Nests, SetsGlyph}
use Rattle.glyphs.specs.Source.{TellsSpecial}
use Rattle.glyphs.proofs.Flat.{nested_of_flat, flat_of_nested}

-- The glyphs nested and flat are the same glyphs: either form, taken to the other and back, is as it was.
pub nested_flat : ((glyphs : List (List ℕ)) → length glyphs ≡ 8 → ((g : ℕ) → g < 8 → length (get_or glyphs g []) ≡ 8) → nested_of (flat_of glyphs) ≡ glyphs)
    × ((flat : List ℕ) → length flat ≡ 64 → flat_of (nested_of flat) ≡ flat)
nested_flat = (nested_of_flat, flat_of_nested)

-- For each public function, any two results that its promise allows are equal.
pub eight_determined : (bytes : List ℕ) (from : ℕ) → Determined (Reads8 bytes from)
eight_determined bytes from = one _

pub nested_determined : (flat : List ℕ) → Determined (Nests flat)
nested_determined flat = one _

pub with_glyph_determined : (flat : List ℕ) (number : ℕ) (rows : List ℕ) → Determined (SetsGlyph flat number rows)
with_glyph_determined flat number rows = one _

pub is_special_determined : (code : ℕ) → Determined (TellsSpecial code)
is_special_determined code = one _

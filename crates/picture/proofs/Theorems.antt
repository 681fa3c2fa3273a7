-- What holds of painting over and above the functions' own promises.
use Prim.Native.Nat.{ℕ, ◌+◌, ◌<◌}
use mathlib.Core.Path.{◌≡◌, sym, ◌∙◌, ap}
use mathlib.Core.Logic.Iff
use mathlib.Core.Logic.{◌≢◌, ◌↔◌, ◌⊎◌}
use mathlib.Core.List.{List, []}
use native.Mathlib.Omega.{arith}
use lib.ListN.{length, get_or, set}
use Rattle.lists.specs.Promise.{Determined}
use Rattle.lists.proofs.Theorems.{one}
use Rattle.glyphs.specs.Glyphs.{nested_of, glyphs_with}
use Rattle.glyphs.proofs.Flat.{eight_whole}
use Rattle.panel.specs.declared.Shown.{Shown}
use Rattle.glyphs.specs.Source.{Source}
use Rattle.picture.specs.Draw.{Screen, screen, screen_of, drawn_from, code_drawn}
use Rattle.picture.specs.Repaint.{paintable, RepaintsSized, DrawsAll}
use Rattle.picture.proofs.Changes.{Listed, listed_differs}
use Rattle.picture.proofs.Sizes.{sized_or_left}
use Rattle.picture.proofs.Symbols.{same_source, codes_of_glyph, redrawn, length_nested, glyph_nested, nested_with}

-- For each public function, any two results that its promise allows are equal, lent buffers included.
pub repaint_determined : (before after : Screen) (font picture list : List ℕ)
    → Determined (λ (x : ℕ × (List ℕ × List ℕ)). RepaintsSized before after font picture list x.0 x.1.0 x.1.1)
repaint_determined before after font picture list = sized_or_left before after font picture list (paintable picture list)

pub draw_all_determined : (s : Screen) (font picture : List ℕ) → Determined (DrawsAll s font picture)
draw_all_determined s font picture = one _

-- Codes c and c + 8, c from 0 to 7, draw alike, whatever the glyphs and the font.
pub eight_apart : (glyphs : List (List ℕ)) (font : List ℕ) (c : ℕ) → c < 8 → code_drawn glyphs font c ≡ code_drawn glyphs font (c + 8)
unfolding code_drawn
eight_apart glyphs font c h = ap (λ (s : Source). drawn_from s glyphs font) (same_source c h)

-- Either of them written over the other, as 8 over 0, lists nothing.
pub eight_apart_not_listed : (old new : List ℕ) (glyphs : List (List ℕ)) (font : List ℕ) (cell c : ℕ) → cell < 80 → c < 8 → get_or old cell 0 ≡ c → get_or new cell 0 ≡ c + 8
    → (Listed (screen old glyphs) (screen new glyphs) font cell → ⊥) × (Listed (screen new glyphs) (screen old glyphs) font cell → ⊥)
eight_apart_not_listed old new glyphs font cell c h g a b =
    let e : code_drawn glyphs font (get_or old cell 0) ≡ code_drawn glyphs font (get_or new cell 0) = rw (a, b) (eight_apart glyphs font c g) in (
      λ o. (listed_differs (screen old glyphs) (screen new glyphs) font cell h).0 o e,
      λ o. (listed_differs (screen new glyphs) (screen old glyphs) font cell h).0 o (sym e),
    )

-- Glyph g set to other rows, as by command 9, lists exactly the cells of code g and of code g + 8.
pub redefined_lists : (s : Shown) (font : List ℕ) (g : ℕ) (rows : List ℕ) (cell : ℕ) → g < 8 → length rows ≡ 8 → cell < 80 → get_or (nested_of s.glyphs) g [] ≢ rows
    → Listed (screen_of s) (screen_of (record { text = s.text; glyphs = glyphs_with s.glyphs g rows })) font cell ↔ ((get_or s.text cell 0 ≡ g) ⊎ (get_or s.text cell 0 ≡ g + 8))
redefined_lists s font g rows cell h k l d =
    let was = nested_of s.glyphs in
    let code = get_or s.text cell 0 in
    rw (nested_with s.glyphs g rows k) (
    Iff.trans (listed_differs (screen s.text was) (screen s.text (set was g rows)) font cell l) (
    Iff.trans (redrawn was font g rows code (omega (arith, length_nested s.glyphs)) (λ e.
    d (sym (eight_whole (get_or was g []) (glyph_nested s.glyphs g h)) ∙ e ∙ eight_whole rows k)))
    (codes_of_glyph g code h)))

-- The two codes of a glyph, and which codes draw otherwise where one glyph is set.
use Prim.Native.Nat.{ℕ, zero, suc, ◌+◌, ◌%◌, ◌<◌}
use mathlib.Core.Path.{◌≡◌, refl, ◌∙◌, sym, ap}
use mathlib.Core.Logic.{◌≢◌, ◌↔◌, ◌⊎◌, inl, inr, ⊎_elim, dite}
use mathlib.Core.Bool.{Bool, true, false}
use mathlib.Core.List.{List, [], ◌∷◌}
use native.Mathlib.Omega.{arith}
use native.Mathlib.Decide.{dec_lt, ℕ_discrete}
use borrow.Author.Tests.{ltb-true, lt-ltb}
use lib.ListN.{length, get_or, set, length-set}
use lib.Seq.{get_or-set_same, get_or-set_other}
use Rattle.lists.proofs.Laws.{when_true}
use Rattle.glyphs.specs.Glyphs.{eight_from, nested_of, glyphs_with}
use Rattle.glyphs.proofs.Every.{Every, every_set}
use Rattle.glyphs.proofs.Flat.{nested_of_flat}
use Rattle.glyphs.specs.Source.{special, is_special, source_of}
use Rattle.picture.specs.Draw.{code_drawn}
use Rattle.picture.proofs.Codes.{drawn_special, drawn_font}

-- codes eight apart have the same source
pub same_source : (code : ℕ) → code < 8 → source_of code ≡ source_of (code + 8)
unfolding source_of
same_source code h =
    let e : code % 8 ≡ (code + 8) % 8 = omega arith in
    when_true _ _ _ (lt-ltb code 16 (omega arith)) ∙ ap special e ∙ sym (when_true _ _ _ (lt-ltb (code + 8) 16 (omega arith)))

-- the two codes of a glyph
pub codes_of_glyph : (g code : ℕ) → g < 8 → ((is_special code ≡ true) × (code % 8 ≡ g)) ↔ ((code ≡ g) ⊎ (code ≡ g + 8))
codes_of_glyph g code h = (
  λ p. let l = ltb-true code 16 p.0 in let e = p.1 in dite (dec_lt code 8) (λ q. inl (omega arith)) (λ q. inr (omega arith)),
  ⊎_elim (λ e. (lt-ltb code 16 (omega arith), omega arith)) (λ e. (lt-ltb code 16 (omega arith), omega arith)),
)

-- one glyph set to other rows: its codes draw otherwise, and no others
module _ (glyphs : List (List ℕ)) (bytes : List ℕ) (g : ℕ) (rows : List ℕ) (code : ℕ) where
  drawn_other : (code % 8 ≡ g → ⊥) → is_special code ≡ true → code_drawn glyphs bytes code ≡ code_drawn (set glyphs g rows) bytes code
  drawn_other n t =
      drawn_special glyphs bytes code t
      ∙ ap (λ (r : List ℕ). eight_from r 0) (sym (get_or-set_other glyphs g (code % 8) rows [] n))
      ∙ sym (drawn_special (set glyphs g rows) bytes code t)

  pub redrawn : g < length glyphs → eight_from (get_or glyphs g []) 0 ≢ eight_from rows 0
      → (code_drawn glyphs bytes code ≢ code_drawn (set glyphs g rows) bytes code) ↔ ((is_special code ≡ true) × (code % 8 ≡ g))
  redrawn h d = (split (is_special code) refl, λ p e. d (sym (was p.0 p.1) ∙ e ∙ is p.0 p.1))
    where
      was : is_special code ≡ true → code % 8 ≡ g → code_drawn glyphs bytes code ≡ eight_from (get_or glyphs g []) 0
      was t e = drawn_special glyphs bytes code t ∙ ap (λ (n : ℕ). eight_from (get_or glyphs n []) 0) e

      is : is_special code ≡ true → code % 8 ≡ g → code_drawn (set glyphs g rows) bytes code ≡ eight_from rows 0
      is t e =
          drawn_special (set glyphs g rows) bytes code t
          ∙ ap (λ (n : ℕ). eight_from (get_or (set glyphs g rows) n []) 0) e
          ∙ ap (λ (r : List ℕ). eight_from r 0) (get_or-set_same glyphs g rows [] h)

      split : (b : Bool) → is_special code ≡ b → code_drawn glyphs bytes code ≢ code_drawn (set glyphs g rows) bytes code → (is_special code ≡ true) × (code % 8 ≡ g)
      split true t n = (t, dite (ℕ_discrete (code % 8) g) (λ q. q) (λ q. absurd (n (drawn_other q t))))
      split false t n = absurd (n (drawn_font glyphs bytes code t ∙ sym (drawn_font (set glyphs g rows) bytes code t)))

-- every glyph of the flat ones has eight rows, and so it is where one of them is set
abbrev EightRows : List ℕ → Type 0
EightRows rows = length rows ≡ 8

eight_rows : (glyphs : List (List ℕ)) → Every EightRows glyphs → (g : ℕ) → g < length glyphs → length (get_or glyphs g []) ≡ 8
eight_rows [] e g h = absurd (omega arith)
eight_rows (rows ∷ glyphs) e zero h = e.0
eight_rows (rows ∷ glyphs) e (suc g) h = eight_rows glyphs e.1 g (omega arith)

module _ (flat : List ℕ) where
  each_nested : Every EightRows (nested_of flat)
  unfolding nested_of
  each_nested = (refl, (refl, (refl, (refl, (refl, (refl, (refl, (refl, tt))))))))

  pub length_nested : length (nested_of flat) ≡ 8
  unfolding nested_of
  length_nested = refl

  pub glyph_nested : (g : ℕ) → g < 8 → length (get_or (nested_of flat) g []) ≡ 8
  glyph_nested g h = eight_rows (nested_of flat) each_nested g (omega (arith, length_nested))

  pub nested_with : (g : ℕ) (rows : List ℕ) → length rows ≡ 8 → nested_of (glyphs_with flat g rows) ≡ set (nested_of flat) g rows
  nested_with g rows h =
      let e : length (set (nested_of flat) g rows) ≡ 8 = length-set (nested_of flat) g rows ∙ length_nested in
      nested_of_flat (set (nested_of flat) g rows) e (λ k l.
      eight_rows (set (nested_of flat) g rows) (every_set EightRows (nested_of flat) g rows h each_nested) k (omega arith))

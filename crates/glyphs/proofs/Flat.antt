-- Laws of the glyphs, nested and flat.
use mathlib.Core.Path.{◌≡◌, refl, sym, ◌∙◌, ap, subst}
use mathlib.Core.Logic.{dite}
use mathlib.Core.List.{List, [], ◌∷◌, map}
use Prim.Native.Nat.{ℕ, zero, suc, ◌+◌, ◌*◌, ◌<◌, ◌≤◌}
use native.Mathlib.Decide.{dec_lt}
use native.Mathlib.Omega.{arith}
use lib.ListN.{length, get_or, set, drop, length-append, drop_of_length-le}
use lib.Seq.{drop-cons, paste, set_out}
use mir.Syntax.{w8}
use mir.Val.{Val}
use denote.Array.{each, in_array}
use denote.Plain.{UInt}
use denote.Shadow.{shadow}
use Rattle.lists.specs.Runs.{pasted}
use Rattle.lists.proofs.Laws.{pasted_fits, pasted_refused}
use Rattle.glyphs.specs.Glyphs.{eight_from, nested_of, flat_first, flat_of, glyphs_with}

pub length_flat : (n : ℕ) (glyphs : List (List ℕ)) → length (flat_first n glyphs) ≡ 8 * n
unfolding flat_first
length_flat zero glyphs = refl
length_flat (suc n) glyphs = omega (arith, length-append (flat_first n glyphs) (eight_from (get_or glyphs n []) 0), length_flat n glyphs)

-- n elements of a list from k on, one by one
abbrev pub elements {ℓ} : {A : Type ℓ} → A → List A → ℕ → ℕ → List A
elements d l k zero = []
elements d l k (suc n) = get_or l k d ∷ elements d l (suc k) n

-- they are the list, where it has no more
pub all_elements {ℓ} : {A : Type ℓ} (d : A) (l : List A) (k n : ℕ) → length l ≡ k + n → elements d l k n ≡ drop k l
all_elements d l k zero h = sym (drop_of_length-le l {i = k} (omega arith))
all_elements d l k (suc n) h = rw (all_elements d l (suc k) n (omega arith)) (sym (drop-cons l k d (omega arith)))

-- eight glyphs that each have their rows
pub nested_all : (flat : List ℕ) (glyphs : List (List ℕ)) → length glyphs ≡ 8 → ((g : ℕ) → g < 8 → get_or glyphs g [] ≡ eight_from flat (8 * g)) → glyphs ≡ nested_of flat
unfolding nested_of
nested_all flat glyphs h at =
    sym (all_elements [] glyphs 0 8 h)
    ∙ (λ i. at 0 (omega arith) i ∷ at 1 (omega arith) i ∷ at 2 (omega arith) i ∷ at 3 (omega arith) i ∷ at 4 (omega arith) i ∷ at 5 (omega arith) i ∷ at 6 (omega arith) i ∷ at 7 (omega arith) i ∷ [])

pub eight_whole : (l : List ℕ) → length l ≡ 8 → eight_from l 0 ≡ l
eight_whole l h = all_elements 0 l 0 8 h

-- a glyph of an array of eight-byte arrays has eight rows
pub rows_eight : (glyphs : List (List ℕ)) (us : List Val) (g : ℕ) → g < length glyphs → shadow (each (List ℕ) (in_array ℕ (UInt w8).own_val 8) glyphs us) → length (get_or glyphs g []) ≡ 8
rows_eight [] us g h p = absurd (omega arith)
rows_eight (rows ∷ glyphs) [] g h p = absurd p
rows_eight (rows ∷ glyphs) (u ∷ us) zero h p = p.0.1.0.1
rows_eight (rows ∷ glyphs) (u ∷ us) (suc g) h p = rows_eight glyphs us g (omega arith) p.1

rows_whole : (glyphs : List (List ℕ)) → ((g : ℕ) → g < length glyphs → length (get_or glyphs g []) ≡ 8) → map (λ rows. eight_from rows 0) glyphs ≡ glyphs
rows_whole [] h = refl
rows_whole (rows ∷ glyphs) h =
    let e = eight_whole rows (h 0 (omega arith)) in
    let f = rows_whole glyphs (λ g l. h (suc g) (omega arith)) in
    cc

pub flat_of_nested : (flat : List ℕ) → length flat ≡ 64 → flat_of (nested_of flat) ≡ flat
unfolding flat_of flat_first nested_of
flat_of_nested flat h = all_elements 0 flat 0 64 h

pub nested_of_flat : (glyphs : List (List ℕ)) → length glyphs ≡ 8 → ((g : ℕ) → g < 8 → length (get_or glyphs g []) ≡ 8) → nested_of (flat_of glyphs) ≡ glyphs
unfolding flat_of flat_first nested_of
nested_of_flat glyphs h each =
    ap (map (λ (rows : List ℕ). eight_from rows 0)) (all_elements [] glyphs 0 8 h) ∙ rows_whole glyphs (λ g l. each g (omega arith))

-- one glyph set in the flat form: its eight rows laid over the old ones, and nothing where there is none of that number
abbrev Laid : List ℕ → ℕ → List ℕ → Type 0
Laid flat number rows = paste flat (8 * number) rows 8 ≡ glyphs_with flat number rows

laid_by_elements : (flat : List ℕ) (number : ℕ) (rows : List ℕ) → number < 8 → Laid (elements 0 flat 0 64) number (eight_from rows 0)
unfolding flat_of flat_first nested_of
laid_by_elements flat zero rows h = refl
laid_by_elements flat (suc zero) rows h = refl
laid_by_elements flat (suc (suc zero)) rows h = refl
laid_by_elements flat (suc (suc (suc zero))) rows h = refl
laid_by_elements flat (suc (suc (suc (suc zero)))) rows h = refl
laid_by_elements flat (suc (suc (suc (suc (suc zero))))) rows h = refl
laid_by_elements flat (suc (suc (suc (suc (suc (suc zero)))))) rows h = refl
laid_by_elements flat (suc (suc (suc (suc (suc (suc (suc zero))))))) rows h = refl
laid_by_elements flat (suc (suc (suc (suc (suc (suc (suc (suc number)))))))) rows h = absurd (omega arith)

set_none : (flat : List ℕ) (number : ℕ) (rows : List ℕ) → 8 ≤ number → set (nested_of flat) number rows ≡ nested_of flat
unfolding nested_of
set_none flat number rows h = set_out (nested_of flat) number rows h

pub glyph_laid : (flat : List ℕ) (number : ℕ) (rows : List ℕ) → length flat ≡ 64 → length rows ≡ 8 → pasted flat (8 * number) rows ≡ glyphs_with flat number rows
glyph_laid flat number rows h k =
    dite (dec_lt number 8)
    (λ l.
    let whole : elements 0 flat 0 64 ≡ flat = all_elements 0 flat 0 64 h in
    let same : Laid flat number rows = subst (λ (f : List ℕ). Laid f number rows) whole (subst (Laid (elements 0 flat 0 64) number) (eight_whole rows k) (laid_by_elements flat number rows l)) in
    pasted_fits flat (8 * number) rows (omega arith) ∙ rw k same)
    (λ l.
    let none : set (nested_of flat) number rows ≡ nested_of flat = set_none flat number rows (omega arith) in
    pasted_refused flat (8 * number) rows (omega arith) ∙ sym (ap flat_of none ∙ flat_of_nested flat h))

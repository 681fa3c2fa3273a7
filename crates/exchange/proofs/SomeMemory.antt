-- Some panel for each reply of command 10 that a host reads: its text or its glyphs have the eight bytes at the address.
use Prim.Native.Nat.{ℕ, ◌+◌, ◌*◌, ◌-◌, ◌/◌, ◌%◌, ◌≤◌}
use mathlib.Core.Path.{◌≡◌, refl, sym, ◌∙◌, ap}
use mathlib.Core.Bool.{Bool, true, false, ◌&&◌, ◌||◌, and-eq-true_iff}
use mathlib.Core.List.{List, [], ◌∷◌}
use native.Mathlib.Omega.{arith}
use borrow.Author.Tests.{eqb-true, leb-true, lt-ltb, le-ltb}
use lib.ListN.{length, get_or, take, drop, length-drop}
use lib.Seq.{drop-cons}
use Rattle.std.specs.Prelude.{Ok, is_ok}
use Rattle.lists.specs.Tests.{when◌then◌else◌, ◌≤?◌, ◌=?◌, all_at_most}
use Rattle.lists.proofs.Laws.{when_true, when_false}
use Rattle.table.specs.Table.{look_up}
use Rattle.shapes.specs.Shape.{Bytes}
use Rattle.verdict.specs.Verdict.{in_range, verdict_of}
use Rattle.panel.specs.declared.Shown.{Shown}
use Rattle.panel.specs.State.{no_keys, low_pins}
use Rattle.replies.specs.Replies.{memory, reply_data}
use Rattle.reading.specs.Reading.{memory_reply_size, is_memory}
use Rattle.exchange.proofs.Made.{some_reply}
use Rattle.exchange.proofs.AreBytes.{bytes_each, each_bytes, drop-bytes}
use Rattle.exchange.proofs.Data.{known}
use Rattle.exchange.proofs.Laid.{laid_in, length-laid, laid_eight, laid_passes, laid_bytes}
use Rattle.exchange.proofs.Panels.{panel_with, ProperShown, Proper, possible_with, holds_nothing}
use Rattle.exchange.proofs.Some.{Replied, own, plain, plain_proper, allowed_is}

-- one of two tests that hold together
either_holds : {P : Type 0} (a b : Bool) → (a || b) ≡ true → (a ≡ true → P) → (b ≡ true → P) → P
either_holds true b e f g = f refl
either_holds false b e f g = g e

-- an address that the command allows, and eight bytes
module _ (d : List ℕ) (bytes : Bytes d) (nine : length d ≡ memory_reply_size) (v : verdict_of 10 (take 1 d) ≡ Ok tt) where
  abbrev address : ℕ
  address = get_or d 0 0

  abbrev rows : List ℕ
  rows = drop 1 d

  split : address ∷ rows ≡ d
  split = sym (drop-cons d 0 0 (omega arith))

  eight : length rows ≡ 8
  eight = omega (arith, length-drop 1 d)

  asked : take 1 d ≡ address ∷ []
  asked = ap (take 1) (sym split)

  allows : verdict_of 10 (address ∷ []) ≡ Ok tt
  allows = ap (verdict_of 10) (sym asked) ∙ v

  in_range_lem : ((64 ≤? address) && (address ≤? 120) || (128 ≤? address) && (address % 32 ≤? 12)) ≡ true
  unfolding look_up in_range when◌then◌else◌
  in_range_lem = (known _ (address ∷ []) allows).each 0 (omega arith)

  -- what shows the eight bytes at the address replies them
  memory_some : (s : Shown) → ProperShown s → memory s address ≡ rows → Replied 10 d
  unfolding reply_data when◌then◌else◌
  memory_some s shown e =
      let o = own s plain.wires no_keys low_pins plain.flash in
      let p = plain_proper in
      let proper : Proper o = record { shown = shown; wires = p.wires; keys = p.keys; pins = p.pins; flash_size_lem = p.flash_size_lem; flash = p.flash } in
      some_reply (panel_with o) (possible_with o proper) (holds_nothing o) 10 (omega arith) (address ∷ []) (omega arith) (each_bytes (address ∷ []) (bytes 0, tt)) allows d (ap (λ (x : List ℕ). address ∷ x) e ∙ split)

  -- below 128 they are rows of glyphs
  glyphs_some : 64 ≤ address → address ≤ 120 → all_at_most 63 rows ≡ true → Replied 10 d
  unfolding memory
  glyphs_some low high can =
      let p = plain_proper in
      let g = laid_in 64 (address - 64) rows in
      memory_some (record { text = plain.shown.text; glyphs = g })
      record { text_size = p.shown.text_size; text = p.shown.text; glyphs_size = length-laid 64 (address - 64) rows eight (omega arith); glyphs = laid_passes (λ x. x ≤? 63) refl 64 (address - 64) rows can }
      (when_true _ _ _ (lt-ltb address 128 (omega arith)) ∙ laid_eight 64 (address - 64) rows eight)

  -- and from 128 on codes of the text
  text_some : 128 ≤ address → address % 32 ≤ 12 → Replied 10 d
  unfolding memory
  text_some low column =
      let p = plain_proper in
      let byte = bytes 0 in
      let k = 20 * ((address - 128) / 32) + (address - 128) % 32 in
      memory_some (record { text = laid_in 80 k rows; glyphs = plain.shown.glyphs })
      record { text_size = length-laid 80 k rows eight (omega arith); text = each_bytes (laid_in 80 k rows) (laid_bytes 80 k rows (bytes_each rows (drop-bytes 1 d bytes))); glyphs_size = p.shown.glyphs_size; glyphs = p.shown.glyphs }
      (when_false _ _ _ (le-ltb address 128 low) ∙ laid_eight 80 k rows eight)

pub memory_can_some : (d : List ℕ) → Bytes d → is_memory d ≡ true → Replied 10 d
unfolding is_memory
memory_can_some d bytes can =
    let both = (and-eq-true_iff ((length d =? memory_reply_size) && is_ok (verdict_of 10 (take 1 d))) _).0 can in
    let known = (and-eq-true_iff (length d =? memory_reply_size) _).0 both.0 in
    let nine = eqb-true _ _ known.0 in
    let v = allowed_is _ known.1 in
    either_holds _ _ (in_range_lem d bytes nine v)
    (λ e.
    let h = (and-eq-true_iff (64 ≤? get_or d 0 0) (get_or d 0 0 ≤? 120)).0 e in
    let low : 64 ≤ get_or d 0 0 = leb-true _ _ h.0 in
    let high : get_or d 0 0 ≤ 120 = leb-true _ _ h.1 in
    glyphs_some d bytes nine v low high (either_holds (128 ≤? get_or d 0 0) _ both.1 (λ f. let far : 128 ≤ get_or d 0 0 = leb-true _ _ f in absurd (omega arith)) (λ f. f)))
    (λ e. let h = (and-eq-true_iff (128 ≤? get_or d 0 0) (get_or d 0 0 % 32 ≤? 12)).0 e in text_some d bytes nine v (leb-true _ _ h.0) (leb-true _ _ h.1))

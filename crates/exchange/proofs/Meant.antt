-- What a host takes the packets of a panel for.
use Prim.Native.Nat.{ℕ, zero, suc, ◌+◌, ◌-◌, ◌<◌}
use mathlib.Core.Path.{◌≡◌, refl}
use mathlib.Core.Bool.{Bool, true, false}
use mathlib.Core.List.{List, [], ◌∷◌}
use native.Mathlib.Omega.{arith}
use borrow.Author.Tests.{lt-ltb, le-ltb, lt-leb, ne_eqb}
use Rattle.std.specs.Prelude.{Some}
use Rattle.lists.specs.Tests.{when◌then◌else◌}
use Rattle.lists.specs.First.{first_below}
use Rattle.events.specs.Keys.{report_code}
use Rattle.reading.specs.declared.Meaning.TheVariants.{Reply, ErrorReply, Report}
use Rattle.reading.specs.Reading.{can_reply, key_pressed, key_reported, meaning_of}

module _ (code : ℕ) (small : code < 64) where
  pub reply_means : (d : List ℕ) → can_reply code d ≡ true → meaning_of (64 + code) d ≡ Some (Reply code)
  unfolding meaning_of when◌then◌else◌
  reply_means d can =
      let e : 64 + code - 64 ≡ code = omega arith in
      rw (le-ltb (64 + code) 64 (omega arith), lt-ltb (64 + code) 128 (omega arith), e, can)

  pub error_means : (code ≡ 0 → ⊥) → meaning_of (192 + code) [] ≡ Some (ErrorReply code)
  unfolding meaning_of when◌then◌else◌
  error_means some =
      let e : 192 + code - 192 ≡ code = omega arith in
      rw (le-ltb (192 + code) 64 (omega arith), le-ltb (192 + code) 128 (omega arith), ne_eqb (192 + code) 128 (λ (h : 192 + code ≡ 128). omega arith), lt-leb (192 + code) 192 (omega arith), e)

-- each of the six keys
pub six : (P : ℕ → Type 0) → P 0 → P 1 → P 2 → P 3 → P 4 → P 5 → (number : ℕ) → number < 6 → P number
six P p0 p1 p2 p3 p4 p5 zero h = p0
six P p0 p1 p2 p3 p4 p5 (suc zero) h = p1
six P p0 p1 p2 p3 p4 p5 (suc (suc zero)) h = p2
six P p0 p1 p2 p3 p4 p5 (suc (suc (suc zero))) h = p3
six P p0 p1 p2 p3 p4 p5 (suc (suc (suc (suc zero)))) h = p4
six P p0 p1 p2 p3 p4 p5 (suc (suc (suc (suc (suc zero))))) h = p5
six P p0 p1 p2 p3 p4 p5 (suc (suc (suc (suc (suc (suc n)))))) h = absurd (omega arith)

pub report_means : (down : Bool) (number : ℕ) → number < 6 → meaning_of 128 (report_code down number ∷ []) ≡ Some (Report number down)
unfolding meaning_of key_reported key_pressed first_below when◌then◌else◌
report_means true number h = six (λ (n : ℕ). meaning_of 128 (report_code true n ∷ []) ≡ Some (Report n true)) refl refl refl refl refl refl number h
report_means false number h = six (λ (n : ℕ). meaning_of 128 (report_code false n ∷ []) ≡ Some (Report n false)) refl refl refl refl refl refl number h

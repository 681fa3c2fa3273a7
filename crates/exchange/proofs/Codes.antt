-- The six commands that reply data, and all others.
use Prim.Native.Nat.{ℕ}
use mathlib.Core.Path.{◌≡◌, refl}
use mathlib.Core.Bool.{Bool, true, false, ◌&&◌}
use mathlib.Core.List.{List, []}
use lib.ListN.{length}
use borrow.Author.Tests.{eqb-true}
use Rattle.std.specs.Prelude.{is_some}
use Rattle.lists.specs.Tests.{when◌then◌else◌, ◌=?◌}
use Rattle.table.specs.Table.{table, look_up}
use Rattle.panel.specs.declared.Body.{Body}
use Rattle.replies.specs.Replies.{reply_data}
use Rattle.reading.specs.Reading.{can_reply}

-- a command that only acknowledges
pub record Bare (code : ℕ) : Type 0 where
  pub not_0 : (code =? 0) ≡ false
  pub not_1 : (code =? 1) ≡ false
  pub not_3 : (code =? 3) ≡ false
  pub not_10 : (code =? 10) ≡ false
  pub not_24 : (code =? 24) ≡ false
  pub not_35 : (code =? 35) ≡ false

-- a code is a number, or it is not
either : (P : ℕ → Type 0) (code c : ℕ) (t : Bool) → (code =? c) ≡ t → P c → ((code =? c) ≡ false → P code) → P code
either P code c true e this other = rw (eqb-true code c e) this
either P code c false e this other = other e

pub by_code : (P : ℕ → Type 0) (code : ℕ) → P 0 → P 1 → P 3 → P 10 → P 24 → P 35 → (Bare code → P code) → P code
by_code P code p0 p1 p3 p10 p24 p35 other =
    either P code 0 _ refl p0 (λ n0.
    either P code 1 _ refl p1 (λ n1.
    either P code 3 _ refl p3 (λ n3.
    either P code 10 _ refl p10 (λ n10.
    either P code 24 _ refl p24 (λ n24.
    either P code 35 _ refl p35 (λ n35. other record { not_0 = n0; not_1 = n1; not_3 = n3; not_10 = n10; not_24 = n24; not_35 = n35 }))))))

module _ (code : ℕ) (bare : Bare code) (d : List ℕ) where
  pub bare_reply : (b : Body) → reply_data code d b ≡ []
  unfolding reply_data when◌then◌else◌
  bare_reply b = rw (bare.not_0, bare.not_1, bare.not_3, bare.not_10, bare.not_24, bare.not_35)

  pub bare_can : can_reply code d ≡ (is_some (look_up code table) && (length d =? 0))
  unfolding can_reply when◌then◌else◌
  bare_can = rw (bare.not_0, bare.not_1, bare.not_3, bare.not_10, bare.not_24, bare.not_35)

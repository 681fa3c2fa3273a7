-- For each line of text, any two texts that its promise allows are equal, the lent buffer included.
use mathlib.Core.List.{List}
use Prim.Native.Nat.{ℕ}
use Rattle.lists.specs.Promise.{Determined}
use Rattle.wording.proofs.Theorems.{filled_determined}
use Rattle.listing.specs.Listing.{ListsPacket, ListsTotals, ListsRefusal}

pub packet_determined : (out : List ℕ) (packet entry offset kind : ℕ) (content : List ℕ)
    → Determined (λ (x : ℕ × List ℕ). ListsPacket out packet entry offset kind content x.0 x.1)
packet_determined out packet entry offset kind content = filled_determined out _ _

pub totals_determined : (out : List ℕ) (packets entries bytes : ℕ) → Determined (λ (x : ℕ × List ℕ). ListsTotals out packets entries bytes x.0 x.1)
totals_determined out packets entries bytes = filled_determined out _ _

pub refusal_determined : (out : List ℕ) (number : ℕ) → Determined (λ (x : ℕ × List ℕ). ListsRefusal out number x.0 x.1)
refusal_determined out number = filled_determined out _ _

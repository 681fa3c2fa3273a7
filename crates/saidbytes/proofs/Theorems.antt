-- What holds of the 16 bytes over and above the functions' own promises.
use Prim.Native.Nat.{ℕ}
use mathlib.Core.Path.{◌≡◌, refl}
use mathlib.Core.List.{List, [], ◌∷◌}
use lib.ListN.{length}
use Rattle.lists.specs.Promise.{Determined}
use Rattle.lists.proofs.Theorems.{one, and}
use Rattle.shapes.specs.Shape.{size, places, value}
use Rattle.shapes.proofs.Laws.{read_back, length-bytes}
use Rattle.framing.specs.declared.Counts.{Counts}
use Rattle.answers.specs.declared.Answer.{Answer}
use Rattle.answers.specs.declared.Check.{Check}
use Rattle.answers.specs.declared.Numbers.{Numbers}
use Rattle.saidbytes.specs.Says.{numbers_shape, counts_shape, said_shape, said_parts, said_bytes, SaidFits, Says, SaysRefused}

-- The places, computed: the numbers of the table in include/naupelys.h.
pub said_size : size said_shape ≡ 16
said_size = refl

pub numbers_places : places numbers_shape 0 ≡ 0 ∷ 1 ∷ 2 ∷ 3 ∷ []
numbers_places = refl

pub counts_places : places counts_shape (size numbers_shape) ≡ 4 ∷ 6 ∷ 8 ∷ []
counts_places = refl

pub said_places : places said_shape 0 ≡ 0 ∷ 4 ∷ 12 ∷ 13 ∷ 14 ∷ []
said_places = refl

module _ (n : Numbers) (c : Counts) (reply listed : ℕ) where
  pub length-said : length (said_bytes n c reply listed) ≡ size said_shape
  unfolding said_bytes
  length-said = length-bytes said_shape (said_parts n c reply listed) ((tt, (tt, (tt, tt))), ((tt, (tt, tt)), (tt, (tt, refl))))

  -- What a call says, read from its 16 bytes little end first, are its numbers.
  pub said_read_back : SaidFits c reply listed → value said_shape (said_bytes n c reply listed) 0 ≡ said_parts n c reply listed
  unfolding said_bytes
  said_read_back fits =
      read_back said_shape (said_parts n c reply listed) ((tt, (tt, (tt, tt))), ((fits.taken, (fits.dropped, fits.checked)), (fits.reply, (fits.listed, refl))))

-- For each public function, any two results that its promise allows are equal, the lent bytes included.
pub says_write_determined : (a : Answer) (c : Counts) (reply listed : ℕ) → Determined (λ (x : ℕ × List ℕ). Says a c reply listed x.0 x.1)
says_write_determined a c reply listed = and (one _) (one _)

pub says_refused_determined : (check : Check) → Determined (λ (x : ℕ × List ℕ). SaysRefused check x.0 x.1)
says_refused_determined check = says_write_determined _ _ _ _

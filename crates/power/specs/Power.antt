-- What power-on promises.
use Rattle.std.specs.Prelude.{ℕ, ◌≡◌, List, [], ◌∷◌, length}
use Rattle.lists.specs.Tests.{◌=?◌}
use Rattle.panel.specs.State.{powered_on}
use Rattle.picture.specs.Draw.{picture_size, font_size, drawn, screen_of}
use Rattle.answers.specs.declared.Check.TheVariants.{PictureSize, FontSize}
use Rattle.answers.specs.declared.Said.{Said}
use Rattle.answers.specs.Answer.{refused_call, accepted_call}
use Rattle.answers.specs.Checks.{Test, test, decided}

-- "power-on 12 and 13"
abbrev pub power_tests : ℕ → ℕ → List Test
power_tests picture font = test (picture =? picture_size) PictureSize ∷ test (font =? font_size) FontSize ∷ []

-- a refused power-on "still returns the power-on state"; an accepted one answers 3
abbrev pub power_said : List ℕ → List ℕ → Said
power_said picture font = decided (power_tests (length picture) (length font)) (refused_call powered_on) (accepted_call powered_on 0)

-- "Power-on draws all 640 picture bytes and has no list."
abbrev pub power_picture : List ℕ → List ℕ → List ℕ
power_picture picture font = decided (power_tests (length picture) (length font)) (λ check. picture) (drawn (screen_of powered_on.body.live.shown) font)

-- what `power_on` promises of its result and of the picture
abbrev pub PowersOn : List ℕ → List ℕ → Said → List ℕ → Type 0
PowersOn picture font r picture' = (r ≡ power_said picture font) × (picture' ≡ power_picture picture font)

-- Pin events.
use Rattle.std.specs.Prelude.{ℕ, ◌≡◌, Bool, true, false, List, [], ◌∷◌}
use Rattle.lists.specs.Tests.{◌≤?◌}
use Rattle.bits.specs.Bits.{is_on, with_bit, without_bit}
use Rattle.panel.specs.declared.Pins.{Pins}
use Rattle.panel.specs.declared.Panel.{Panel}
use Rattle.panel.specs.State.{with_pins, with_body}
use Rattle.ranges.specs.Ranges.{in_ranges}
use Rattle.answers.specs.declared.Check.TheVariants.{StateRange, KeyOrPin}
use Rattle.answers.specs.declared.Said.{Said}
use Rattle.answers.specs.Answer.{refused_call, accepted_call}
use Rattle.answers.specs.Checks.{Test, test, decided}

-- from a level to a level: "A pin event with the level unchanged marks no edge."
unfoldable pub pin_moved : Bool → Bool → ℕ → Pins → Pins
pin_moved true true number p = p
pin_moved false false number p = p
pin_moved false true number p = record { last = with_bit p.last number; fell = p.fell; rose = with_bit p.rose number }
pin_moved true false number p = record { last = without_bit p.last number; fell = with_bit p.fell number; rose = p.rose }

abbrev pub pin_event : Bool → ℕ → Pins → Pins
pin_event high number p = pin_moved (is_on p.last number) high number p

-- "pin calls 10 and 17"
abbrev pub pin_tests : Bool → ℕ → List Test
pin_tests in_range number = test in_range StateRange ∷ test (number ≤? 4) KeyOrPin ∷ []

abbrev pub pin_accepted : Panel → ℕ → Bool → Said
pin_accepted p number high = accepted_call (with_body p (with_pins p.body (pin_event high number p.body.pins))) 0

abbrev pub pin_said : Panel → ℕ → Bool → Said
pin_said p number high = decided (pin_tests (in_ranges p) number) (refused_call p) (pin_accepted p number high)

-- what `pin` promises
abbrev pub Moves : Panel → ℕ → Bool → Said → Type 0
Moves p number high r = r ≡ pin_said p number high

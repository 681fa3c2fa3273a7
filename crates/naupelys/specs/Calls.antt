-- What power-on, key, pin and symbol cells over lent bytes promise of the number that they return and of each byte lent to them; what the
-- line call promises is `LineBytes` of linebytes.
use Rattle.std.specs.Prelude.{ℕ, ◌≡◌, Bool, Option, Some, None, List}
use Rattle.lists.specs.Tests.{when◌then◌else◌, ◌<?◌}
use Rattle.panel.specs.declared.Panel.{Panel}
use Rattle.panel.specs.State.{powered_on}
use Rattle.answers.specs.declared.Said.{Said}
use Rattle.power.specs.Power.{power_said, power_picture}
use Rattle.events.specs.Keys.{key_said, key_reply}
use Rattle.events.specs.Pins.{pin_said}
use Rattle.symbols.specs.Symbols.{cells_said, cells_list}
use Rattle.statebytes.specs.State.{bytes_of, is_state, on_state, state_with}
use Rattle.saidbytes.specs.Says.{number_of, bytes_said, no_state}
use Rattle.linebytes.specs.Line.{state_after}

-- what `naupelys_power_on` promises: "with a state of a wrong size nothing is written"
pub record PowerOnBytes (s p font : List ℕ) (n : ℕ) (s' p' said' : List ℕ) : Type 0 where
  pub number : n ≡ (when is_state s then number_of (power_said p font) else 10)
  pub state : s' ≡ (when is_state s then bytes_of powered_on else s)
  pub picture : p' ≡ (when is_state s then power_picture p font else p)
  pub said : said' ≡ (when is_state s then bytes_said (power_said p font) else no_state)

-- the panel that a call reads, none where the bytes are no state
unfoldable pub panel_in : List ℕ → Option Panel
panel_in state = on_state state None Some

-- a call on a state's bytes, by what it says on a panel; bytes that are no state are answered 10 and stay
pub record OnBytes (said_on : Panel → Said) (s : List ℕ) (n : ℕ) (s' said' : List ℕ) : Type 0 where
  pub number : n ≡ on_state s 10 (λ p. number_of (said_on p))
  pub state : s' ≡ on_state s s (λ p. state_after s (said_on p))
  pub said : said' ≡ on_state s no_state (λ p. bytes_said (said_on p))

-- what `naupelys_key` promises
abbrev pub KeyBytes : List ℕ → ℕ → Bool → List ℕ → ℕ → List ℕ → List ℕ → List ℕ → Type 0
KeyBytes s key down r n s' r' said' = OnBytes (λ p. key_said p key down r) s n s' said' × (r' ≡ on_state s r (λ p. key_reply p key down r))

-- what `naupelys_pin` promises
abbrev pub PinBytes : List ℕ → ℕ → Bool → ℕ → List ℕ → List ℕ → Type 0
PinBytes s pin high = OnBytes (λ p. pin_said p pin high) s

-- what `naupelys_symbol_cells` promises; the state is only lent to be read
pub record CellsBytes (s : List ℕ) (glyph : ℕ) (list : List ℕ) (n : ℕ) (list' said' : List ℕ) : Type 0 where
  pub number : n ≡ on_state s 10 (λ p. number_of (cells_said p glyph list))
  pub cells : list' ≡ on_state s list (λ p. cells_list p glyph list)
  pub said : said' ≡ on_state s no_state (λ p. bytes_said (cells_said p glyph list))

-- what `told` promises: the number that it returns and the 16 bytes
abbrev pub Told : Said → ℕ → List ℕ → Type 0
Told s number said' = (number ≡ number_of s) × (said' ≡ bytes_said s)

-- the end of a call on a state: its number, the state written unless the call was refused by number, and what it says
abbrev pub EndsCall : List ℕ → Said → ℕ → List ℕ → List ℕ → Type 0
EndsCall state s number state' said' =
    (number ≡ number_of s) × (state' ≡ when number_of s <? 10 then state_with state s.panel else state) × (said' ≡ bytes_said s)

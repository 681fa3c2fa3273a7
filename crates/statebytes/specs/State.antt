-- The panel's state as bytes: every run of bytes of the state's size is a state.
use Rattle.std.specs.Prelude.{ℕ, ◌≡◌, Bool, false, List, length}
use Rattle.lists.specs.Tests.{when◌then◌else◌, ◌=?◌}
use Rattle.lists.specs.Runs.{pasted}
use Rattle.shapes.specs.Shape.{size, bytes, value, Fits}
use Rattle.panel.specs.declared.Line.{Line}
use Rattle.panel.specs.declared.Body.{Body}
use Rattle.panel.specs.declared.Panel.{Panel}
use Rattle.panel.specs.State.{powered_on}
use Rattle.ranges.specs.Ranges.{in_ranges}
use Rattle.statebytes.specs.Layout.{line_shape, line_parts, panel_shape, panel_parts, panel_from}

abbrev pub state_size : ℕ
state_size = size panel_shape

-- the panel as its bytes
unfoldable pub bytes_of : Panel → List ℕ
bytes_of p = bytes panel_shape (panel_parts p)

-- and back
unfoldable pub panel_of : List ℕ → Panel
panel_of b = panel_from (value panel_shape b 0)

-- as many bytes as a state has
abbrev pub is_state : List ℕ → Bool
is_state b = length b =? state_size

-- how long its type makes each array of a panel; a count that one byte holds, and a number of 32 bits
abbrev pub PanelFits : Panel → Type 0
PanelFits p = Fits panel_shape (panel_parts p)

-- what a call makes of the panel that the state's bytes are; bytes that are no state are refused
unfoldable pub on_state : {A : Type 0} → List ℕ → A → (Panel → A) → A
on_state state refused call = when is_state state then call (panel_of state) else refused

-- the bytes with the panel written; left alone where they are no state
unfoldable pub state_with : List ℕ → Panel → List ℕ
state_with state p = when is_state state then bytes_of p else state

-- the bytes with the line's part written, and the body as it stands
unfoldable pub line_with : List ℕ → Line → List ℕ
line_with state l = when is_state state then pasted state 0 (bytes line_shape (line_parts l)) else state

-- whether the bytes are a state in its ranges
unfoldable pub ranges_of : List ℕ → Bool
ranges_of b = when is_state b then in_ranges (panel_of b) else false

-- the line's part, and the body
unfoldable pub line_read_of : List ℕ → Line
line_read_of b = when is_state b then (panel_of b).line else powered_on.line

unfoldable pub body_read_of : List ℕ → Body
body_read_of b = when is_state b then (panel_of b).body else powered_on.body

-- what `read_line`, `read_body` and `in_ranges` promise
abbrev pub ReadsLine : List ℕ → Line → Type 0
ReadsLine state r = r ≡ line_read_of state

abbrev pub ReadsBody : List ℕ → Body → Type 0
ReadsBody state r = r ≡ body_read_of state

abbrev pub RangesState : List ℕ → Bool → Type 0
RangesState state r = r ≡ ranges_of state

-- what `write` and `write_line` promise of the bytes
abbrev pub WritesState : List ℕ → Line → Body → List ℕ → Type 0
WritesState state l b state' = state' ≡ state_with state (record { line = l; body = b })

abbrev pub WritesLine : List ℕ → Line → List ℕ → Type 0
WritesLine state l state' = state' ≡ line_with state l

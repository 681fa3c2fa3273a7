-- What holds of the state's bytes over and above the functions' own promises.
use Prim.Native.Nat.{ℕ, ◌<◌}
use mathlib.Core.Path.{◌≡◌, refl, sym, ◌∙◌, ap}
use mathlib.Core.List.{List, [], ◌∷◌, ◌++◌}
use native.Mathlib.Omega.{arith}
use lib.ListN.{length, drop, length-drop}
use lib.Seq.{take_all}
use mathlib.Core.Bool.{true}
use borrow.Author.Tests.{eq-eqb}
use Rattle.lists.proofs.Laws.{when_true}
use Rattle.shapes.specs.Shape.{bytes, value, size, places, Sized, Fits, Bytes}
use Rattle.shapes.proofs.Laws.{read_back, written_back, value_fits, length-bytes, fits_sized}
use Rattle.shapes.proofs.Laid.{written_out}
use Rattle.lists.specs.Promise.{Determined}
use Rattle.lists.proofs.Theorems.{one}
use Rattle.packets.specs.declared.Hold.{Hold}
use Rattle.panel.specs.declared.Line.{Line}
use Rattle.panel.specs.declared.Panel.{Panel}
use Rattle.panel.specs.State.{factory_settings, powered_on, line_holding, line_unfiled}
use Rattle.statebytes.specs.Layout.{line_shape, line_parts, shown_shape, cursor_shape, cursor_place, dials_shape, dials_place, masks_shape, masks_place, wires_shape, wires_place, settings_shape, body_shape, body_place, panel_shape, panel_parts, panel_from}
use Rattle.statebytes.specs.State.{state_size, bytes_of, panel_of, is_state, PanelFits, line_with, ReadsLine, WritesLine}

-- The places, computed: the numbers of the tables in include/naupelys.h.
pub size_is : state_size ≡ 470
size_is = refl

pub line_places : places line_shape 0 ≡ 0 ∷ 1 ∷ 26 ∷ []
line_places = refl

pub settings_size : size settings_shape ≡ 169
settings_size = refl

pub shown_places : places shown_shape 0 ≡ 0 ∷ 80 ∷ []
shown_places = refl

pub cursor_places : places cursor_shape cursor_place ≡ 144 ∷ 145 ∷ []
cursor_places = refl

pub dials_places : places dials_shape dials_place ≡ 146 ∷ 147 ∷ 148 ∷ []
dials_places = refl

pub masks_places : places masks_shape masks_place ≡ 149 ∷ 150 ∷ []
masks_places = refl

pub wires_places : places wires_shape wires_place ≡ 151 ∷ 164 ∷ []
wires_places = refl

pub body_places : places body_shape body_place ≡ 30 ∷ 199 ∷ 368 ∷ 371 ∷ 374 ∷ 390 ∷ []
body_places = refl

pub length-state : (p : Panel) → PanelFits p → length (bytes_of p) ≡ state_size
unfolding bytes_of
length-state p fits = length-bytes panel_shape (panel_parts p) (fits_sized panel_shape (panel_parts p) fits)

-- A panel written as bytes is a state, and read again the same panel, if its arrays are as long as their types make them.
pub panel_read_back : (p : Panel) → PanelFits p → (is_state (bytes_of p) ≡ true) × (panel_of (bytes_of p) ≡ p)
unfolding bytes_of panel_of
panel_read_back p fits = (eq-eqb _ state_size (length-state p fits), ap panel_from (read_back panel_shape (panel_parts p) fits))

-- Bytes that are a state, read as a panel and written again, are the same bytes: nothing in them is left unread.
pub state_written_back : (b : List ℕ) → length b ≡ state_size → Bytes b → bytes_of (panel_of b) ≡ b
unfolding bytes_of panel_of value
state_written_back b e small = written_back panel_shape b 0 (omega arith) small ∙ take_all state_size b (omega arith)

-- What is read of a state fits its types.
pub panel_fits : (b : List ℕ) → length b ≡ state_size → Bytes b → PanelFits (panel_of b)
unfolding panel_of value
panel_fits b e small = value_fits panel_shape b 0 (omega arith) small

-- A line written over a state is the panel with that line, written.
pub line_written : (b : List ℕ) → length b ≡ state_size → Bytes b → (l : Line) → Sized line_shape (line_parts l)
    → line_with b l ≡ bytes_of (record { line = l; body = (panel_of b).body })
unfolding line_with bytes_of panel_of bytes value
line_written b e small l sized =
    let n = length-bytes line_shape (line_parts l) sized in
    let body = written_back body_shape b body_place (omega arith) small ∙ take_all (size body_shape) (drop body_place b) (omega (arith, length-drop body_place b)) in
    when_true _ _ _ (eq-eqb _ state_size e) ∙ written_out b 0 _ (omega arith) ∙ rw n (ap (λ (s : List ℕ). bytes line_shape (line_parts l) ++ s) (sym body))

-- A line's part has the size of its shape if its held bytes are 25.
pub line_sized : (l : Line) → length l.hold.bytes ≡ 25 → Sized line_shape (line_parts l)
line_sized l e = (tt, (e, tt))

-- A line's part that fits does so with other held bytes and with another unfiled number, if these fit.
pub holding_fits : (l : Line) (h : Hold) → Fits line_shape (line_parts l) → h.count < 256 → length h.bytes ≡ 25 → Fits line_shape (line_parts (line_holding l h))
holding_fits l h f c e = (c, (e, f.1.1))

pub unfiled_fits : (l : Line) → Fits line_shape (line_parts l) → l.unfiled < 4294967296
unfiled_fits l f = f.1.1

pub with_unfiled_fits : (l : Line) (n : ℕ) → Fits line_shape (line_parts l) → n < 4294967296 → Fits line_shape (line_parts (line_unfiled l n))
with_unfiled_fits l n f m = (f.0, (f.1.0, m))

-- The panel at power-on fits its types.
pub power_fits : PanelFits powered_on
unfolding powered_on factory_settings
power_fits = ((omega arith, (refl, omega arith)), search tt depth 20)

-- For each public function, any two results that its promise allows are equal, the lent bytes included.
pub read_line_determined : (state : List ℕ) → Determined (ReadsLine state)
read_line_determined state = one _

pub write_line_determined : (state : List ℕ) (l : Line) → Determined (WritesLine state l)
write_line_determined state l = one _

-- Which cells a call changes, and the picture repainted: "A call's list comes from the state before and after, never from the
-- lent picture; all eight bytes of each listed cell are written, and no other byte."
use Rattle.std.specs.Prelude.{ℕ, zero, suc, ◌<◌, ◌≤◌, ◌≡◌, Bool, true, false, not, ◌&&◌, ◌||◌, List, [], length, get_or}
use Rattle.lists.specs.Tests.{when◌then◌else◌, ◌=?◌}
use Rattle.lists.specs.Runs.{front}
use Rattle.lists.specs.Rising.{passing}
use Rattle.glyphs.specs.Source.{is_special}
use Rattle.picture.specs.Draw.{cell_count, picture_size, Screen, cell_drawn, put, paint, drawn}

-- whether the first n bytes are the same
abbrev pub alike : ℕ → List ℕ → List ℕ → Bool
alike zero a b = true
alike (suc k) a b = alike k a b && (get_or a k 0 =? get_or b k 0)

-- whether a cell draws as it did
unfoldable pub same : Screen → Screen → List ℕ → ℕ → Bool
same before after font cell = alike 8 (cell_drawn before font cell) (cell_drawn after font cell)

-- whether it draws otherwise
abbrev pub otherwise : Screen → Screen → List ℕ → ℕ → Bool
otherwise before after font cell = not (same before after font cell)

-- the cells that do, rising
abbrev pub changed : Screen → Screen → List ℕ → List ℕ
changed before after font = passing (otherwise before after font) cell_count

-- the picture with all eight bytes of each changed cell written
unfoldable pub painted : Screen → Screen → List ℕ → List ℕ → List ℕ
painted before after font picture = paint (same before after font) (cell_drawn after font) picture cell_count

-- whether the glyph is as before that a cell's byte names, one less than the byte; 0 names none
unfoldable pub glyph_stays : ℕ → List (List ℕ) → List (List ℕ) → Bool
glyph_stays zero before after = true
glyph_stays (suc glyph) before after = alike 8 (get_or before glyph []) (get_or after glyph [])

-- a code that stays, and draws from the font or from glyphs that are as before
abbrev pub code_stays : ℕ → ℕ → Bool → Bool
code_stays a b same = (a =? b) && (same || not (is_special b))

-- which cells are looked at: those that pass a test
abbrev pub LooksBy : (ℕ → Bool) → List Bool → Type 0
LooksBy test look = (cell : ℕ) → cell < cell_count → get_or look cell false ≡ test cell

-- each byte of the sets names a glyph, or none
abbrev pub Marks : List ℕ → Type 0
Marks sets = (cell : ℕ) → get_or sets cell 0 ≤ 8

-- whether a cell is looked at: where the sets are asked, if the glyph changed in whose set it is, and by nothing else; elsewhere unless
-- its codes say that it draws as it did
abbrev pub looks_by_sets : List ℕ → List (List ℕ) → List (List ℕ) → ℕ → Bool
looks_by_sets sets before after cell = not (glyph_stays (get_or sets cell 0) before after)

abbrev pub looks_by_codes : List ℕ → List ℕ → Bool → ℕ → Bool
looks_by_codes old new same cell = not (code_stays (get_or old cell 0) (get_or new cell 0) same)

-- a cell draws as it did, whatever the font
abbrev pub DrawsAlike : Screen → Screen → ℕ → Type 0
DrawsAlike before after cell = (font : List ℕ) → alike 8 (cell_drawn before font cell) (cell_drawn after font cell) ≡ true

-- what `looked` promises: a cell that is not looked at draws as it did; where the sets are asked, no cell outside those of the glyphs that
-- changed is looked at
abbrev pub LooksAt : Screen → Screen → List ℕ → Bool → List Bool → Type 0
LooksAt before after sets by_sets look =
    ((cell : ℕ) → cell < cell_count → get_or look cell false ≡ false → DrawsAlike before after cell)
    × (by_sets ≡ true → LooksBy (looks_by_sets sets before.glyphs after.glyphs) look)

-- what the repaint of one cell promises: whether it draws as it did, and the picture with its eight bytes written if not
abbrev pub RepaintsCell : ℕ → List ℕ → List ℕ → List ℕ → Bool → List ℕ → Type 0
RepaintsCell cell was bytes picture r picture' = (r ≡ alike 8 was bytes) × (picture' ≡ (when r then picture else put cell bytes picture 8))

-- what a repaint promises of how many cells it lists, of the picture and of the list
abbrev pub Repaints : Screen → Screen → List ℕ → List ℕ → List ℕ → ℕ → List ℕ → List ℕ → Type 0
Repaints before after font picture list r picture' list' =
    (r ≡ length (changed before after font)) × (picture' ≡ painted before after font picture) × (list' ≡ front (changed before after font) list)

-- a picture of 640 bytes and a list of 80
abbrev pub paintable : List ℕ → List ℕ → Bool
paintable picture list = (length picture =? picture_size) && (length list =? cell_count)

-- what `repaint` promises: a repaint where picture and list are of their sizes; elsewhere none is listed and nothing changes
abbrev pub RepaintsSized : Screen → Screen → List ℕ → List ℕ → List ℕ → ℕ → List ℕ → List ℕ → Type 0
RepaintsSized before after font picture list r picture' list' =
    when paintable picture list then Repaints before after font picture list r picture' list'
    else ((r ≡ 0) × (picture' ≡ picture) × (list' ≡ list))

-- what `draw_all` promises: a picture of 640 bytes is drawn afresh, one of another size stays as it is
abbrev pub DrawsAll : Screen → List ℕ → List ℕ → List ℕ → Type 0
DrawsAll s font picture picture' = picture' ≡ (when length picture =? picture_size then drawn s font else picture)

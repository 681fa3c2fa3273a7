-- What holds of the C library's calls, one by one and over any sequence of them.
use Prim.Native.Nat.{ℕ, ◌+◌, ◌<◌, ◌≤◌}
use mathlib.Core.Path.{◌≡◌, refl, sym, ◌∙◌, ap, subst}
use mathlib.Core.Logic.{◌≢◌, ◌↔◌}
use mathlib.Core.Bool.{Bool, true, false}
use mathlib.Core.List.{List, [], ◌∷◌, map}
use native.Mathlib.Omega.{arith}
use borrow.Author.Tests.{eqb-true}
use lib.Dec.{lit≤}
use lib.ListN.{length, get_or}
use Rattle.lists.specs.Tests.{when◌then◌else◌}
use Rattle.lists.proofs.Laws.{when_true, when_false, when_either}
use Rattle.framing.proofs.Theorems as framing
use Rattle.shapes.specs.Shape.{◌&◌, Value, Each, Bytes, Fits, value}
use Rattle.shapes.proofs.Laws.{value_fits}
use Rattle.panel.specs.declared.Panel.{Panel}
use Rattle.panel.specs.State.{powered_on}
use Rattle.ranges.specs.Ranges.{in_ranges}
use Rattle.ranges.proofs.Theorems.{power_on_in_range}
use Rattle.filing.specs.Filing.{counts}
use Rattle.glyphs.proofs.Every.{Every}
use Rattle.picture.specs.Draw.{cell_drawn, place_of, drawn}
use Rattle.lists.specs.Rising.{ListedIn}
use Rattle.glyphs.specs.Source.{special, source_of}
use Rattle.sets.specs.Sets.{cells_of, cells_found}
use Rattle.symbols.proofs.Theorems.{set_is_the_search}
use Rattle.answers.specs.Answer.{numbers_of}
use Rattle.perform.specs.Perform.{shown_by}
use Rattle.power.specs.Power.{power_said, power_picture, PowersOn}
use Rattle.linecall.specs.Line.{Lent, line_said}
use Rattle.statebytes.specs.State.{bytes_of, panel_of, is_state, PanelFits}
use Rattle.statebytes.proofs.Theorems.{power_fits}
use Rattle.registerbytes.specs.Register.{record_shape, record_from, register_shape, register_size, is_register, records_lent}
use Rattle.saidbytes.specs.Says.{number_of}
use Rattle.linebytes.specs.Line.{line_filed, LineBytes}
use Rattle.naupelys.specs.Calls.{PowerOnBytes, CellsBytes}
use Rattle.theorems.specs.Other.{Other, AnswersBytes}
use Rattle.theorems.specs.Run.{Call, line, other, World, with_panel, with_register, any_register, lent_back, Runs, Afresh}
use Rattle.theorems.specs.Run as run
use Rattle.theorems.specs.Story.{call_places}
use Rattle.theorems.specs.Library.{Kept, with_state, with_faults, LineOn, hears, answers, any_faults, faults_lent_back, Library, done, more, StandsFor}
use Rattle.theorems.specs.Cuts.{Note, Cut, places_in}
use Rattle.theorems.proofs.Others as others
use Rattle.theorems.proofs.Calls as calls
use Rattle.theorems.proofs.Runs.{power_panel, and_more}
use Rattle.theorems.proofs.Theorems as panel
use Rattle.theorems.proofs.Standing as standing
use Rattle.theorems.proofs.Registers.{Small, line_filed_lem}
use Rattle.theorems.proofs.Refusals.{AllStays, RefusalFiled, quiet_leaves, refused_leaves}
use Rattle.theorems.proofs.Cutting.{Standing, note_of, same_places, as_a_story, kept_then, line_on, cut_of}

-- A CALL THAT IS REFUSED BY NUMBER

module _ {state : List ℕ} {l : Lent} {faults : List ℕ} {number : ℕ} {state' picture' list' reply' faults' said' : List ℕ} (called : LineBytes state l faults number state' picture' list' reply' faults' said') (h : 10 ≤ number) where
  line_kept : (t : Bool) → is_state state ≡ t → (state' ≡ state) × (picture' ≡ l.picture) × (list' ≡ l.list) × (reply' ≡ l.reply) × (faults' ≡ faults)
  line_kept false e =
      (called.state ∙ others.no_on _ _ _ e, called.picture ∙ others.no_on _ _ _ e, called.list ∙ others.no_on _ _ _ e, called.reply ∙ others.no_on _ _ _ e, called.faults ∙ others.no_on _ _ _ e)
  line_kept true e =
      let p = panel_of state in
      let k : 10 ≤ number_of (line_said p l) = rw (called.number ∙ others.is_on_lem _ _ _ e) at h in
      let r = calls.refused_call_changes_nothing p l [] _ _ _ _ _ (refl, refl, refl, refl, refl) k in (
        called.state ∙ others.is_on_lem _ _ _ e ∙ standing.state_kept state (line_filed p l faults) k,
        called.picture ∙ others.is_on_lem _ _ _ e ∙ r.1.1.picture,
        called.list ∙ others.is_on_lem _ _ _ e ∙ r.1.1.list,
        called.reply ∙ others.is_on_lem _ _ _ e ∙ r.1.1.reply,
        called.faults ∙ others.is_on_lem _ _ _ e ∙ standing.faults_kept faults (line_said p l).answer (line_said p l).panel.line.unfiled (λ z. absurd (omega arith)),
      )

  -- A line call that is refused by a number of 10 or more leaves the state and every buffer as they came.
  pub refused_line_leaves_all : (state' ≡ state) × (picture' ≡ l.picture) × (list' ≡ l.list) × (reply' ≡ l.reply) × (faults' ≡ faults)
  refused_line_leaves_all = line_kept (is_state state) refl

module _ {c : Other} {state out : List ℕ} {number : ℕ} {state' out' said' : List ℕ} (called : AnswersBytes c state out number state' out' said') (h : 10 ≤ number) where
  other_kept : (t : Bool) → is_state state ≡ t → (state' ≡ state) × (out' ≡ out)
  other_kept false e = ((others.by_bytes called).state ∙ others.no_on _ _ _ e, (others.by_bytes called).reply ∙ others.no_on _ _ _ e)
  other_kept true e =
      let p = panel_of state in
      let k : 10 ≤ number_of (others.said_by c p out) = rw ((others.by_bytes called).number ∙ others.is_on_lem _ _ _ e) at h in
      ((others.by_bytes called).state ∙ others.is_on_lem _ _ _ e ∙ others.refused_leaves c state (others.said_by c p out) (standing.state_kept state (others.said_by c p out) k), (others.by_bytes called).reply ∙ others.is_on_lem _ _ _ e ∙ (others.refused_other_changes_nothing (others.from_row c p out) k).1.1)

  -- So does every other call.
  pub refused_other_leaves_all : (state' ≡ state) × (out' ≡ out)
  refused_other_leaves_all = other_kept (is_state state) refl

-- SEQUENCES

stands_lent : {k : Kept} {w : World} {faults : List ℕ} → StandsFor k w → StandsFor (with_faults k faults) w
stands_lent s = record { state = s.state; fits = s.fits; picture = s.picture }

standing_lent : {k : Kept} {w : World} {faults : List ℕ} → faults ≡ k.faults → Standing k w → Standing (with_faults k faults) w
standing_lent {k} {w} {faults} e s = subst (λ (y : List ℕ). Standing (with_faults k y) w) (sym e) s

-- calls on bytes that stand for a panel and a picture are calls of the panel, whatever is lent as a register
pub as_the_panel : {font : List ℕ} {cs : List Call} {k l : Kept} {n : ℕ} → Library font any_faults cs k l n → (w : World) → StandsFor k w → (v : World) × Runs font any_register cs w v n × StandsFor l v
as_the_panel done w s = (w, run.done, s)
as_the_panel {font} {l = l} (more {faults = faults} x (hears m) r) w s =
    let t = stands_lent {faults = faults} s in
    and_more {register = records_lent faults} (StandsFor l) (standing.line_refusals t font m) tt (run.hears (standing.heard t font m)) (as_the_panel r (standing.v t font m) (standing.line_stands t font m))
as_the_panel {font} {l = l} (more {faults = faults} x (answers {c} {out} m) r) w s =
    let t = stands_lent {faults = faults} s in
    and_more {register = w.register} (StandsFor l) (standing.none_refused t m) tt (run.answers (others.from_row c w.panel out)) (as_the_panel r (with_panel w (standing.says t m).panel) (standing.other_stands t m))

-- and where the register is lent back, it stands for the panel's
pub as_the_panel_files : {font : List ℕ} {cs : List Call} {k l : Kept} {n : ℕ} → Library font faults_lent_back cs k l n → (w : World) → Standing k w → (v : World) × Runs font lent_back cs w v n × Standing l v
as_the_panel_files done w s = (w, run.done, s)
as_the_panel_files {font} {cs} {k} {l} (more {faults = faults} x (hears m) r) w s =
    let t = standing_lent x s in
    and_more (Standing l) (standing.line_refusals t.stands font m) (sym t.filed.records) (run.hears (standing.heard t.stands font m))
    (as_the_panel_files r (standing.v t.stands font m) record { stands = standing.line_stands t.stands font m; filed = line_filed_lem font t.stands t.filed m })
as_the_panel_files {font} {cs} {k} {l} (more {faults = faults} x (answers {c} {out} m) r) w s =
    let t = standing_lent x s in
    and_more (Standing l) (standing.none_refused t.stands m) refl (run.answers (others.from_row c w.panel out))
    (as_the_panel_files r (with_panel w (standing.says t.stands m).panel) record { stands = standing.other_stands t.stands m; filed = record { records = t.filed.records; small = t.filed.small } })

-- Each sequence of the library's calls can be made: from any bytes its promises lead to others.
pub goes_on : (font : List ℕ) (cs : List Call) (k : Kept) → (l : Kept) × ((n : ℕ) × Library font faults_lent_back cs k l n)
goes_on font [] k = (k, (0, done))
goes_on font (line piece list out ∷ cs) k =
    let o = goes_on font cs (kept_then font k piece list out) in
    (o.0, (_, more {c = line piece list out} {faults = k.faults} refl (hears (line_on font k piece list out)) o.1.1))
goes_on font (other c out ∷ cs) k =
    let m = others.made_by_row c k.state out in
    let o = goes_on font cs (with_state k m.1.0) in
    (o.0, (_, more {c = other c out} {faults = k.faults} refl (answers m.1.1.1.1) o.1.1))

-- what bytes of a register hold is small
small_parts : (vs : List (Value record_shape)) → Each (Fits record_shape) vs → Every Small (map record_from vs)
small_parts [] h = tt
small_parts ((command & reason & place & count) ∷ vs) h = (h.0.1.1.1, small_parts vs h.1)

small_lent : (faults : List ℕ) → Bytes faults → Every Small (records_lent faults)
unfolding records_lent
small_lent faults b =
    when_either (Every Small) (is_register faults) _ _
    (λ e. small_parts (value register_shape faults 0) (value_fits register_shape faults 0 (omega (arith, eqb-true (length faults) register_size e)) b).1)
    (λ _. tt)

module _ (font state picture : List ℕ) (number : ℕ) (state' picture' said' : List ℕ) (on : PowerOnBytes state picture font number state' picture' said') where
  -- A refused power-on leaves the picture as it came, and writes the power-on state where there is room for one.
  pub refused_power_on : 10 ≤ number → (picture' ≡ picture) × (state' ≡ (when is_state state then bytes_of powered_on else state))
  refused_power_on h = (go (is_state state) refl, on.state)
    where
      go : (t : Bool) → is_state state ≡ t → picture' ≡ picture
      go true e =
          on.picture ∙ when_true _ _ _ e
          ∙ (panel.refused_power_on font picture (power_picture picture font) (power_said picture font) (refl, refl) (rw (on.number ∙ when_true _ _ _ e) at h)).1.1
      go false e = on.picture ∙ when_false _ _ _ e

  -- bytes that are room for a state stand for the power-on state from then on
  module _ (room : is_state state ≡ true) (faults : List ℕ) where
    abbrev first : Kept
    first = record { state = state'; picture = picture'; faults = faults }

    abbrev started : World
    started = record { panel = (power_said picture font).panel; picture = picture'; register = records_lent faults }

    powered : PowersOn picture font (power_said picture font) picture'
    powered = (refl, on.picture ∙ when_true _ _ _ room)

    is_powered : (power_said picture font).panel ≡ powered_on
    is_powered = power_panel picture font (power_said picture font) picture' powered

    started_stands : StandsFor first started
    started_stands = record { state = on.state ∙ when_true _ _ _ room ∙ ap bytes_of (sym is_powered); fits = subst PanelFits (sym is_powered) power_fits; picture = refl }

    -- From a power-on, accepted or refused, and a register whose records are all free, lent back as left, below 4,294,967,296
    -- refusals, the counts plus the state's unfiled number equal the packets refused: the calls that returned 4.
    pub counts_add_up : Bytes faults → (cs : List Call) (k : Kept) (n : ℕ) → Library font faults_lent_back cs first k n → counts (records_lent faults) ≡ 0 → n < 4294967296
        → counts (records_lent k.faults) + (panel_of k.state).line.unfiled ≡ n
    counts_add_up b cs k n made e h =
        let now = as_the_panel_files made started record { stands = started_stands; filed = record { records = refl; small = small_lent faults b } } in
        rw (← now.2.filed.records, standing.same_panel now.2.stands)
        (panel.counts_add_up font picture picture' (power_said picture font) powered (records_lent faults) cs now.0 n e now.1 h)

    module _ (cs : List Call) (k : Kept) (n : ℕ) (made : Library font any_faults cs first k n) where
      -- what the bytes stand for by then
      now : (w : World) × Runs font any_register cs started w n × StandsFor k w
      now = as_the_panel made started started_stands

      -- After any sequence of the library's calls, refused and waiting ones among them and whatever is lent as a register, the
      -- state is one, and in its ranges, so that no call is refused for it.
      pub stays_in_range : (is_state k.state ≡ true) × (in_ranges (panel_of k.state) ≡ true)
      unfolding powered_on
      stays_in_range = (
        standing.is_read now.2,
        rw (standing.same_panel now.2) (panel.stays_in_range {w = started} (rw is_powered power_on_in_range) (omega (arith, started_stands.fits.0.1.0)) now.1),
      )

      -- Each set of cells in it is what a search of its live text finds.
      pub sets_are_the_search : (glyph : ℕ) → cells_of (panel_of k.state).body.sets glyph ≡ cells_found (panel_of k.state).body.live.shown.text glyph
      sets_are_the_search = set_is_the_search (panel_of k.state) stays_in_range.1

      -- Asked for the cells of a symbol then, a call that returns 3 and the count in its 16 bytes:
      module _ {glyph : ℕ} {list : List ℕ} {number' : ℕ} {list' said : List ℕ} (m : CellsBytes k.state glyph list number' list' said) (a : number' < 10) where
        -- the list is rising, so that each cell stands in it once,
        pub cells_rise : (i j : ℕ) → i < j → j < get_or said 13 0 → get_or list' i 0 < get_or list' j 0
        cells_rise = standing.symbol_rises now.2 m a

        -- it holds exactly the cells, below 80, whose code in the live text draws the glyph,
        pub cells_of_a_symbol : (cell : ℕ) → ListedIn list' (get_or said 13 0) cell ↔ ((cell < 80) × (source_of (get_or (panel_of k.state).body.live.shown.text cell 0) ≡ special glyph))
        cells_of_a_symbol = standing.symbol_exactly now.2 m a

        -- and the bytes behind are as they were.
        pub behind_the_cells : (i : ℕ) → get_or said 13 0 ≤ i → get_or list' i 0 ≡ get_or list i 0
        behind_the_cells = standing.symbol_behind now.2 m a

      -- the calls of a line can be cut anywhere from then on, where the register's counts are small
      module _ (b : Bytes k.faults) where
        abbrev w : World
        w = with_register now.0 (records_lent k.faults)

        w_stands : Standing k w
        w_stands = record { stands = record { state = now.2.state; fits = now.2.fits; picture = now.2.picture }; filed = record { records = refl; small = small_lent k.faults b } }

        in_range_lem : in_ranges w.panel ≡ true
        in_range_lem = rw (standing.same_panel now.2) at stays_in_range.1

        few : length w.panel.line.hold.bytes ≤ 25
        few = omega (arith, now.2.fits.0.1.0)

        -- The same bytes of a line, cut into line calls in any two ways and repeated until all is taken and the number is 1, with the
        -- same other calls after the same packets, come to the same answers, replies and listed cells, the same state and the same
        -- records.
        pub cut_anywhere : {bytes : List ℕ} {notes notes' : List Note} {l l' : Kept} → Cut font k bytes notes l → Cut font k bytes notes' l' → places_in 0 notes ≡ places_in 0 notes'
            → (notes ≡ notes') × (l.state ≡ l'.state) × (records_lent l.faults ≡ records_lent l'.faults)
        cut_anywhere c c' e =
            let x = as_a_story c w w_stands in
            let y = as_a_story c' w w_stands in
            let p : call_places 0 x.0 ≡ call_places 0 y.0 = sym (same_places 0 x.0) ∙ ap (places_in 0) x.4 ∙ e ∙ sym (ap (places_in 0) y.4) ∙ same_places 0 y.0 in
            let q = panel.cut_anywhere {w = w} in_range_lem few x.2 y.2 p in (
              sym x.4 ∙ ap (map note_of) q.0 ∙ y.4,
              x.3.stands.state ∙ ap bytes_of q.1 ∙ sym y.3.stands.state,
              sym x.3.filed.records ∙ q.2 ∙ y.3.filed.records,
            )

        -- Such calls come to an end, where the sizes of the picture, the font and the register are right.
        pub calls_end : length k.picture ≡ 640 → length font ≡ 2048 → length (records_lent k.faults) ≡ 64 → (bytes : List ℕ) → (notes : List Note) × ((l : Kept) × Cut font k bytes notes l)
        calls_end p f r bytes =
            cut_of font (framing.calls_end 4096 (lit≤ tt) w.panel.line.hold bytes) k w w_stands
            record { panel = record { ranges = in_range_lem; bytes = few }; picture = sym (ap length now.2.picture) ∙ p; rows = f; register = r } refl

      module _ (accepted : number < 10) where
        afresh : Afresh font now.0
        afresh =
            let below : (numbers_of (power_said picture font).answer).number < 10 = rw (on.number ∙ when_true _ _ _ room) at accepted in
            panel.drawn_afresh font picture picture' (power_said picture font) powered below (records_lent faults) cs now.0 n now.1

        -- If the power-on was accepted, then after any such sequence the picture is the one drawn afresh from the state,
        pub drawn_afresh : k.picture ≡ drawn (shown_by (panel_of k.state).body) font
        drawn_afresh = now.2.picture ∙ afresh ∙ ap (λ (p : Panel). drawn (shown_by p.body) font) (sym (standing.same_panel now.2))

        -- and a line that is cut otherwise comes to the same picture.
        pub cut_anywhere_paints_alike : Bytes k.faults → {bytes : List ℕ} {notes notes' : List Note} {l l' : Kept} → Cut font k bytes notes l → Cut font k bytes notes' l'
            → places_in 0 notes ≡ places_in 0 notes' → l.picture ≡ l'.picture
        cut_anywhere_paints_alike b c c' e =
            let x = as_a_story c (w b) (w_stands b) in
            let y = as_a_story c' (w b) (w_stands b) in
            let p : call_places 0 x.0 ≡ call_places 0 y.0 = sym (same_places 0 x.0) ∙ ap (places_in 0) x.4 ∙ e ∙ sym (ap (places_in 0) y.4) ∙ same_places 0 y.0 in
            x.3.stands.picture ∙ panel.cut_anywhere_paints_alike {w = w b} (in_range_lem b) (few b) afresh x.2 y.2 p ∙ sym y.3.stands.picture

      -- Then a line call, with any bytes lent as a register, and what it lists by the count in its 16 bytes:
      module _ {lends piece list out : List ℕ} {number' : ℕ} {l : Kept} {list' out' said : List ℕ} (m : LineOn font (with_faults k lends) piece list out number' l list' out' said) where
        s : StandsFor (with_faults k lends) now.0
        s = stands_lent now.2

        -- the list is rising, so that each cell stands in it once,
        pub list_rises : (i j : ℕ) → i < j → j < get_or said 13 0 → get_or list' i 0 < get_or list' j 0
        list_rises = standing.rises s font m

        -- it holds exactly the cells, below 80, whose drawings from the state before and from the state after differ,
        pub list_is_the_change : (cell : ℕ)
            → ListedIn list' (get_or said 13 0) cell ↔ ((cell < 80) × (cell_drawn (shown_by (panel_of k.state).body) font cell ≢ cell_drawn (shown_by (panel_of l.state).body) font cell))
        list_is_the_change = standing.exactly s font m

        -- the eight bytes of a listed cell are its new drawing,
        pub listed_cells_are_drawn : (cell j : ℕ) → j < 8 → ListedIn list' (get_or said 13 0) cell
            → get_or l.picture (place_of cell j) 0 ≡ get_or (cell_drawn (shown_by (panel_of l.state).body) font cell) j 0
        listed_cells_are_drawn = standing.listed_drawn s font m

        -- and bytes of cells that are not listed are as they came.
        pub no_other_byte : (cell j : ℕ) → cell < 80 → j < 8 → (ListedIn list' (get_or said 13 0) cell → ⊥) → get_or l.picture (place_of cell j) 0 ≡ get_or k.picture (place_of cell j) 0
        no_other_byte = standing.unlisted_stay s font m

        -- A call that returns 1 or 2, waiting or a stray, changes the held bytes only.
        pub waiting_or_stray_changes_only : number' ≤ 2 → AllStays (with_faults k lends) list out l list' out'
        waiting_or_stray_changes_only = quiet_leaves s font m

        -- A call that returns 4 changes of the state the held bytes and the unfiled number only. The error reply is written, and the
        -- refusal is filed under the command, reason and place that the call says; nothing is listed or painted.
        pub refused_changes_only : number' ≡ 4 → RefusalFiled (with_faults k lends) list out l list' out' said
        refused_changes_only = refused_leaves s font m

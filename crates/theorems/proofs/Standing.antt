-- The library's calls on bytes that stand for a panel and a picture are the panel's own calls, and leave bytes that do.
use Prim.Native.Nat.{ℕ, ◌<◌, ◌≤◌}
use mathlib.Core.Path.{◌≡◌, refl, sym, ◌∙◌, ap}
use mathlib.Core.Logic.{dite, ◌≢◌, ◌↔◌}
use mathlib.Core.Bool.{Bool, true}
use mathlib.Core.List.{List}
use native.Mathlib.Decide.{dec_lt}
use native.Mathlib.Omega.{arith}
use borrow.Author.Tests.{eqb-true, lt-ltb, le-ltb, ne_eqb}
use lib.ListN.{length, get_or}
use Rattle.lists.specs.Tests.{when◌then◌else◌, ◌=?◌}
use Rattle.lists.proofs.Laws.{when_either, when_true, when_false}
use Rattle.panel.specs.declared.Panel.{Panel}
use Rattle.filing.specs.Filing.{Files}
use Rattle.picture.specs.Draw.{cell_drawn, place_of}
use Rattle.lists.specs.Rising.{ListedIn}
use Rattle.answers.specs.declared.Check.{Check}
use Rattle.answers.specs.declared.Answer.{Answer}
use Rattle.answers.specs.declared.Answer.TheVariants.{CallRefused}
use Rattle.answers.specs.declared.Said.{Said}
use Rattle.answers.specs.Answer.{numbers_of, refused_call, with_unfiled}
use Rattle.answers.proofs.Checks.{Pass, refused_from_ten}
use Rattle.perform.specs.Perform.{shown_by}
use Rattle.linecall.specs.Line.{Lent, lent, line_said, line_picture, line_list, line_reply, files_after}
use Rattle.statebytes.specs.State.{bytes_of, panel_of, is_state, on_state}
use Rattle.statebytes.proofs.Theorems.{panel_read_back}
use Rattle.registerbytes.specs.Register.{register_size, records_lent, register_of}
use Rattle.registerbytes.proofs.Theorems.{length-lent, lent_is_read}
use Rattle.saidbytes.specs.Says.{number_of, bytes_said, no_state}
use Rattle.linebytes.specs.Line.{records_in, files_by, faults_after, state_after, line_filed}
use Rattle.glyphs.specs.Source.{special, source_of}
use Rattle.symbols.proofs.Theorems.{cells_only_read}
use Rattle.symbols.proofs.Theorems as symbols
use Rattle.naupelys.specs.Calls.{CellsBytes}
use Rattle.theorems.specs.Other.{Other, key, pin, cells, Answers, tells, AnswersBytes}
use Rattle.theorems.specs.Run.{World, with_panel, with_register, refused_in, Hears}
use Rattle.theorems.specs.Library.{Kept, with_state, LineOn, refusals, StandsFor}
use Rattle.theorems.proofs.Others.{is_on_lem, state_by, by_bytes}
use Rattle.theorems.proofs.Others as others
use Rattle.theorems.proofs.Outcomes.{tests_of, files_at_4, Outcome, turned_away, waits, finds, strays, does, refuses, outcome}
use Rattle.theorems.proofs.Calls.{call_refused_says}
use Rattle.theorems.proofs.Calls as calls
use Rattle.theorems.proofs.Fits.{line_fits, other_fits}
use Rattle.theorems.proofs.Runs.{lent_to, said_then, world_then, hears_then}
use Rattle.theorems.proofs.Said.{ReadFrom, said_back, line_small, other_small}

-- the state after a call that is not refused by number, and after one that is
pub state_after_lem : (state : List ℕ) (r : Said) → number_of r < 10 → state_after state r ≡ bytes_of r.panel
unfolding state_after
state_after_lem state r h = when_true _ _ _ (lt-ltb _ _ h)

pub state_kept : (state : List ℕ) (r : Said) → 10 ≤ number_of r → state_after state r ≡ state
unfolding state_after
state_kept state r h = when_false _ _ _ (le-ltb _ _ h)

-- only answer 4 is filed
pub faults_kept : (faults : List ℕ) (a : Answer) (unfiled : ℕ) → ((numbers_of a).number ≡ 4 → ⊥) → faults_after a unfiled faults ≡ faults
unfolding faults_after
faults_kept faults a unfiled h = when_false _ _ _ (files_at_4 a ∙ ne_eqb (numbers_of a).number 4 h)

module _ {k : Kept} {w : World} (s : StandsFor k w) where
  pub is_read : is_state k.state ≡ true
  is_read = ap is_state s.state ∙ (panel_read_back w.panel s.fits).0

  pub same_panel : panel_of k.state ≡ w.panel
  same_panel = ap panel_of s.state ∙ (panel_read_back w.panel s.fits).1

  pub on_panel : {A : Type 0} (x : A) (f : Panel → A) → on_state k.state x f ≡ f w.panel
  on_panel x f = is_on_lem _ _ _ is_read ∙ ap f same_panel

  held_short : length w.panel.line.hold.bytes ≤ 25
  held_short = omega (arith, s.fits.0.1.0)

  -- the state's bytes after a call that keeps the panel where it is refused
  after_stands : (r : Said) → (10 ≤ number_of r → r.panel ≡ w.panel) → state_after k.state r ≡ bytes_of r.panel
  after_stands r same =
      dite (dec_lt (number_of r) 10) (λ h. state_after_lem k.state r h)
      (λ h. let g : 10 ≤ number_of r = omega arith in state_kept k.state r g ∙ s.state ∙ ap bytes_of (sym (same g)))

  -- another call
  module _ {c : Other} {out : List ℕ} {n : ℕ} {state' out' said' : List ℕ} (m : AnswersBytes c k.state out n state' out' said') where
    abbrev pub says : Said
    says = others.said_by c w.panel out

    pub other_number : n ≡ number_of says
    other_number = (by_bytes m).number ∙ on_panel 10 (λ (p : Panel). number_of (others.said_by c p out))

    pub other_reply : out' ≡ others.left_by c w.panel out
    other_reply = (by_bytes m).reply ∙ on_panel out (λ (p : Panel). others.left_by c p out)

    pub other_said : ReadFrom said' says
    other_said = said_back says said' ((by_bytes m).said ∙ on_panel no_state (λ (p : Panel). bytes_said (others.said_by c p out))) (other_small c w.panel out s.fits)

    -- the bytes are written, or only read
    state_by_stands : (d : Other) (r : Said) {out : List ℕ} {out' : List ℕ} → Answers d w.panel out r out' → state_by d k.state r ≡ bytes_of r.panel
    state_by_stands (key number down) r a = after_stands r (λ h. ap (λ (x : Said). x.panel) (others.refused_other_changes_nothing a h).1.0)
    state_by_stands (pin number high) r a = after_stands r (λ h. ap (λ (x : Said). x.panel) (others.refused_other_changes_nothing a h).1.0)
    state_by_stands (cells glyph) r (tells {out = out} {out' = out'} a) = s.state ∙ ap bytes_of (sym (cells_only_read w.panel glyph out r out' a))

    pub other_stands : StandsFor (with_state k state') (with_panel w says.panel)
    other_stands =
        let a = others.from_row c w.panel out in
        record {
          state = (by_bytes m).state ∙ on_panel k.state (λ (p : Panel). state_by c k.state (others.said_by c p out)) ∙ state_by_stands c says a;
          fits = other_fits a s.fits;
          picture = s.picture;
        }

    pub none_refused : refusals n ≡ refused_in says
    unfolding refusals refused_in
    none_refused = ap refusals other_number ∙ ap (λ (t : Bool). when t then 1 else 0) (sym (files_at_4 says.answer))

  -- the cells of a symbol, by the count in the 16 bytes
  module _ {glyph : ℕ} {list : List ℕ} {n : ℕ} {list' said' : List ℕ} (m : CellsBytes k.state glyph list n list' said') (accepted : n < 10) where
    abbrev asked : Said
    asked = others.said_by (cells glyph) w.panel list

    abbrev told : List ℕ
    told = others.left_by (cells glyph) w.panel list

    below_ten : number_of asked < 10
    below_ten = rw (other_number (tells m)) at accepted

    pub symbol_rises : (i j : ℕ) → i < j → j < get_or said' 13 0 → get_or list' i 0 < get_or list' j 0
    symbol_rises i j h g =
        rw (other_reply (tells m)) (symbols.cells_rise w.panel glyph list asked told (refl, refl) below_ten i j h (rw (other_said (tells m)).listed at g))

    pub symbol_exactly : (cell : ℕ) → ListedIn list' (get_or said' 13 0) cell ↔ ((cell < 80) × (source_of (get_or (panel_of k.state).body.live.shown.text cell 0) ≡ special glyph))
    symbol_exactly cell =
        let size : length w.panel.body.live.shown.text ≡ 80 = s.fits.1.0.0.0 in
        rw (other_reply (tells m), (other_said (tells m)).listed, same_panel) (rw size at (symbols.cells_of_a_symbol w.panel glyph list asked told (refl, refl) below_ten cell))

    pub symbol_behind : (i : ℕ) → get_or said' 13 0 ≤ i → get_or list' i 0 ≡ get_or list i 0
    symbol_behind i h =
        rw (other_reply (tells m)) (symbols.behind_the_cells w.panel glyph list asked told (refl, refl) below_ten i (rw (other_said (tells m)).listed at h))

  -- a line call, lent these bytes as a register
  module _ (font : List ℕ) {piece list out : List ℕ} {n : ℕ} {l : Kept} {list' out' said' : List ℕ} (m : LineOn font k piece list out n l list' out' said') where
    -- the same world with the records that the bytes are
    abbrev pub lends : World
    lends = with_register w (records_lent k.faults)

    abbrev pub o : Lent
    o = lent_to font lends piece list out

    abbrev pub t : Said
    t = line_said w.panel o

    abbrev pub r : Said
    r = said_then font lends piece list out

    abbrev pub v : World
    v = world_then font lends piece list out

    pub heard : Hears font lends piece list out r (line_list w.panel o) (line_reply w.panel o) v
    heard = hears_then font lends piece list out

    pub records : length (records_lent k.faults) ≡ records_in (length k.faults)
    unfolding records_in
    records = length-lent k.faults

    pub on_call : {A : Type 0} (x : A) (f : Panel → Lent → A) → on_state k.state x (λ (q : Panel). f q (lent piece k.picture font list out (records_in (length k.faults)))) ≡ f w.panel o
    on_call x f = is_on_lem _ _ _ is_read ∙ (λ i. f (same_panel i) (lent piece (s.picture i) font list out (sym records i)))

    pub number_is : n ≡ number_of r
    number_is = m.number ∙ on_call 10 (λ (q : Panel) (x : Lent). number_of (line_said q x))

    pub picture_is : l.picture ≡ v.picture
    picture_is = m.picture ∙ on_call k.picture (λ (q : Panel) (x : Lent). line_picture q x)

    pub list_is : list' ≡ line_list w.panel o
    list_is = m.list ∙ on_call list (λ (q : Panel) (x : Lent). line_list q x)

    pub reply_is : out' ≡ line_reply w.panel o
    reply_is = m.reply ∙ on_call out (λ (q : Panel) (x : Lent). line_reply q x)

    pub faults_is : l.faults ≡ faults_after t.answer t.panel.line.unfiled k.faults
    faults_is = m.faults ∙ on_call k.faults (λ (q : Panel) (x : Lent). faults_after (line_said q x).answer (line_said q x).panel.line.unfiled k.faults)

    pub said_is : ReadFrom said' r
    said_is =
        let b = said_back t said' (m.said ∙ on_call no_state (λ (q : Panel) (x : Lent). bytes_said (line_said q x))) (line_small w.panel o held_short) in
        record { number = b.number; command = b.command; reason = b.reason; place = b.place; answer = b.answer; taken = b.taken; dropped = b.dropped; checked = b.checked; reply = b.reply; listed = b.listed }

    -- a call is turned away, or the checks pass and it answers below 10
    pub outcome_of : {P : Type 0} → ((c : Check) → r.answer ≡ CallRefused c → P) → (number_of r < 10 → Pass (tests_of w.panel o) → P) → P
    unfolding numbers_of
    outcome_of {P} f g = go (outcome w.panel o) refl
      where
        below : {a : Answer} → (numbers_of a).number < 10 → r.answer ≡ a → number_of r < 10
        below h e = rw e h

        go : {a : Answer} → Outcome w.panel o a → r.answer ≡ a → P
        go (turned_away {c = c} q h u) e = f c e
        go (waits q h u x) e = g (below (omega arith) e) q
        go (finds q h u x b (strays y)) e = g (below (omega arith) e) q
        go (finds q h u x b (does y z)) e = g (below (omega arith) e) q
        go (finds q h u x b (refuses y z)) e = g (below (omega arith) e) q

    pub is_register_lem : Pass (tests_of w.panel o) → length k.faults ≡ register_size
    unfolding records_in
    is_register_lem q =
        let n : length (records_lent k.faults) ≡ 64 = eqb-true _ _ q.1.1.1.1.1.1.0 in
        when_either (λ (x : ℕ). x ≡ 64 → length k.faults ≡ register_size) (length k.faults =? register_size) 64 0 (λ t _. eqb-true _ _ t) (λ _ e. absurd (omega arith)) (sym records ∙ n)

    pub register_is : Pass (tests_of w.panel o) → records_lent k.faults ≡ register_of k.faults
    register_is q = lent_is_read k.faults (is_register_lem q)

    pub same_files : Pass (tests_of w.panel o) → files_by t.answer t.panel.line.unfiled k.faults ≡ files_after t (records_lent k.faults)
    same_files q = ap (files_after t) (sym (register_is q))

    pub refused_same : (c : Check) → r.answer ≡ CallRefused c → r ≡ refused_call w.panel c
    refused_same c e = (call_refused_says w.panel o (records_lent k.faults) r _ _ _ _ heard.called c e).0

    pub line_stands : StandsFor l v
    line_stands =
        record {
          state = m.state ∙ on_call k.state (λ (q : Panel) (x : Lent). state_after k.state (line_filed q x k.faults)) ∙ outcome_of
              (λ c e.
              let b : 10 ≤ number_of t = rw (ap (λ (x : Answer). (numbers_of x).number) e) (refused_from_ten c) in
              state_kept k.state (line_filed w.panel o k.faults) b ∙ s.state ∙ ap (λ (x : Said). bytes_of x.panel) (sym (refused_same c e)))
              (λ h q. ap (λ (x : Files). state_after k.state (with_unfiled t x.unfiled)) (same_files q) ∙ state_after_lem k.state r h);
          fits = line_fits w.panel o (records_lent k.faults) r _ _ _ _ heard.called s.fits;
          picture = picture_is;
        }

    -- the panel after the call is the one that the bytes then are
    pub after_panel : panel_of l.state ≡ v.panel
    after_panel = ap panel_of line_stands.state ∙ (panel_read_back v.panel line_stands.fits).1

    pub line_refusals : refusals n ≡ refused_in r
    unfolding refusals refused_in
    line_refusals = ap refusals number_is ∙ ap (λ (t : Bool). when t then 1 else 0) (sym (files_at_4 r.answer))

    -- what the call lists, by the count in its 16 bytes
    abbrev pub count : ℕ
    count = get_or said' 13 0

    pub rises : (i j : ℕ) → i < j → j < count → get_or list' i 0 < get_or list' j 0
    rises i j h g =
        rw list_is
        (calls.list_rises w.panel o (records_lent k.faults) r v.picture (line_list w.panel o) (line_reply w.panel o) v.register heard.called i j h (rw said_is.listed at g))

    pub exactly : (cell : ℕ)
        → ListedIn list' count cell ↔ ((cell < 80) × (cell_drawn (shown_by (panel_of k.state).body) font cell ≢ cell_drawn (shown_by (panel_of l.state).body) font cell))
    exactly cell =
        rw (list_is, said_is.listed, same_panel, after_panel)
        (calls.list_is_the_change w.panel o (records_lent k.faults) r v.picture (line_list w.panel o) (line_reply w.panel o) v.register heard.called cell)

    pub listed_drawn : (cell j : ℕ) → j < 8 → ListedIn list' count cell → get_or l.picture (place_of cell j) 0 ≡ get_or (cell_drawn (shown_by (panel_of l.state).body) font cell) j 0
    listed_drawn cell j h g =
        rw (picture_is, after_panel)
        (calls.listed_cells_are_drawn w.panel o (records_lent k.faults) r v.picture (line_list w.panel o) (line_reply w.panel o) v.register heard.called cell j h (rw (list_is, said_is.listed) at g))

    pub unlisted_stay : (cell j : ℕ) → cell < 80 → j < 8 → (ListedIn list' count cell → ⊥) → get_or l.picture (place_of cell j) 0 ≡ get_or k.picture (place_of cell j) 0
    unlisted_stay cell j h g none =
        rw (picture_is, s.picture)
        (calls.no_other_byte w.panel o (records_lent k.faults) r v.picture (line_list w.panel o) (line_reply w.panel o) v.register heard.called cell j h g (rw (list_is, said_is.listed) at none))

-- What holds of the whole panel over sequences of calls.
use Prim.Native.Nat.{ℕ, ◌+◌, ◌<◌, ◌≤◌}
use mathlib.Core.Path.{◌≡◌, refl, sym, ◌∙◌, ap}
use mathlib.Core.Bool.{true}
use mathlib.Core.List.{List, [], ◌∷◌, map}
use native.Mathlib.Omega.{arith}
use lib.Dec.{lit≤}
use lib.ListN.{length}
use Rattle.panel.specs.declared.Panel.{Panel}
use Rattle.panel.specs.State.{powered_on}
use Rattle.ranges.specs.Ranges.{in_ranges}
use Rattle.ranges.proofs.Theorems.{power_on_in_range}
use Rattle.sets.specs.Sets.{cells_of, cells_found}
use Rattle.symbols.proofs.Theorems.{set_is_the_search}
use Rattle.filing.specs.declared.Record.{Record}
use Rattle.filing.specs.Filing.{counts}
use Rattle.framing.proofs.Theorems as framing
use Rattle.picture.specs.Draw.{screen_of, drawn}
use Rattle.answers.specs.declared.Check.{Check}
use Rattle.answers.specs.declared.Said.{Said}
use Rattle.answers.specs.Answer.{numbers_of, refused_call}
use Rattle.perform.specs.Perform.{shown_by}
use Rattle.power.specs.Power.{PowersOn}
use Rattle.theorems.specs.Run.{Call, World, any_register, lent_back, Runs, done, more, Afresh}
use Rattle.theorems.specs.Story.{Entry, Others, none, one, Story, last, line, call, call_places}
use Rattle.theorems.specs.Worked.{told, pieces_of, expected_of, worked_cases}
use Rattle.theorems.proofs.Others.{live_kept}
use Rattle.theorems.proofs.Runs.{InOrder, power_panel, power_draws, power_refused, hears_afresh, answers_afresh, still_afresh, still_in_order, adds_up, makes}
use Rattle.theorems.proofs.Stories.{same_story, story_of}
use Rattle.theorems.proofs.Worked.{all_said}

module _ (font picture picture' : List ℕ) (r : Said) (on : PowersOn picture font r picture') where
  -- A refused power-on still returns the power-on state; the picture stays as it came, and all counts are 0.
  pub refused_power_on : 10 ≤ (numbers_of r.answer).number → (c : Check) × ((r ≡ refused_call powered_on c) × (picture' ≡ picture))
  refused_power_on h = power_refused picture font r picture' on h

  -- After an accepted power-on and any sequence of calls, refused ones among them, each lent a list, a reply buffer and a register of
  -- any size and content but the same font, and the state and picture as the last call left them, the picture is the one drawn afresh
  -- from the state.
  pub drawn_afresh : (numbers_of r.answer).number < 10 → (register : List Record) (cs : List Call) (v : World) (n : ℕ)
      → Runs font any_register cs (record { panel = r.panel; picture = picture'; register = register }) v n → Afresh font v
  drawn_afresh a register cs v n runs = still_afresh runs (power_draws picture font r picture' on a)

  -- From then on, a refused power-on too, each set of cells is after any such sequence what a search of the live text finds.
  pub sets_are_the_search : (register : List Record) (cs : List Call) (v : World) (n : ℕ)
      → Runs font any_register cs (record { panel = r.panel; picture = picture'; register = register }) v n → (glyph : ℕ)
      → cells_of v.panel.body.sets glyph ≡ cells_found v.panel.body.live.shown.text glyph
  unfolding powered_on
  sets_are_the_search register cs v n runs glyph =
      let on-is = power_panel picture font r picture' on in
      let start : InOrder r.panel = record { ranges = rw on-is power_on_in_range; bytes = rw on-is (omega arith) } in
      set_is_the_search v.panel (still_in_order runs start).ranges glyph

  -- From a power-on, accepted or refused, and a register whose records are all free, lent back as left, below 4,294,967,296 refusals,
  -- the counts plus the unfiled number equal the packets refused.
  pub counts_add_up : (register : List Record) (cs : List Call) (v : World) (n : ℕ) → counts register ≡ 0
      → Runs font lent_back cs (record { panel = r.panel; picture = picture'; register = register }) v n → n < 4294967296 → counts v.register + v.panel.line.unfiled ≡ n
  unfolding powered_on
  counts_add_up register cs v n e runs h =
      let z : r.panel.line.unfiled ≡ 0 = ap (λ (p : Panel). p.line.unfiled) (power_panel picture font r picture' on) in
      omega (arith, adds_up font runs (omega arith))

-- Each sequence of calls can be made: from every world, with the register lent back or any other, its promises lead to another.
pub goes_on : (font : List ℕ) (cs : List Call) (w : World) → (v : World) × ((n : ℕ) × Runs font lent_back cs w v n)
goes_on font [] w = (w, (0, done))
goes_on font (c ∷ cs) w =
    let m = makes font c w in
    let o = goes_on font cs m.1.0 in
    (o.0, (_, more {c = c} {register = w.register} refl m.1.1 o.1.1))

-- what other calls show
others_show : {p : Panel} {entries : List Entry} {q : Panel} → Others p entries q → q.body.live ≡ p.body.live
others_show none = refl
others_show (one n m o) = others_show o ∙ live_kept m

story_afresh : {font : List ℕ} {w v : World} {bytes : List ℕ} {entries : List Entry} → Story font w bytes entries v → Afresh font w → Afresh font v
story_afresh {font} (last h t a o) e = hears_afresh h.heard e ∙ sym (ap (λ s. drawn (screen_of s.shown) font) (others_show o))
story_afresh (line piece rest h s) e = story_afresh s (hears_afresh h.heard e)
story_afresh {font} (call n m s) e = story_afresh s (answers_afresh m font _ e)

module _ {w : World} (h : in_ranges w.panel ≡ true) (n : length w.panel.line.hold.bytes ≤ 25) where
  -- Any sequence of calls, refused ones and waiting ones among them, takes a state in its ranges to one in its ranges.
  pub stays_in_range : {font : List ℕ} {cs : List Call} {v : World} {m : ℕ} → Runs font any_register cs w v m → in_ranges v.panel ≡ true
  stays_in_range runs = (still_in_order runs (record { ranges = h; bytes = n })).ranges

  module _ {font : List ℕ} {bytes : List ℕ} where
    -- The same bytes cut into line calls in any two ways, repeated until all is taken and the answer is waiting, with the same other
    -- calls after the same packets, come to the same answers, replies and listed cells, the same panel and the same register.
    -- Whether those calls fall after the same taken byte too makes no difference.
    pub cut_anywhere : {entries entries' : List Entry} {v v' : World} → Story font w bytes entries v → Story font w bytes entries' v' → call_places 0 entries ≡ call_places 0 entries'
        → (entries ≡ entries') × (v.panel ≡ v'.panel) × (v.register ≡ v'.register)
    cut_anywhere s s' e = same_story record { ranges = h; bytes = n } s s' e

    -- And where the picture was the one drawn afresh from the state, they come to the same picture.
    pub cut_anywhere_paints_alike : Afresh font w → {entries entries' : List Entry} {v v' : World} → Story font w bytes entries v → Story font w bytes entries' v'
        → call_places 0 entries ≡ call_places 0 entries' → v.picture ≡ v'.picture
    cut_anywhere_paints_alike a s s' e =
        story_afresh s a ∙ ap (λ (p : Panel). drawn (shown_by p.body) font) (cut_anywhere s s' e).1 ∙ sym (story_afresh s' a)

    -- Such calls come to an end, where the sizes of the picture, the font and the register are right.
    pub calls_end : length w.picture ≡ 640 → length font ≡ 2048 → length w.register ≡ 64 → (entries : List Entry) × ((v : World) × Story font w bytes entries v)
    calls_end p f r =
        story_of font (framing.calls_end 4096 (lit≤ tt) w.panel.line.hold bytes) w record { panel = record { ranges = h; bytes = n }; picture = p; rows = f; register = r } refl

-- P1 to P10 of document 01, from power-on: each call says what the table of the worked cases has.
pub worked : map (λ c. told powered_on (pieces_of c)) worked_cases ≡ map expected_of worked_cases
worked = all_said

-- The table has ten rows.
pub ten_worked : length worked_cases ≡ 10
ten_worked = refl

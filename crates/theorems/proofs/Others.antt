-- A call that is not on the line, by its row: its checks, what it says where they pass, and its buffer as it leaves it.
use Prim.Native.Nat.{ℕ, ◌+◌, ◌<◌, ◌≤◌}
use mathlib.Core.Path.{◌≡◌, refl, sym, ◌∙◌, ap}
use mathlib.Core.Bool.{Bool, true, false}
use mathlib.Core.List.{List, []}
use native.Mathlib.Omega.{arith}
use borrow.Author.Tests.{eq-eqb}
use lib.ListN.{length, take, drop, replicate}
use lib.Seq.{take_at}
use Rattle.std.specs.Prelude.{is_some}
use Rattle.lists.specs.Tests.{when◌then◌else◌, ◌=?◌}
use Rattle.lists.specs.Runs.{front}
use Rattle.lists.proofs.Laws.{when_either, when_true, when_false}
use Rattle.lists.proofs.Rising.{passing_short}
use Rattle.sets.specs.Sets.{is_in, cells_of}
use Rattle.bits.specs.Bits.{is_on}
use Rattle.panel.specs.declared.Body.{Body}
use Rattle.panel.specs.declared.Panel.{Panel}
use Rattle.panel.specs.State.{powered_on, with_body, with_keys, with_pins}
use Rattle.ranges.specs.Ranges.{in_ranges}
use Rattle.ranges.proofs.InRange.{panel_parts_lem, panel_whole}
use Rattle.answers.specs.declared.Check.{Check}
use Rattle.answers.specs.declared.Answer.TheVariants.{Done}
use Rattle.answers.specs.declared.Said.{Said}
use Rattle.answers.specs.Answer.{numbers_of, filing_of, no_counts, refused_call}
use Rattle.answers.specs.Checks.{Test, decided}
use Rattle.answers.proofs.Checks.{refused_by, accepted_by, either_way, call_refused, call_unchanged}
use Rattle.events.specs.Keys.{key_event, mask_for, report_bytes, key_tests, reports}
use Rattle.events.specs.Pins.{pin_event, pin_tests}
use Rattle.events.proofs.Theorems.{key_stays_in_range, pin_stays_in_range}
use Rattle.symbols.specs.Symbols.{cells_tests}
use Rattle.symbols.proofs.Theorems.{cells_only_read}
use Rattle.statebytes.specs.State.{panel_of, is_state, PanelFits, on_state}
use Rattle.saidbytes.specs.Says.{SaidFits, number_of, bytes_said, no_state}
use Rattle.linebytes.specs.Line.{state_after}
use Rattle.theorems.proofs.Outcomes.{files_at_4}
use Rattle.theorems.specs.Other.{Other, key, pin, cells, room_for, Answers, presses, moves, tells, AnswersBytes}
use Rattle.theorems.specs.Run.{refused_in}
use Rattle.theorems.specs.Story.{wrote}

-- the rows
abbrev pub tests : Other → Panel → List ℕ → List Test
tests (key number down) p out = key_tests (in_ranges p) (length out) number down p.body.keys
tests (pin number high) p out = pin_tests (in_ranges p) number
tests (cells glyph) p out = cells_tests (in_ranges p) glyph (length out)

abbrev pub body_after : Other → Body → Body
body_after (key number down) b = with_keys b (key_event down number b.keys)
body_after (pin number high) b = with_pins b (pin_event high number b.pins)
body_after (cells glyph) b = b

abbrev pub written : Other → Body → ℕ
written (key number down) b = when is_on (mask_for down b.live.masks) number then 5 else 0
written (pin number high) b = 0
written (cells glyph) b = 0

abbrev pub listing : Other → Body → List ℕ
listing (key number down) b = []
listing (pin number high) b = []
listing (cells glyph) b = cells_of b.sets glyph

-- every call answers 3 and changes the body alone
abbrev pub accepted : Other → Panel → Said
accepted c p =
    record { panel = with_body p (body_after c p.body); answer = Done 0; counts = no_counts; reply = written c p.body; listed = length (listing c p.body) }

abbrev pub left : Other → Panel → List ℕ → List ℕ
left (key number down) p out = when reports p number down then front (report_bytes down number) out else out
left (pin number high) p out = out
left (cells glyph) p out = front (cells_of p.body.sets glyph) out

-- what a call says, and the buffer as it leaves it
abbrev pub said_by : Other → Panel → List ℕ → Said
said_by c p out = decided (tests c p out) (refused_call p) (accepted c p)

abbrev pub left_by : Other → Panel → List ℕ → List ℕ
left_by c p out = decided (tests c p out) (λ check. out) (left c p out)

-- a call that is lent no buffer leaves it, whatever its checks
unlent : (tests : List Test) (out : List ℕ) → decided tests (λ check. out) out ≡ out
unlent tests out = either_way tests (λ c f. refused_by f (λ check. out) out) (λ q. accepted_by _ q (λ check. out) out)

pub by_row : {c : Other} {p : Panel} {out : List ℕ} {r : Said} {out' : List ℕ} → Answers c p out r out' → (r ≡ said_by c p out) × (out' ≡ left_by c p out)
by_row (presses m) = m
by_row (moves {number} {high} {p} {out} m) = (m, sym (unlent (pin_tests (in_ranges p) number) out))
by_row (tells m) = m

pub from_row : (c : Other) (p : Panel) (out : List ℕ) → Answers c p out (said_by c p out) (left_by c p out)
from_row (key number down) p out = presses (refl, refl)
from_row (pin number high) p out = rw (unlent (pin_tests (in_ranges p) number) out) (moves refl)
from_row (cells glyph) p out = tells (refl, refl)

-- what each row has: the line's part and what is shown stay, and the answer is 3 with nothing counted
pub line_stays : (c : Other) (p : Panel) → (accepted c p).panel.line ≡ p.line
line_stays c p = refl

pub live_stays : (c : Other) (p : Panel) → (accepted c p).panel.body.live ≡ p.body.live
live_stays (key number down) p = refl
live_stays (pin number high) p = refl
live_stays (cells glyph) p = refl

pub is_three : (c : Other) (p : Panel) → (numbers_of (accepted c p).answer).number ≡ 3
unfolding numbers_of
is_three c p = refl

pub stays_in_range : {c : Other} {p : Panel} {out : List ℕ} {r : Said} {out' : List ℕ} → Answers c p out r out' → in_ranges p ≡ true → in_ranges r.panel ≡ true
stays_in_range (presses {number} {down} {p} {out} {r} {out'} m) h = key_stays_in_range p number down out r out' m h
stays_in_range (moves {number} {high} {p} {out} {r} m) h = pin_stays_in_range p number high r m h
stays_in_range (tells {glyph} {p} {out} {r} {out'} m) h = rw (cells_only_read p glyph out r out' m) h

-- a row changes of the panel bytes alone, and what it says fits its 16 bytes where the sets have theirs
pub row_fits : (c : Other) (p : Panel) → PanelFits p → PanelFits (accepted c p).panel
row_fits (key number down) p h = h
row_fits (pin number high) p h = h
row_fits (cells glyph) p h = h

abbrev pub SaidSmall : Said → Type 0
SaidSmall s = SaidFits s.counts s.reply s.listed

pub row_small : (c : Other) (p : Panel) → PanelFits p → SaidSmall (accepted c p)
row_small (key number down) p h =
    record { taken = omega arith; dropped = omega arith; checked = omega arith; reply = when_either (λ (n : ℕ). n < 256) (reports p number down) _ _ (λ _. omega arith) (λ _. omega arith); listed = omega arith }
row_small (pin number high) p h = record { taken = omega arith; dropped = omega arith; checked = omega arith; reply = omega arith; listed = omega arith }
row_small (cells glyph) p h =
    let few = passing_short (is_in p.body.sets glyph) (length p.body.sets) in
    record { taken = omega arith; dropped = omega arith; checked = omega arith; reply = omega arith; listed = omega (arith, few, h.1.1.1.1.1.1) }

-- a panel of this body, and buffers, that stand for all
abbrev pub standing : Body → Panel
standing b = with_body powered_on b

abbrev pub blanks_for : Other → List ℕ
blanks_for c = replicate (room_for c) 0

abbrev pub blanks : List ℕ
blanks = replicate 26 0

-- the checks look at the ranges, the body and the buffer's size alone
same_tests : (c : Other) (p : Panel) (out : List ℕ) → in_ranges p ≡ true → in_ranges (standing p.body) ≡ true → length out ≡ room_for c → tests c p out ≡ tests c (standing p.body) (blanks_for c)
same_tests (key number down) p out h g n = rw (h, g, eq-eqb (length out) 26 n)
same_tests (pin number high) p out h g n = rw (h, g)
same_tests (cells glyph) p out h g n = rw (h, g, eq-eqb (length out) 80 n)

-- what is done and written looks at the body alone
same_wrote : (c : Other) (p : Panel) (out : List ℕ) → wrote (accepted c p) (left c p out) ≡ wrote (accepted c (standing p.body)) (left c (standing p.body) (blanks_for c))
unfolding when◌then◌else◌
same_wrote (key number down) p out = go (reports p number down)
  where
    none : List ℕ
    none = blanks_for (key number down)

    go : (t : Bool) → take ((when t then 5 else 0) + 0) (when t then front (report_bytes down number) out else out) ≡ take ((when t then 5 else 0) + 0) (when t then front (report_bytes down number) none else none)
    go true = refl
    go false = refl
same_wrote (pin number high) p out = refl
same_wrote (cells glyph) p out =
    let found = cells_of p.body.sets glyph in
    let all : (o : List ℕ) → take (0 + length found) (front found o) ≡ found = λ o. take_at found (drop (length found) o) (0 + length found) (omega arith) in
    all out ∙ sym (all (blanks_for (cells glyph)))

same_accepted : (c : Other) (p : Panel) → ((accepted c p).answer ≡ (accepted c (standing p.body)).answer) × ((accepted c p).panel ≡ with_body p (accepted c (standing p.body)).panel.body)
same_accepted c p = (refl, refl)

-- two calls answered alike, on panels that have the same body
pub record Alike (p : Panel) (r : Said) (out : List ℕ) (r' : Said) (out' : List ℕ) : Type 0 where
  pub answer : r.answer ≡ r'.answer
  pub front : wrote r out ≡ wrote r' out'
  pub panel : r.panel ≡ with_body p r'.panel.body

-- a call on a panel in its ranges, lent a buffer of its size, is answered as on any other of the same body
pub alike : (c : Other) (p : Panel) (out : List ℕ) → in_ranges p ≡ true → length out ≡ room_for c
    → Alike p (said_by c p out) (left_by c p out) (said_by c (standing p.body) (blanks_for c)) (left_by c (standing p.body) (blanks_for c))
unfolding powered_on
alike c p out h n =
    let q = standing p.body in
    let i = panel_parts_lem p h in
    let g : in_ranges q ≡ true = panel_whole q record { count = omega arith; live = i.live; boot = i.boot; keys = i.keys; pins = i.pins; sets = i.sets } in
    let none = blanks_for c in
    let e = same_tests c p out h g n in
    rw e
    (either_way (tests c q none)
    (λ d f. rw (refused_by f (refused_call p) (accepted c p), refused_by f (refused_call q) (accepted c q)) record { answer = refl; front = refl; panel = refl })
    (λ s.
    rw (accepted_by (tests c q none) s (refused_call p) (accepted c p), accepted_by (tests c q none) s (refused_call q) (accepted c q), accepted_by (tests c q none) s (λ check. out) (left c p out), accepted_by (tests c q none) s (λ check. none) (left c q none))
    record { answer = (same_accepted c p).0; front = same_wrote c p out; panel = (same_accepted c p).1 }))

module _ {c : Other} {p : Panel} {out : List ℕ} {r : Said} {out' : List ℕ} (m : Answers c p out r out') where
  -- either way the line's part and what is shown stay
  pub line_kept : r.panel.line ≡ p.line
  line_kept =
      either_way (tests c p out) (λ d f. ap (λ (s : Said). s.panel.line) ((by_row m).0 ∙ refused_by f _ _))
      (λ q. ap (λ (s : Said). s.panel.line) ((by_row m).0 ∙ accepted_by _ q _ _) ∙ line_stays c p)

  pub live_kept : r.panel.body.live ≡ p.body.live
  live_kept =
      either_way (tests c p out) (λ d f. ap (λ (s : Said). s.panel.body.live) ((by_row m).0 ∙ refused_by f _ _))
      (λ q. ap (λ (s : Said). s.panel.body.live) ((by_row m).0 ∙ accepted_by _ q _ _) ∙ live_stays c p)

  -- no packet is refused
  pub none_refused : refused_in r ≡ 0
  unfolding refused_in
  none_refused =
      either_way (tests c p out)
      (λ d f. let q = (by_row m).0 ∙ refused_by f _ _ in rw q (when_false _ _ _ refl))
      (λ q.
      let z = (by_row m).0 ∙ accepted_by _ q _ _ in
      let t : is_some (filing_of r.answer) ≡ false = files_at_4 r.answer ∙ ap (λ (s : Said). (numbers_of s.answer).number =? 4) z ∙ ap (λ (n : ℕ). n =? 4) (is_three c p) in
      when_false _ _ _ t)

  -- a call refused by number leaves the panel and the buffer as they came, and counts nothing
  pub refused_other_changes_nothing : 10 ≤ (numbers_of r.answer).number → (d : Check) × ((r ≡ refused_call p d) × (out' ≡ out))
  refused_other_changes_nothing h =
      let f = call_refused p (tests c p out) (accepted c p) r (by_row m).0 (omega (arith, is_three c p)) h in
      (f.0, (call_unchanged p _ _ r (by_row m).0 f.1, (by_row m).1 ∙ refused_by f.1 _ _))

-- what a call makes of bytes that are a state, and of others
pub is_on_lem : {A : Type 0} (state : List ℕ) (x : A) (f : Panel → A) → is_state state ≡ true → on_state state x f ≡ f (panel_of state)
unfolding on_state
is_on_lem state x f e = when_true _ _ _ e

pub no_on : {A : Type 0} (state : List ℕ) (x : A) (f : Panel → A) → is_state state ≡ false → on_state state x f ≡ x
unfolding on_state
no_on state x f e = when_false _ _ _ e

-- the state's bytes after a call, which writes them or only reads them
abbrev pub state_by : Other → List ℕ → Said → List ℕ
state_by (key number down) s r = state_after s r
state_by (pin number high) s r = state_after s r
state_by (cells glyph) s r = s

-- a call that leaves the bytes where it would write them leaves them
pub refused_leaves : (c : Other) (s : List ℕ) (r : Said) → state_after s r ≡ s → state_by c s r ≡ s
refused_leaves (key number down) s r e = e
refused_leaves (pin number high) s r e = e
refused_leaves (cells glyph) s r e = refl

-- a call that is not on the line, over bytes, by its row
pub record RowBytes (c : Other) (s out : List ℕ) (n : ℕ) (s' out' said' : List ℕ) : Type 0 where
  pub number : n ≡ on_state s 10 (λ p. number_of (said_by c p out))
  pub state : s' ≡ on_state s s (λ p. state_by c s (said_by c p out))
  pub reply : out' ≡ on_state s out (λ p. left_by c p out)
  pub said : said' ≡ on_state s no_state (λ p. bytes_said (said_by c p out))

-- whatever is left as it came
unmoved : (s x : List ℕ) → on_state s x (λ p. x) ≡ x
unmoved s x = go (is_state s) refl
  where
    go : (t : Bool) → is_state s ≡ t → on_state s x (λ p. x) ≡ x
    go true e = is_on_lem s x (λ p. x) e
    go false e = no_on s x (λ p. x) e

-- the same over bytes
unlent_bytes : (s out : List ℕ) (tests : Panel → List Test) → out ≡ on_state s out (λ p. decided (tests p) (λ check. out) out)
unlent_bytes s out tests = go (is_state s) refl
  where
    go : (t : Bool) → is_state s ≡ t → out ≡ on_state s out (λ p. decided (tests p) (λ check. out) out)
    go true e = sym (is_on_lem s out (λ p. decided (tests p) (λ check. out) out) e ∙ unlent (tests (panel_of s)) out)
    go false e = sym (no_on s out (λ p. decided (tests p) (λ check. out) out) e)

pub by_bytes : {c : Other} {s out : List ℕ} {n : ℕ} {s' out' said' : List ℕ} → AnswersBytes c s out n s' out' said' → RowBytes c s out n s' out' said'
by_bytes (presses m) = record { number = m.0.number; state = m.0.state; reply = m.1; said = m.0.said }
by_bytes (moves {number} {high} {state = s} {out} m) =
    record { number = m.number; state = m.state; reply = unlent_bytes s out (λ p. pin_tests (in_ranges p) number); said = m.said }
by_bytes (tells {state = s} m) = record { number = m.number; state = sym (unmoved s s); reply = m.cells; said = m.said }

-- what another call makes of any bytes
pub made_by_row : (c : Other) (s out : List ℕ) → (n : ℕ) × ((s' : List ℕ) × ((out' : List ℕ) × ((said' : List ℕ) × AnswersBytes c s out n s' out' said')))
made_by_row (key number down) s out = (_, (_, (_, (_, presses (record { number = refl; state = refl; said = refl }, refl)))))
made_by_row (pin number high) s out = (_, (_, (_, (_, moves record { number = refl; state = refl; said = refl }))))
made_by_row (cells glyph) s out = (_, (_, (_, (_, tells record { number = refl; cells = refl; said = refl }))))

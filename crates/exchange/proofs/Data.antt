-- The data that a panel in its ranges replies: a host takes them for such, and they fit a packet.
use Prim.Native.Nat.{ℕ, ◌-◌, ◌^◌, ◌<◌, ◌≤◌}
use mathlib.Core.Path.{◌≡◌, refl, ◌∙◌, subst}
use mathlib.Core.Bool.{Bool, true, false, not, ◌&&◌, ◌||◌, or-true}
use mathlib.Core.List.{List, [], ◌∷◌}
use native.Mathlib.Omega.{arith}
use borrow.Author.Tests.{eq-eqb, le-leb, leb-false, ltb-false, not-false}
use lib.ListN.{length, get_or, get_or-eq_default}
use lib.Pow.{pow_mono}
use Rattle.std.specs.Prelude.{Option, Some, Ok}
use Rattle.lists.specs.Tests.{when◌then◌else◌, ◌<?◌, ◌≤?◌, ◌=?◌, all, all_at_most}
use Rattle.lists.proofs.Laws.{when_either}
use Rattle.lists.proofs.Firsts.{none_before}
use Rattle.bits.specs.Bits.{is_on}
use Rattle.bits.proofs.Laws.{off_above}
use Rattle.glyphs.specs.Glyphs.{eight_from}
use Rattle.glyphs.proofs.Every.{Passes, every_at, all_every, every_all}
use Rattle.table.specs.declared.Row.{Row}
use Rattle.table.specs.Table.{table, look_up, config_allowed}
use Rattle.verdict.specs.Verdict.{in_range, first_out, verdict_by, verdict_of}
use Rattle.verdict.proofs.Reasons.{Fits, Seen, together, see}
use Rattle.panel.specs.declared.Panel.{Panel}
use Rattle.ranges.specs.Ranges.{in_ranges}
use Rattle.ranges.proofs.InRange.{panel_parts_lem, settings_parts_lem, keys_parts_lem, pins_parts_lem}
use Rattle.statebytes.specs.State.{PanelFits}
use Rattle.replies.specs.Replies.{memory, bit, edges, pin_reply, reply_data}
use Rattle.reading.specs.Reading.{is_memory, is_poll, is_wired, is_pin, can_reply}
use Rattle.exchange.proofs.Codes.{by_code, bare_reply, bare_can}

-- what is known of a command that is allowed: its row fits, and each data byte is in its range
pub record Fitting (o : Option Row) (d : List ℕ) : Type 0 where
  pub fits : Fits o d
  pub each : (i : ℕ) → i < length d → in_range fits.row.rule d i ≡ true

pub fitting : (o : Option Row) (d : List ℕ) → verdict_by o d ≡ Ok tt → Fitting o d
unfolding first_out
fitting o d v = go (see o d (Ok tt) v)
  where
    go : Seen o d (Ok tt) → Fitting o d
    go (together f h e) = record { fits = f; each = λ i l. not-false _ (none_before (λ j. not (in_range f.row.rule d j)) (length d) i (omega arith)) }

-- the same of a row that is known
pub record Known (r : Row) (d : List ℕ) : Type 0 where
  pub enough : r.shortest ≤ length d
  pub few : length d ≤ r.longest
  pub each : (i : ℕ) → i < length d → in_range r.rule d i ≡ true

pub known : (r : Row) (d : List ℕ) → verdict_by (Some r) d ≡ Ok tt → Known r d
known r d v =
    let f = fitting (Some r) d v in
    let same : f.fits.row ≡ r = let w = f.fits.command in cc in
    subst (λ (x : Row). Known x d) same (record { enough = f.fits.enough; few = f.fits.few; each = f.each })

-- data of one byte
one_byte : (d : List ℕ) → length d ≡ 1 → d ≡ get_or d 0 0 ∷ []
one_byte [] e = absurd (omega arith)
one_byte (x ∷ []) e = refl
one_byte (x ∷ y ∷ d) e = absurd (omega arith)

-- a list whose elements pass a test that 0 passes too gives only such, past its end and eight at a time
module _ (test : ℕ → Bool) (nought : test 0 ≡ true) (xs : List ℕ) (e : all test xs ≡ true) where
  pub passes_at : (i : ℕ) → test (get_or xs i 0) ≡ true
  passes_at i = every_at (Passes test) xs 0 nought (all_every test xs e) i

  eight_pass : (k : ℕ) → all test (eight_from xs k) ≡ true
  eight_pass k =
      let at : (i : ℕ) → test (get_or xs i 0) ≡ true = passes_at in
      every_all test (eight_from xs k) (at _, (at _, (at _, (at _, (at _, (at _, (at _, (at _, tt))))))))

bit_at_most : (b : Bool) → bit b ≤ 1
bit_at_most true = omega arith
bit_at_most false = omega arith

module _ (p : Panel) (ranges : in_ranges p ≡ true) (fits : PanelFits p) where
  -- 10: the bytes of glyphs are their rows
  memory_can : (address : ℕ) → verdict_of 10 (address ∷ []) ≡ Ok tt → is_memory (address ∷ memory p.body.live.shown address) ≡ true
  unfolding is_memory memory
  memory_can address v =
      let live = settings_parts_lem p.body.live (panel_parts_lem p ranges).live in
      rw v
      (when_either (λ (x : List ℕ). ((length (address ∷ x) =? 9) && true && ((128 ≤? address) || all_at_most 63 x)) ≡ true) (address <? 128) _ _
      (λ _. rw (eight_pass (λ x. x ≤? 63) refl p.body.live.shown.glyphs live.glyphs (address - 64), or-true))
      (λ e. rw (le-leb 128 address (ltb-false _ _ e))))

  -- 24: six keys
  poll_can : is_poll (p.body.keys.down ∷ p.body.keys.pressed ∷ p.body.keys.released ∷ []) ≡ true
  unfolding is_poll all
  poll_can =
      let k = keys_parts_lem p.body.keys (panel_parts_lem p ranges).keys in
      rw (le-leb _ _ k.down, le-leb _ _ k.pressed, le-leb _ _ k.released)

  -- 35: pins 0 to 4 have three edge bits and a config, and the others neither
  few_edges : (pin : ℕ) → edges p.body.pins pin ≤ 7
  unfolding edges
  few_edges pin =
      let q = p.body.pins in
      omega (arith, bit_at_most (is_on q.last pin), bit_at_most (is_on q.fell pin), bit_at_most (is_on q.rose pin))

  no_edges : (pin : ℕ) → 5 ≤ pin → edges p.body.pins pin ≡ 0
  unfolding edges
  no_edges pin h =
      let q = p.body.pins in
      let parts = pins_parts_lem q (panel_parts_lem p ranges).pins in
      let wide : 32 ≤ 2 ^ pin = pow_mono {i = 5} {j = pin} h in
      rw (off_above q.last pin (omega arith), off_above q.fell pin (omega arith), off_above q.rose pin (omega arith))

  no_config : (pin : ℕ) → 5 ≤ pin → get_or p.body.live.wires.configs pin 0 ≡ 0
  no_config pin h = get_or-eq_default p.body.live.wires.configs 0 {n = pin} (omega (arith, fits.1.0.1.1.1.1.1))

  wired_can : (pin : ℕ) → is_wired pin (edges p.body.pins pin) (get_or p.body.live.wires.configs pin 0) ≡ true
  unfolding is_wired config_allowed
  wired_can pin =
      let live = settings_parts_lem p.body.live (panel_parts_lem p ranges).live in
      when_either (λ (t : Bool). t ≡ true) (pin ≤? 4) _ _
      (λ _. rw (le-leb _ 7 (few_edges pin)) (passes_at config_allowed refl p.body.live.wires.configs live.configs pin))
      (λ e. let h : 5 ≤ pin = leb-false pin 4 e in rw (no_edges pin h, no_config pin h))

  pin_can : (pin : ℕ) → verdict_of 35 (pin ∷ []) ≡ Ok tt → is_pin (pin_reply p.body pin) ≡ true
  unfolding is_pin
  pin_can pin v =
      let live = settings_parts_lem p.body.live (panel_parts_lem p ranges).live in
      rw (v, passes_at (λ x. x ≤? 100) refl p.body.live.wires.levels live.levels pin) (wired_can pin)

  -- A panel in its ranges replies what can be replied.
  pub reply_can : (code : ℕ) (d : List ℕ) → verdict_of code d ≡ Ok tt → can_reply code (reply_data code d p.body) ≡ true
  unfolding can_reply reply_data when◌then◌else◌ look_up
  reply_can code d v =
      by_code (λ (c : ℕ). verdict_of c d ≡ Ok tt → can_reply c (reply_data c d p.body) ≡ true) code
      (λ _. refl)
      (λ _. refl)
      (λ _. eq-eqb _ 16 fits.1.1.1.1.1.0)
      (λ w. memory_can (get_or d 0 0) (rw (← one_byte d (alone _ refl refl w)) w))
      (λ _. poll_can)
      (λ w. pin_can (get_or d 0 0) (rw (← one_byte d (alone _ refl refl w)) w))
      (λ bare w. rw (bare_reply code bare d p.body) (bare_can code bare [] ∙ rw (fitting (look_up code table) d w).fits.command))
      v
    where
      alone : (r : Row) → r.shortest ≡ 1 → r.longest ≡ 1 → verdict_by (Some r) d ≡ Ok tt → length d ≡ 1
      alone r a b w = let f = known r d w in omega (arith, f.enough, f.few)

  -- The reply fits a packet.
  pub reply_short : (code : ℕ) (d : List ℕ) → verdict_of code d ≡ Ok tt → length (reply_data code d p.body) ≤ 22
  unfolding reply_data memory when◌then◌else◌ look_up
  reply_short code d v =
      by_code (λ (c : ℕ). verdict_of c d ≡ Ok tt → length (reply_data c d p.body) ≤ 22) code
      (λ w. (known _ d w).few)
      (λ _. omega arith)
      (λ _. omega (arith, fits.1.1.1.1.1))
      (λ _. when_either (λ (x : List ℕ). length (get_or d 0 0 ∷ x) ≤ 22) (get_or d 0 0 <? 128) _ _ (λ _. omega arith) (λ _. omega arith))
      (λ _. omega arith)
      (λ _. omega arith)
      (λ bare _. rw (bare_reply code bare d p.body) (omega arith))
      v

-- Every way to cut a line into calls comes to the whole line, and there is one.
use mathlib.Core.Path.{◌≡◌, refl, sym, ◌∙◌, ap}
use mathlib.Core.Logic.{dite}
use mathlib.Core.List.{List, [], ◌++◌, append-nil, append_assoc}
use Prim.Native.Nat.{ℕ, zero, suc, ◌+◌, ◌*◌, ◌-◌, ◌<◌, ◌≤◌, min}
use native.Mathlib.Decide.{dec_le}
use native.Mathlib.Omega.{arith}
use lib.ListN.{length, take, drop, take-append-drop, length-take, length-drop}
use lib.Seq.{drop-length, take_all}
use Rattle.std.specs.Prelude.{None}
use Rattle.packets.specs.declared.Hold.{Hold}
use Rattle.packets.specs.Hold.{held, hold_of}
use Rattle.packets.proofs.Bytes.{held_hold_of}
use Rattle.framing.specs.declared.Scanned.{Scanned}
use Rattle.framing.specs.Scan.{Ending, waiting, packet, packet_at, Outcome, scan, scanned_of, piece_most, Scans}
use Rattle.framing.specs.Line.{Tally, nothing_more, counted, Calls, last, next, line}
use Rattle.framing.proofs.Lines.{noted, counted_noted, scanned, all_taken}
use Rattle.framing.proofs.Bounds.{call, taken_at_most}

-- the piece as a call sees it, and the rest
split : (piece more : List ℕ) → piece ++ more ≡ take piece_most piece ++ (drop piece_most piece ++ more)
split piece more = ap (λ (l : List ℕ). l ++ more) (sym (take-append-drop piece_most piece)) ∙ append_assoc (take piece_most piece) (drop piece_most piece) more

-- a line read by a call on a piece of it, and then whole
pub by_call : (hold : Hold) (piece more : List ℕ) (r : Scanned) → Scans hold piece r
    → line (held hold ++ (piece ++ more)) ≡ counted r (line (held r.hold ++ drop r.counts.taken (piece ++ more)))
unfolding scanned_of
by_call hold piece more r e =
    let o = scan (held hold) (take piece_most piece) in
    let a = scanned (held hold) (take piece_most piece) (drop piece_most piece ++ more) in
    let b : line (held hold ++ (piece ++ more)) ≡ noted o (line (o.hold ++ drop o.taken (piece ++ more))) = rw (split piece more) a in
    let rest = drop o.taken (piece ++ more) in
    b ∙ sym (counted_noted o (line (o.hold ++ rest))) ∙ ap (λ (h : List ℕ). counted (scanned_of o) (line (h ++ rest))) (sym (held_hold_of o.hold))
    ∙ sym (ap (λ (x : Scanned). counted x (line (held x.hold ++ drop x.counts.taken (piece ++ more)))) e)

waiting_ending : (e : Ending) → packet_at e ≡ None → e ≡ waiting
waiting_ending waiting p = refl
waiting_ending (packet k d) p = cc

-- a last call leaves nothing to read
nothing_left : (hold : Hold) (bytes : List ℕ) (r : Scanned) → Scans hold bytes r → r.counts.taken ≡ length bytes → r.packet ≡ None
    → line (held r.hold ++ drop r.counts.taken (bytes ++ [])) ≡ nothing_more r.hold
unfolding scanned_of
nothing_left hold bytes r e t f =
    let o = scan (held hold) (take piece_most bytes) in
    let w : o.ending ≡ waiting = waiting_ending o.ending (sym (ap (λ (x : Scanned). x.packet) e) ∙ f) in
    let a = all_taken (held hold) (take piece_most bytes) w in
    rw (t, append-nil, drop-length, append-nil, e, held_hold_of) a.1

-- calls on the bytes from the hold, cut anywhere, come to the whole line
pub whole_line : {most : ℕ} {hold : Hold} {bytes : List ℕ} {t : Tally} → Calls most hold bytes t → t ≡ line (held hold ++ bytes)
whole_line (last {hold = hold} {bytes = bytes} {r = r} n e t f) =
    ap (counted r) (sym (nothing_left hold bytes r e t f)) ∙ sym (by_call hold bytes [] r e) ∙ rw append-nil
whole_line (next {hold = hold} piece more {r = r} n e c) = ap (counted r) (whole_line c) ∙ sym (by_call hold piece more r e)

at_most_first : (n most second : ℕ) → n ≤ min most second → n ≤ most
at_most_first n most second p = omega arith

at_most_second : (n most second : ℕ) → n ≤ min most second → n ≤ second
at_most_second n most second p = omega arith

-- a call that waits leaves less where it saw only a part of the bytes, and one that ends with a packet does always
less_waiting : (before taken dropped kept bytes most f : ℕ) → 1 ≤ most → before + 2 * bytes ≤ f → before + taken ≡ dropped + 0 + kept → taken ≡ min piece_most (min most bytes) → (bytes ≤ min most piece_most → ⊥)
    → kept + 2 * (bytes - taken) < f
less_waiting before taken dropped kept bytes most f room n k t p = omega arith

less_packet : (before taken dropped content kept bytes f most seen : ℕ) → before + 2 * bytes ≤ f → before + taken ≡ dropped + (content + 4) + kept → taken ≤ seen → seen ≡ min piece_most (min most bytes)
    → kept + 2 * (bytes - taken) < f
less_packet before taken dropped content kept bytes f most seen n k t s = omega arith

-- there is such a way: a call on as much as there is and may be, and calls on what it leaves
module _ (most : ℕ) (room : 1 ≤ most) (hold : Hold) (bytes : List ℕ) where
  abbrev piece : List ℕ
  piece = take most bytes

  abbrev outcome : Outcome
  outcome = scan (held hold) (take piece_most piece)

  go_on : Calls most (hold_of outcome.hold) (drop outcome.taken bytes) (line (held (hold_of outcome.hold) ++ drop outcome.taken bytes)) → Calls most hold bytes (line (held hold ++ bytes))
  unfolding scanned_of
  go_on c =
      let whole : piece ++ drop most bytes ≡ bytes = take-append-drop most bytes in
      let d : Calls most (hold_of outcome.hold) (drop outcome.taken (piece ++ drop most bytes)) (line (held (hold_of outcome.hold) ++ drop outcome.taken (piece ++ drop most bytes))) = rw whole c in
      let n : Calls most hold (piece ++ drop most bytes) (counted (scanned_of outcome) (line (held (hold_of outcome.hold) ++ drop outcome.taken (piece ++ drop most bytes)))) =
      next piece (drop most bytes) (omega (arith, length-take most bytes)) refl d in
      rw whole at (rw (← by_call hold piece (drop most bytes) (scanned_of outcome) refl) at n)

  sized : length (take piece_most piece) ≡ min piece_most (min most (length bytes))
  sized = length-take piece_most piece ∙ ap (min piece_most) (length-take most bytes)

  -- what the call leaves, in what it holds and in what it has not taken
  left : (f : ℕ) → length outcome.hold + 2 * (length bytes - outcome.taken) < f → length (held (hold_of outcome.hold)) + 2 * length (drop outcome.taken bytes) < f
  left f h = rw (held_hold_of, length-drop) h

  ends_at : (f : ℕ) → length (held hold) + 2 * length bytes ≤ f → ((g : Hold) (more : List ℕ) → length (held g) + 2 * length more < f → Calls most g more (line (held g ++ more)))
      → (e : Ending) → outcome.ending ≡ e → Calls most hold bytes (line (held hold ++ bytes))
  unfolding scanned_of
  ends_at f n ih waiting q =
      let t = (all_taken (held hold) (take piece_most piece) q).0 in
      let k = rw q at (call (held hold) (take piece_most piece)).adds_up in
      dite (dec_le (length bytes) (min most piece_most))
      (λ p.
      let same : piece ≡ bytes = take_all most bytes (at_most_first _ _ _ p) in
      let all : outcome.taken ≡ length bytes = t ∙ ap (λ (x : List ℕ). length (take piece_most x)) same ∙ ap length (take_all piece_most bytes (at_most_second _ _ _ p)) in
      let c : Calls most hold bytes (counted (scanned_of outcome) (nothing_more (hold_of outcome.hold))) =
      last (at_most_first _ _ _ p) (ap (λ (x : List ℕ). scanned_of (scan (held hold) (take piece_most x))) same) all (ap packet_at q) in
      rw (whole_line c) at c)
      (λ p. go_on (ih (hold_of outcome.hold) (drop outcome.taken bytes) (left f (less_waiting _ _ _ _ _ _ _ room n k (t ∙ sized) p))))
  ends_at f n ih (packet k d) q =
      let j = rw q at (call (held hold) (take piece_most piece)).adds_up in
      go_on (ih (hold_of outcome.hold) (drop outcome.taken bytes) (left f (less_packet _ _ _ _ _ _ _ most _ n j (taken_at_most (held hold) (take piece_most piece)) sized)))

ends_in : (most : ℕ) → 1 ≤ most → (f : ℕ) (hold : Hold) (bytes : List ℕ) → length (held hold) + 2 * length bytes < f → Calls most hold bytes (line (held hold ++ bytes))
ends_in most room zero hold bytes n = absurd (omega arith)
ends_in most room (suc f) hold bytes n =
    ends_at most room hold bytes f (omega arith) (λ g more m. ends_in most room f g more m) (outcome most room hold bytes).ending refl

pub ends : (most : ℕ) → 1 ≤ most → (hold : Hold) (bytes : List ℕ) → Calls most hold bytes (line (held hold ++ bytes))
ends most room hold bytes = ends_in most room (suc (length (held hold) + 2 * length bytes)) hold bytes (omega arith)

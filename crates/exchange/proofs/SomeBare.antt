-- Some panel for each acknowledgement and each error reply that a host reads: data for each code that are allowed, and that are not.
use Prim.Native.Nat.{ℕ, ◌+◌, ◌<◌}
use mathlib.Core.Path.{◌≡◌, refl, sym, ◌∙◌}
use mathlib.Core.Bool.{Bool, true, false, not, ◌&&◌, ◌||◌, true≢false, false≢true, and-eq-true_iff}
use mathlib.Core.List.{List, [], ◌∷◌}
use native.Mathlib.Omega.{arith}
use borrow.Author.Tests.{eqb-true, leb-true, not-true, not-false, ne_eqb}
use lib.ListN.{length, replicate}
use Rattle.std.specs.Prelude.{Option, Some, None, is_some, Result, Ok, Err, is_ok}
use Rattle.lists.specs.Tests.{when◌then◌else◌, ◌<?◌, ◌≤?◌, ◌=?◌, all}
use Rattle.lists.specs.First.{first_below}
use Rattle.lists.proofs.Firsts.{none_before}
use Rattle.packets.specs.Packet.{content_most, packet_bytes}
use Rattle.table.specs.declared.Row.{Row}
use Rattle.table.specs.Table.{table, look_up, config_allowed}
use Rattle.verdict.specs.declared.Reason.{Reason}
use Rattle.verdict.specs.declared.Objection.{Objection}
use Rattle.verdict.specs.Verdict.{in_range, first_out, is_reboot, whole_verdict, refused, verdict_by, verdict_of}
use Rattle.reading.specs.Reading.{can_reply}
use Rattle.exchange.specs.Writes.{error_meant, Writes}
use Rattle.exchange.proofs.Codes.{Bare, bare_reply, bare_can}
use Rattle.exchange.proofs.AreBytes.{tested_bytes}
use Rattle.exchange.proofs.Made.{some_reply, some_error}
use Rattle.exchange.proofs.Panels.{panel_with, possible_with, holds_nothing}
use Rattle.exchange.proofs.Some.{Replied, plain, plain_proper, allowed_is}

-- the lengths that a row allows, 0 where there is none
abbrev shortest_of : Option Row → ℕ
shortest_of None = 0
shortest_of (Some r) = r.shortest

abbrev longest_of : Option Row → ℕ
longest_of None = 0
longest_of (Some r) = r.longest

-- data that a command allows, and data that it refuses
unfoldable allowed_for : ℕ → List ℕ
allowed_for code = when code =? 5 then 8 ∷ 18 ∷ 99 ∷ [] else replicate (shortest_of (look_up code table)) 0

unfoldable refused_for : ℕ → List ℕ
refused_for code = when longest_of (look_up code table) =? 0 then 0 ∷ [] else []

-- data that fit a packet
abbrev fitting : List ℕ → Bool
fitting d = (length d ≤? content_most) && all (λ b. b <? 256) d

-- what antt computes for each of the 64 codes: a known command but 10 is allowed with the one, and each but 0 refused with the other
unfoldable allows : ℕ → Bool
allows code = not (is_some (look_up code table)) || (code =? 10) || is_ok (verdict_of code (allowed_for code)) && fitting (allowed_for code)

unfoldable refuses : ℕ → Bool
refuses code = (code =? 0) || not (is_ok (verdict_of code (refused_for code))) && fitting (refused_for code)

all_allow : first_below (λ code. not (allows code)) 64 ≡ 64
unfolding allows all allowed_for look_up verdict_by first_out first_below in_range whole_verdict is_reboot config_allowed when◌then◌else◌
all_allow = refl

all_refuse : first_below (λ code. not (refuses code)) 64 ≡ 64
unfolding refuses all refused_for look_up verdict_by first_out first_below in_range whole_verdict is_reboot config_allowed when◌then◌else◌
all_refuse = refl

each_code : (test : ℕ → Bool) → first_below (λ code. not (test code)) 64 ≡ 64 → (code : ℕ) → code < 64 → test code ≡ true
each_code test e code h = not-false _ (none_before (λ c. not (test c)) 64 code (omega arith))

-- what a test of three parts leaves
remains : (a b c : Bool) → (not a || b || c) ≡ true → a ≡ true → b ≡ false → c ≡ true
remains true false c e f g = e
remains true true c e f g = absurd (true≢false g)
remains false b c e f g = absurd (false≢true f)

pub no_data : (d : List ℕ) → length d ≡ 0 → [] ≡ d
no_data [] e = refl
no_data (x ∷ d) e = absurd (omega arith)

refused_is : (v : Result (Unit {0}) Objection) → is_ok v ≡ false → (reason : Reason) × ((place : ℕ) × (v ≡ refused reason place))
refused_is (Ok _) e = absurd (true≢false e)
refused_is (Err o) e = (o.reason, (o.place, refl))

pub bare_some : (code : ℕ) → code < 64 → Bare code → (d : List ℕ) → can_reply code d ≡ true → Replied code d
unfolding allows
bare_some code small bare d can =
    let both = (and-eq-true_iff (is_some (look_up code table)) (length d =? 0)).0 (sym (bare_can code bare d) ∙ can) in
    let every = (and-eq-true_iff (is_ok (verdict_of code (allowed_for code))) (fitting (allowed_for code))).0 (remains _ _ _ (each_code allows all_allow code small) both.0 bare.not_10) in
    let fits = (and-eq-true_iff (length (allowed_for code) ≤? content_most) _).0 every.1 in
    some_reply (panel_with plain) (possible_with plain plain_proper) (holds_nothing plain) code small (allowed_for code) (leb-true _ _ fits.0) (tested_bytes (allowed_for code) fits.1) (allowed_is _ every.0) d
    (bare_reply code bare (allowed_for code) (panel_with plain).body ∙ no_data d (eqb-true _ _ both.1))

pub error_some : (code : ℕ) → code < 64 → (code ≡ 0 → ⊥) → Writes (error_meant code) (packet_bytes (192 + code) [])
unfolding refuses
error_some code small some =
    let both = (and-eq-true_iff (not (is_ok (verdict_of code (refused_for code)))) (fitting (refused_for code))).0 (rw (ne_eqb code 0 some) at (each_code refuses all_refuse code small)) in
    let fits = (and-eq-true_iff (length (refused_for code) ≤? content_most) _).0 both.1 in
    let v = refused_is _ (not-true _ both.0) in
    some_error (panel_with plain) (possible_with plain plain_proper) (holds_nothing plain) code small (refused_for code) (leb-true _ _ fits.0) (tested_bytes (refused_for code) fits.1) v.0 v.1.0 v.1.1

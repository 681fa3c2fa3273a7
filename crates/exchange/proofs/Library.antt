-- The same of the C library: what its composer writes is heard, what it says of a packet is what a panel's line call says of it, and
-- its reader reads exactly what panels write.
use Prim.Native.Nat.{ℕ, ◌%◌, ◌<◌, ◌≤◌}
use mathlib.Core.Path.{◌≡◌, refl, sym, ◌∙◌, ap}
use mathlib.Core.Bool.{true}
use mathlib.Core.List.{List, []}
use native.Mathlib.Omega.{arith}
use lib.ListN.{length, take, get_or}
use Rattle.std.specs.Prelude.{Option, Some, None, Result, Ok, Err}
use Rattle.shapes.specs.Shape.{Bytes, bytes}
use Rattle.packets.specs.Packet.{packet_bytes}
use Rattle.packets.specs.Hold.{held}
use Rattle.filing.specs.declared.Record.{Record}
use Rattle.verdict.specs.declared.Objection.{Objection}
use Rattle.verdict.specs.Verdict.{verdict_of}
use Rattle.panel.specs.declared.Panel.{Panel}
use Rattle.ranges.specs.Ranges.{in_ranges}
use Rattle.answers.specs.declared.Numbers.{Numbers}
use Rattle.answers.specs.declared.Said.{Said}
use Rattle.answers.specs.Answer.{numbers_of, no_counts}
use Rattle.saidbytes.specs.Says.{said_bytes, bytes_said}
use Rattle.listen.specs.Reply.{ruling}
use Rattle.linecall.specs.Line.{Lent, LineCall}
use Rattle.composer.specs.declared.Written.{Written}
use Rattle.composer.specs.declared.ComposeError.{ComposeError}
use Rattle.composer.specs.declared.ComposeError.TheVariants.{BufferSize, Refused}
use Rattle.composer.specs.Compose.{outcome_by, composing, ComposesFor}
use Rattle.composer.proofs.Verdicts.{allowed_short}
use Rattle.composer.proofs.Ways.{written_allowed, written_is}
use Rattle.host.specs.Calls.{compose_numbers, packet_length, ComposeBytes}
use Rattle.hostreads.specs.Reads.{read_number, reading_bytes, bytes_read, ReadBytes}
use Rattle.reading.specs.declared.Reading.{Reading}
use Rattle.reading.specs.Reading.{read_of}
use Rattle.exchange.specs.Writes.{Writes}
use Rattle.exchange.specs.Heard.{RightSizes, IsHeard}
use Rattle.exchange.proofs.Heard.{composed_answer}
use Rattle.exchange.proofs.Refusals.{composed_outcome}
use Rattle.exchange.proofs.Theorems as theorems

-- What a composer that returns 3 wrote, as many bytes as it says at place 12, is heard as the packet of that code and data.
pub composed_is_heard : (code : ℕ) (d packet packet' said' : List ℕ) → ComposeBytes code d packet 3 packet' said' → IsHeard code d (take (get_or said' 12 0) packet')
unfolding compose_numbers packet_length said_bytes bytes numbers_of
composed_is_heard code d packet packet' said' w = go (composing packet code d) refl
  where
    go : (c : Result Written ComposeError) → composing packet code d ≡ c → IsHeard code d (take (get_or said' 12 0) packet')
    go (Err BufferSize) e = let n : ◌≡◌ {A = ℕ} 3 21 = rw e at w.1.0 in absurd (omega arith)
    go (Err (Refused command reason place)) e = let n : ◌≡◌ {A = ℕ} 3 4 = rw e at w.1.0 in absurd (omega arith)
    go (Ok r) e =
        let c : ComposesFor packet code d (Ok r) packet' = (sym e, w.0) in
        let few = allowed_short code d (written_allowed packet code d r packet' c) in
        let n : get_or said' 12 0 ≡ r.size = ap (λ (l : List ℕ). get_or l 12 0) (rw e at w.1.1) ∙ omega (arith, (written_is packet code d r packet' c).1) in
        rw n (theorems.composed_is_heard packet code d r packet' c)

same_numbers : (code : ℕ) (d : List ℕ) (v : Result (Unit {0}) Objection) → code < 64 → compose_numbers (outcome_by v code d) ≡ numbers_of (ruling v code)
unfolding compose_numbers outcome_by ruling
same_numbers code d (Ok _) small = let m : code % 64 ≡ code = omega arith in rw m
same_numbers code d (Err o) small = let m : code % 64 ≡ code = omega arith in rw m

-- Of a code of 0 to 63 and at most 22 data bytes, the composer says the number, command, reason and place that the line call of a
-- panel in its ranges that holds nothing says of their packet.
pub says_as_the_panel : (code : ℕ) (d packet : List ℕ) (n : ℕ) (packet' said' : List ℕ) → ComposeBytes code d packet n packet' said' → length packet ≡ 26 → code < 64 → length d ≤ 22
    → (p : Panel) (l : Lent) → in_ranges p ≡ true → held p.line.hold ≡ [] → RightSizes l → l.piece ≡ packet_bytes code d
    → (register : List Record) (r : Said) (picture' list' reply' : List ℕ) (register' : List Record) → LineCall p l register r picture' list' reply' register'
    → take 4 said' ≡ take 4 (bytes_said r)
unfolding said_bytes bytes
says_as_the_panel code d packet n packet' said' w size small few p l ranges empty sizes piece register r picture' list' reply' register' called =
    let v = verdict_of code d in
    let c : composing packet code d ≡ outcome_by v code d = composed_outcome packet code d (composing packet code d) packet' size (refl, w.0) in
    let a : r.answer ≡ ruling v code = composed_answer p l code d ranges empty sizes piece few small register r picture' list' reply' register' called refl in
    let m : compose_numbers (composing packet code d) ≡ numbers_of r.answer = ap compose_numbers c ∙ same_numbers code d v small ∙ sym (ap numbers_of a) in
    ap (take 4) w.1.1 ∙ ap (λ (k : Numbers). take 4 (said_bytes k no_counts 0 0)) m

-- What some panel in its ranges writes, the reader returns 3 for, and its 26 bytes are what the panel meant.
pub written_is_read : (m : Reading) (given : List ℕ) (n : ℕ) (out' : List ℕ) → Writes m given → ReadBytes given n out' → (n ≡ 3) × (out' ≡ reading_bytes m)
written_is_read m given n out' w r = let e = theorems.written_is_read m given w in (r.0 ∙ ap read_number e, r.1 ∙ ap bytes_read e)

-- What the reader returns 3 for, some panel in its ranges writes, and means what the 26 bytes say.
pub read_is_written : (given out' : List ℕ) → Bytes given → ReadBytes given 3 out' → (m : Reading) × ((read_of given ≡ Some m) × Writes m given × (out' ≡ reading_bytes m))
read_is_written given out' small r = go (read_of given) refl
  where
    go : (o : Option Reading) → read_of given ≡ o → (m : Reading) × ((read_of given ≡ Some m) × Writes m given × (out' ≡ reading_bytes m))
    go None e = let n : ◌≡◌ {A = ℕ} 3 29 = r.0 ∙ ap read_number e in absurd (omega arith)
    go (Some m) e = (m, (e, theorems.read_is_written given small m e, r.1 ∙ ap bytes_read e))

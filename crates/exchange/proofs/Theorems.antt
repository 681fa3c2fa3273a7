-- What holds of a host and a panel together: "Composing then framing gives the same command; every reply the panel can write reads
-- back to what the panel meant."
use Prim.Native.Nat.{ℕ, ◌<◌, ◌≤◌}
use mathlib.Core.Path.{◌≡◌, refl, ◌∙◌}
use mathlib.Core.Logic.{◌↔◌}
use mathlib.Core.Bool.{true}
use mathlib.Core.List.{List, []}
use native.Mathlib.Omega.{arith}
use lib.ListN.{length, take}
use Rattle.std.specs.Prelude.{Some, Result, Ok, Err}
use Rattle.shapes.specs.Shape.{Bytes}
use Rattle.packets.specs.Packet.{packet_bytes}
use Rattle.packets.specs.Hold.{held}
use Rattle.filing.specs.declared.Record.{Record}
use Rattle.verdict.specs.declared.Reason.{Reason}
use Rattle.verdict.specs.Verdict.{verdict_of}
use Rattle.panel.specs.declared.Panel.{Panel}
use Rattle.ranges.specs.Ranges.{in_ranges}
use Rattle.answers.specs.declared.Answer.TheVariants as answers
use Rattle.answers.specs.declared.Said.{Said}
use Rattle.linecall.specs.Line.{Lent, LineCall}
use Rattle.composer.specs.declared.Written.{Written}
use Rattle.composer.specs.declared.ComposeError.{ComposeError}
use Rattle.composer.specs.declared.ComposeError.TheVariants.{Refused}
use Rattle.composer.specs.Compose.{ComposesFor}
use Rattle.composer.proofs.Verdicts.{allowed_short, allowed_code}
use Rattle.composer.proofs.Ways.{written_allowed, written_is}
use Rattle.reading.specs.declared.Reading.{Reading}
use Rattle.reading.specs.Reading.{read_of}
use Rattle.exchange.specs.Writes.{Writes}
use Rattle.exchange.specs.Heard.{RightSizes, IsHeard}
use Rattle.exchange.proofs.Heard.{scan_alone, composed_answer, composed_done}
use Rattle.exchange.proofs.Refusals as refusals
use Rattle.exchange.proofs.Read as read
use Rattle.exchange.proofs.Found as found

-- What compose writes is heard.
pub composed_is_heard : (packet : List ℕ) (code : ℕ) (d : List ℕ) (w : Written) (packet' : List ℕ) → ComposesFor packet code d (Ok w) packet'
    → IsHeard code d (take w.size packet')
composed_is_heard packet code d w packet' c =
    let v = written_allowed packet code d w packet' c in
    let few = allowed_short code d v in
    let bytes : take w.size packet' ≡ packet_bytes code d = (written_is packet code d w packet' c).2 in
    record {
      found = λ s q. scan_alone code d few s (rw bytes at q);
      allowed = v;
      done = λ p l ranges empty sizes piece register r picture' list' reply' register' called. composed_done p l code d ranges empty sizes (piece ∙ bytes) few (omega (arith, allowed_code code d v)) register r picture' list' reply' register' called v;
    }

-- For every code of 0 to 63 and data of at most 22 bytes, compose refuses if and only if the panel does, with the same reason and
-- place.
pub refuses_as_the_panel : (packet : List ℕ) (code : ℕ) (d : List ℕ) (c : Result Written ComposeError) (packet' : List ℕ) → length packet ≡ 26 → code < 64 → length d ≤ 22 → ComposesFor packet code d c packet'
    → (p : Panel) (l : Lent) → in_ranges p ≡ true → held p.line.hold ≡ [] → RightSizes l → l.piece ≡ packet_bytes code d
    → (register : List Record) (r : Said) (picture' list' reply' : List ℕ) (register' : List Record) → LineCall p l register r picture' list' reply' register'
    → (reason : Reason) (place : ℕ) → (c ≡ Err (Refused code reason place)) ↔ (r.answer ≡ answers.Refused code reason place)
refuses_as_the_panel packet code d c packet' size small few w p l ranges empty sizes piece register r picture' list' reply' register' called =
    refusals.alike code d c r.answer (verdict_of code d) small (refusals.composed_outcome packet code d c packet' size w) (composed_answer p l code d ranges empty sizes piece few small register r picture' list' reply' register' called refl)

-- Every reply and error reply of a line call on any panel in its ranges, and every report of a key call, is read to what the panel
-- meant.
pub written_is_read : (m : Reading) (bytes : List ℕ) → Writes m bytes → read_of bytes ≡ Some m
written_is_read m bytes w = read.writes_read m bytes w

-- Whatever bytes are read, some panel in its ranges writes, for some command or key event, and means what is read.
pub read_is_written : (bytes : List ℕ) → Bytes bytes → (m : Reading) → read_of bytes ≡ Some m → Writes m bytes
read_is_written bytes small m e = found.read_writes bytes small m e

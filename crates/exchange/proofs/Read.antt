-- What a panel writes is read to what it meant.
use Prim.Native.Nat.{ℕ, ◌+◌, ◌≤◌}
use mathlib.Core.Path.{◌≡◌, sym, ◌∙◌, ap}
use mathlib.Core.List.{List, [], ◌∷◌}
use native.Mathlib.Omega.{arith}
use lib.ListN.{length}
use Rattle.std.specs.Prelude.{Some, option_map}
use Rattle.packets.specs.declared.Packet.{Packet}
use Rattle.packets.specs.Packet.{content_most, packet_bytes, content_of}
use Rattle.events.specs.Keys.{report_code}
use Rattle.reading.specs.declared.Meaning.{Meaning}
use Rattle.reading.specs.declared.Reading.{Reading}
use Rattle.reading.specs.Reading.{meaning_of, values_for, reading_with, read_of}
use Rattle.exchange.specs.Writes.{data_heard, Writes, in_reply, in_refusal, in_report}
use Rattle.exchange.proofs.Replied.{done_ruled, refused_ruled, done_writes, refused_writes}
use Rattle.exchange.proofs.Data.{reply_can, reply_short}
use Rattle.exchange.proofs.OnePacket.{packet_read}
use Rattle.exchange.proofs.Meant.{reply_means, error_means, report_means}
use Rattle.exchange.proofs.Refusable.{found_few, never_refused}
use Rattle.exchange.proofs.Reported.{report_number, report_writes}

-- a packet is read to its meaning, with the values that go with it
pub packet_means : (kind : ℕ) (content : List ℕ) {m : Meaning} → length content ≤ content_most → meaning_of kind content ≡ Some m → read_of (packet_bytes kind content) ≡ Some (reading_with m (values_for m content))
packet_means kind content few e = packet_read kind content few ∙ ap (option_map (λ (x : Meaning). reading_with x (values_for x content))) e

-- in the order of the ways to write
pub writes_read : (m : Reading) (bytes : List ℕ) → Writes m bytes → read_of bytes ≡ Some m
writes_read m bytes (in_reply p l register r picture' list' reply' register' call command answer means is) =
    let f = done_ruled p l register r picture' list' reply' register' call.called command answer in
    let n = reply_short p call.possible.ranges call.possible.fits command (data_heard p l) f.1 in
    ap read_of (sym is ∙ done_writes p l register r picture' list' reply' register' call.called command answer n)
    ∙ packet_means (64 + command) _ n (reply_means command f.0.small _ (reply_can p call.possible.ranges call.possible.fits command (data_heard p l) f.1))
    ∙ ap (λ (x : Reading). Some x) means
writes_read m bytes (in_refusal p l register r picture' list' reply' register' call command reason place answer means is) =
    let f = refused_ruled p l register r picture' list' reply' register' call.called command reason place answer in
    let few : length (data_heard p l) ≤ content_most = omega (arith, found_few p l, ap (λ (x : Packet). length (content_of x)) f.0.packet) in
    ap read_of (sym is ∙ refused_writes p l register r picture' list' reply' register' call.called command reason place answer)
    ∙ packet_means (192 + command) [] (omega arith) (error_means command f.0.small (λ (e : command ≡ 0). never_refused (data_heard p l) few reason place (rw e at f.1)))
    ∙ ap (λ (x : Reading). Some x) means
writes_read m bytes (in_report p number down reply r reply' call answer some means is) =
    ap read_of (sym is ∙ report_writes p number down reply r reply' call.called answer some)
    ∙ packet_means 128 (report_code down number ∷ []) (omega arith) (report_means down number (report_number p number down reply r reply' call.called answer))
    ∙ ap (λ (x : Reading). Some x) means

-- What line calls on the bytes of an entry find.
use mathlib.Core.Path.{◌≡◌, refl, sym, ◌∙◌, ap}
use mathlib.Core.List.{List, []}
use Prim.Native.Nat.{ℕ, ◌+◌}
use native.Mathlib.Omega.{arith}
use Rattle.packets.specs.declared.Packet as packets
use Rattle.packets.specs.Hold.{hold_of}
use Rattle.framing.specs.Line.{Tally, Calls}
use Rattle.framing.proofs.Theorems.{cut_anywhere, calls_end}
use Rattle.recordings.specs.Recording.{direction}
use Rattle.recordings.specs.Next.{from_of}
use Rattle.recordings.specs.Asking.{entry_bytes, entry_packets, packets_of, CalledOn, none, host, panel}
use Rattle.recordings.proofs.Parts as parts

pub in_entry : (r : List ℕ) (at : ℕ) {most : ℕ} {t : Tally} → direction r at ≡ 0 → Calls most (hold_of []) (entry_bytes r at) t → entry_packets r 0 at ≡ t.packets
in_entry r at d c =
    let e : from_of 0 at ≡ at + 3 = omega arith in
    parts.host r 0 at d ∙ rw e (ap (λ (u : Tally). u.packets) (sym (cut_anywhere c (calls_end 1 (omega arith) (hold_of []) (entry_bytes r at)))))

pub called_on : {r entries : List ℕ} {called : List packets.Packet} → CalledOn r entries called → packets_of r 0 entries ≡ called
unfolding packets_of
called_on none = refl
called_on {r} (host {at} d c more) = rw (in_entry r at d c, called_on more)
called_on {r} (panel {at} d more) = rw (parts.not_host r 0 at d, called_on more)

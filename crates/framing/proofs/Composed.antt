-- A packet that was composed is found again.
use mathlib.Core.Path.{◌≡◌, ◌∙◌}
use mathlib.Core.List.{List, [], ◌∷◌, ◌++◌}
use Prim.Native.Nat.{ℕ, ◌+◌, ◌≤◌}
use native.Mathlib.Omega.{arith}
use lib.ListN.{length, drop, drop_of_length-le}
use Rattle.packets.specs.Packet.{packet_bytes, packet_of}
use Rattle.packets.proofs.Bytes.{packet_length_lem, packet_content}
use Rattle.packets.proofs.Composing.{composed_judged}
use Rattle.framing.specs.Line.{onto, line}
use Rattle.framing.proofs.Lines.{line_packet}

pub composed_line : (kind : ℕ) (content : List ℕ) → length content ≤ 22 → (s : List ℕ)
    → line (packet_bytes kind content ++ s) ≡ onto (packet_of kind content ∷ []) 0 (length content + 2) (line s)
composed_line kind content l s =
    let n = packet_length_lem kind content in
    let c = packet_content kind content in
    let d : drop (length content + 4) (packet_bytes kind content) ≡ [] = drop_of_length-le (packet_bytes kind content) {i = length content + 4} (omega arith) in
    line_packet (packet_bytes kind content) s (composed_judged kind content l) (omega arith) ∙ rw (c, d)

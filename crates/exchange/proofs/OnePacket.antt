-- Bytes that are exactly one packet are the bytes of its type and data, and the other way round.
use Prim.Native.Nat.{ℕ, suc, ◌+◌, ◌*◌, ◌/◌, ◌%◌, ◌≤◌}
use mathlib.Core.Path.{◌≡◌, sym, ◌∙◌, ap}
use mathlib.Core.Bool.{true, and-eq-true_iff}
use mathlib.Core.List.{List, [], ◌∷◌, ◌++◌}
use native.Mathlib.Numerals.{add-two, add-three}
use native.Mathlib.Omega.{arith}
use borrow.Author.Tests.{eq-eqb, eqb-true}
use lib.ListN.{length, take, drop, get_or, take-append-drop, drop_of_length-le}
use lib.Seq.{drop-cons, length-take-le}
use Rattle.lists.proofs.Laws.{when_true}
use Rattle.shapes.specs.Shape.{Bytes}
use Rattle.fcs.specs.Fcs.{checksum}
use Rattle.packets.specs.declared.Judgement.TheVariants.{Packet}
use Rattle.packets.specs.Packet.{content_most, packet_bytes}
use Rattle.packets.specs.Judge.{length_byte, checksum_right, judge}
use Rattle.packets.proofs.Bytes.{packet_length_lem, packet_content}
use Rattle.packets.proofs.Judgements.{Seen, whole, see}
use Rattle.packets.proofs.Composing.{composed_judged}
use Rattle.reading.proofs.OnePacket.{found_packet}
use Rattle.reading.specs.Reading.{is_packet_found, is_one_packet, data_in, reading_by, read_of}

-- The bytes of a packet are exactly one, and are read by its type and data.
pub packet_read : (kind : ℕ) (content : List ℕ) → length content ≤ content_most → read_of (packet_bytes kind content) ≡ reading_by kind content
unfolding read_of is_one_packet
packet_read kind content few =
    when_true _ _ _ (rw (composed_judged kind content few, eq-eqb _ (length content + 4) (packet_length_lem kind content)))
    ∙ ap (reading_by kind) (packet_content kind content)

-- the two bytes behind the first n
two_behind : (n : ℕ) (rest : List ℕ) → length rest ≡ n + 2 → rest ≡ take n rest ++ (get_or rest n 0 ∷ get_or rest (suc n) 0 ∷ [])
two_behind n rest l =
    let none : drop (suc (suc n)) rest ≡ [] = drop_of_length-le rest {i = suc (suc n)} (omega arith) in
    sym (take-append-drop n rest) ∙ rw (drop-cons rest n 0 (omega arith), drop-cons rest (suc n) 0 (omega arith), none)

-- Bytes that are exactly one packet are those of its type and data.
pub one_packet : (bytes : List ℕ) → Bytes bytes → is_one_packet bytes ≡ true → (length (data_in bytes) ≤ content_most) × (bytes ≡ packet_bytes (get_or bytes 0 0) (data_in bytes))
unfolding is_one_packet checksum_right
one_packet bytes small one =
    let both = (and-eq-true_iff (is_packet_found (judge bytes)) _).0 one in
    go bytes small (eqb-true _ _ both.1) (see bytes Packet (found_packet _ both.0))
  where
    go : (b : List ℕ) → Bytes b → length b ≡ length_byte b + 4 → Seen b Packet → (length (data_in b) ≤ content_most) × (b ≡ packet_bytes (get_or b 0 0) (data_in b))
    go [] small size (whole few room right) = absurd (omega arith)
    go (kind ∷ []) small size (whole few room right) = absurd (omega arith)
    go (kind ∷ n ∷ rest) small size (whole few room right) =
        let d = take n rest in
        let l : length d ≡ n = length-take-le n rest (omega arith) in
        let b = kind ∷ n ∷ rest in
        let held : checksum (take (n + 2) b) ≡ get_or b (n + 2) 0 + 256 * get_or b (n + 3) 0 = eqb-true _ _ right in
        let sum : checksum (kind ∷ n ∷ d) ≡ get_or rest n 0 + 256 * get_or rest (suc n) 0 = rw (add-two, add-three) at held in
        let low : get_or rest n 0 ≡ checksum (kind ∷ n ∷ d) % 256 = omega (arith, small (suc (suc n))) in
        let high : get_or rest (suc n) 0 ≡ checksum (kind ∷ n ∷ d) / 256 = omega (arith, small (suc (suc n))) in
        (omega arith, rw l (ap (λ (x : List ℕ). kind ∷ n ∷ x) (two_behind n rest (omega arith) ∙ (λ i. d ++ (low i ∷ high i ∷ [])))))

-- Exactly one packet: how long it is, and where its data stand.
use Prim.Native.Nat.{ℕ, ◌+◌, ◌-◌, ◌≤◌}
use mathlib.Core.Path.{◌≡◌, refl}
use mathlib.Core.Bool.{true, false≢true, and-eq-true_iff}
use mathlib.Core.List.{List}
use native.Mathlib.Omega.{arith}
use borrow.Author.Tests.{eqb-true, eq-eqb}
use lib.ListN.{length, take, drop, get_or}
use Rattle.std.specs.Prelude.{None}
use Rattle.lists.proofs.Laws.{when_true, when_either}
use Rattle.packets.specs.declared.Judgement.{Judgement}
use Rattle.packets.specs.declared.Judgement.TheVariants.{Wait, LongLength, WrongChecksum, Packet}
use Rattle.packets.specs.Judge.{length_byte, judge}
use Rattle.packets.proofs.Judgements.{Seen, whole, see}
use Rattle.reading.specs.Reading.{is_packet_found, is_one_packet, reading_by, read_of}

pub found_packet : (j : Judgement) → is_packet_found j ≡ true → j ≡ Packet
found_packet Wait e = absurd (false≢true e)
found_packet LongLength e = absurd (false≢true e)
found_packet WrongChecksum e = absurd (false≢true e)
found_packet Packet e = refl

module _ (bytes : List ℕ) where
  -- a packet has at most 22 data bytes, and stands there whole
  pub found_size : judge bytes ≡ Packet → (length_byte bytes ≤ 22) × (length_byte bytes + 4 ≤ length bytes)
  found_size e = go (see bytes Packet e)
    where
      go : Seen bytes Packet → (length_byte bytes ≤ 22) × (length_byte bytes + 4 ≤ length bytes)
      go (whole few room right) = (few, room)

  pub size : is_one_packet bytes ≡ true → (length_byte bytes ≤ 22) × (length bytes ≡ length_byte bytes + 4)
  unfolding is_one_packet
  size one =
      let both = (and-eq-true_iff (is_packet_found (judge bytes)) _).0 one in
      ((found_size (found_packet _ both.0)).0, eqb-true _ _ both.1)

  -- what is read of one packet, and that nothing is read of other bytes
  pub one_read : judge bytes ≡ Packet → length bytes ≡ length_byte bytes + 4 → read_of bytes ≡ reading_by (get_or bytes 0 0) (take (length bytes - 2 - 2) (drop 2 bytes))
  unfolding read_of is_one_packet
  one_read j e =
      let n : length bytes - 2 - 2 ≡ length_byte bytes = omega arith in
      rw n (when_true _ _ _ (rw (j, eq-eqb (length bytes) (length_byte bytes + 4) e)))

  pub none_read : (judge bytes ≡ Packet → length bytes ≡ length_byte bytes + 4 → ⊥) → read_of bytes ≡ None
  unfolding read_of is_one_packet
  none_read h =
      when_either (λ r. r ≡ None) _ _ _
      (λ one. let both = (and-eq-true_iff (is_packet_found (judge bytes)) _).0 one in absurd (h (found_packet _ both.0) (eqb-true _ _ both.1)))
      (λ _. refl)

-- What a host reads, some panel writes.
use Prim.Native.Nat.{ℕ, ◌+◌, ◌-◌, ◌<◌, ◌≤◌}
use mathlib.Core.Path.{◌≡◌, sym, subst}
use mathlib.Core.Bool.{true, false}
use mathlib.Core.List.{List, [], ◌∷◌}
use native.Mathlib.Omega.{arith}
use borrow.Author.Tests.{eqb-true, eqb-false, ltb-true, ltb-false, leb-true, leb-false}
use lib.ListN.{length, drop, get_or}
use Rattle.std.specs.Prelude.{Option, Some, None, option_map}
use Rattle.lists.specs.Tests.{when◌then◌else◌, ◌<?◌, ◌≤?◌, ◌=?◌}
use Rattle.lists.proofs.Laws.{when_either}
use Rattle.packets.specs.Packet.{content_most, packet_bytes}
use Rattle.shapes.specs.Shape.{Bytes}
use Rattle.packets.specs.Judge.{length_byte}
use Rattle.glyphs.proofs.Flat.{all_elements}
use Rattle.events.specs.Keys.{press_code}
use Rattle.reading.specs.declared.Meaning.{Meaning}
use Rattle.reading.specs.declared.Meaning.TheVariants.{Reply, ErrorReply}
use Rattle.reading.specs.declared.Reading.{Reading}
use Rattle.reading.specs.Reading.{can_reply, key_pressed, key_reported, meaning_of, is_one_packet, data_in, values_for, reading_with, read_of}
use Rattle.exchange.specs.Writes.{error_meant, report_meant, Writes}
use Rattle.exchange.proofs.Codes.{by_code}
use Rattle.exchange.proofs.AreBytes.{drop-bytes, take-bytes}
use Rattle.exchange.proofs.OnePacket.{one_packet}
use Rattle.exchange.proofs.Some.{Replied, echo_some, version_some, flash_some, poll_some}
use Rattle.exchange.proofs.SomeMemory.{memory_can_some}
use Rattle.exchange.proofs.SomePin.{pin_can_some}
use Rattle.exchange.proofs.SomeBare.{no_data, bare_some, error_some}
use Rattle.exchange.proofs.SomeKey.{pressed_key, pressed_code, report_some}

-- each reply that can be, by its command
reply_some : (code : ℕ) → code < 64 → (d : List ℕ) → length d ≤ content_most → Bytes d → can_reply code d ≡ true → Replied code d
unfolding can_reply when◌then◌else◌
reply_some code small d few bytes can =
    by_code (λ (c : ℕ). can_reply c d ≡ true → Replied c d) code
    (λ _. echo_some d few bytes)
    (λ e. version_some d e)
    (λ e. flash_some d bytes (eqb-true _ _ e))
    (λ e. memory_can_some d bytes e)
    (λ e. poll_some d e)
    (λ e. pin_can_some d bytes e)
    (λ bare e. bare_some code small bare d e)
    can

-- a packet with this meaning is written, where it has one
abbrev Found : ℕ → List ℕ → Option Meaning → Type 0
Found kind d None = Unit
Found kind d (Some m) = Writes (reading_with m (values_for m d)) (packet_bytes kind d)

-- each report, by its code
module _ (code : ℕ) (low : 1 ≤ code) where
  press_some : code ≤ 6 → Writes (report_meant (key_pressed code) true) (packet_bytes 128 (code ∷ []))
  press_some high =
      subst (λ (c : ℕ). Writes (report_meant (key_pressed code) true) (packet_bytes 128 (c ∷ []))) (pressed_code code low high)
      (report_some (key_pressed code) true (pressed_key code low high))

  release_some : 7 ≤ code → code ≤ 12 → Writes (report_meant (key_pressed (code - 6)) false) (packet_bytes 128 (code ∷ []))
  release_some more high =
      let e : press_code (key_pressed (code - 6)) + 6 ≡ code = omega (arith, pressed_code (code - 6) (omega arith) (omega arith)) in
      subst (λ (c : ℕ). Writes (report_meant (key_pressed (code - 6)) false) (packet_bytes 128 (c ∷ []))) e
      (report_some (key_pressed (code - 6)) false (pressed_key (code - 6) (omega arith) (omega arith)))

key_found : (code : ℕ) → Found 128 (code ∷ []) (key_reported code)
unfolding key_reported
key_found code =
    when_either (Found 128 (code ∷ [])) (code =? 0) _ _ (λ _. tt)
    (λ e.
    let some : (code ≡ 0 → ⊥) = eqb-false _ _ e in
    when_either (Found 128 (code ∷ [])) (code ≤? 6) _ _ (λ f. press_some code (omega arith) (leb-true _ _ f))
    (λ f. when_either (Found 128 (code ∷ [])) (code ≤? 12) _ _ (λ g. release_some code (omega arith) (leb-false _ _ f) (leb-true _ _ g)) (λ _. tt)))

-- each packet, by its type
module _ (kind : ℕ) (d : List ℕ) (byte : kind < 256) (few : length d ≤ content_most) (small : Bytes d) where
  reply_found : 64 ≤ kind → kind < 128 → Found kind d (when can_reply (kind - 64) d then Some (Reply (kind - 64)) else None)
  reply_found low high =
      let e : 64 + (kind - 64) ≡ kind = omega arith in
      when_either (Found kind d) (can_reply (kind - 64) d) _ _
      (λ can. subst (λ (k : ℕ). Writes (reading_with (Reply (kind - 64)) d) (packet_bytes k d)) e (reply_some (kind - 64) (omega arith) d few small can))
      (λ _. tt)

  report_found : kind ≡ 128 → Found kind d (when length d =? 1 then key_reported (get_or d 0 0) else None)
  report_found e =
      when_either (Found kind d) (length d =? 1) _ _
      (λ one. subst (λ (k : ℕ). Found k d (key_reported (get_or d 0 0))) (sym e)
      (subst (λ (x : List ℕ). Found 128 x (key_reported (get_or d 0 0))) (all_elements 0 d 0 1 (eqb-true _ _ one)) (key_found (get_or d 0 0))))
      (λ _. tt)

  error_found : 192 < kind → length d ≡ 0 → Found kind d (Some (ErrorReply (kind - 192)))
  error_found low none =
      let e : 192 + (kind - 192) ≡ kind = omega arith in
      let error : Writes (error_meant (kind - 192)) (packet_bytes (192 + (kind - 192)) []) = error_some (kind - 192) (omega arith) (λ (z : kind - 192 ≡ 0). omega arith) in
      subst (λ (x : List ℕ). Writes (error_meant (kind - 192)) (packet_bytes kind x)) (no_data d none)
      (subst (λ (k : ℕ). Writes (error_meant (kind - 192)) (packet_bytes k [])) e error)

  packet_found_lem : Found kind d (meaning_of kind d)
  unfolding meaning_of
  packet_found_lem =
      when_either (Found kind d) (kind <? 64) _ _ (λ _. tt)
      (λ e64. when_either (Found kind d) (kind <? 128) _ _ (λ e. reply_found (ltb-false _ _ e64) (ltb-true _ _ e))
      (λ e128. when_either (Found kind d) (kind =? 128) _ _ (λ e. report_found (eqb-true _ _ e))
      (λ e. when_either (Found kind d) (kind ≤? 192) _ _ (λ _. tt)
      (λ e192. when_either (Found kind d) (length d =? 0) _ _ (λ e. error_found (leb-false _ _ e192) (eqb-true _ _ e)) (λ _. tt)))))

-- bytes that are read are those of a packet
pub read_writes : (bytes : List ℕ) → Bytes bytes → (m : Reading) → read_of bytes ≡ Some m → Writes m bytes
unfolding read_of
read_writes bytes small m =
    when_either (λ (r : Option Reading). r ≡ Some m → Writes m bytes) (is_one_packet bytes) _ _
    (λ one e.
    let d = data_in bytes in
    let p = one_packet bytes small one in
    let values = take-bytes (length_byte bytes) (drop 2 bytes) (drop-bytes 2 bytes small) in
    subst (λ (x : List ℕ). Writes m x) (sym p.1) (go (get_or bytes 0 0) d (meaning_of (get_or bytes 0 0) d) (packet_found_lem (get_or bytes 0 0) d (small 0) p.0 values) e))
    (λ _ e. cc)
  where
    go : (kind : ℕ) (d : List ℕ) (o : Option Meaning) → Found kind d o → option_map (λ m. reading_with m (values_for m d)) o ≡ Some m → Writes m (packet_bytes kind d)
    go kind d None f e = cc
    go kind d (Some x) f e =
        let same : reading_with x (values_for x d) ≡ m = cc in
        subst (λ (r : Reading). Writes r (packet_bytes kind d)) same f

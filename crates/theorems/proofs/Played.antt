-- Packets and other calls, one after the other, played on a body: what is answered and what is left.
use Prim.Native.Nat.{ℕ, suc, ◌+◌, ◌<◌}
use mathlib.Core.Path.{◌≡◌, refl, sym, ◌∙◌}
use mathlib.Core.Bool.{Bool, true, false}
use mathlib.Core.List.{List, [], ◌∷◌, ◌++◌, map}
use native.Mathlib.Omega.{arith}
use borrow.Author.Tests.{eq-eqb}
use lib.ListN.{length, take, drop}
use lib.Seq.{take_at}
use Rattle.lists.specs.Tests.{when◌then◌else◌, ◌≤?◌, ◌=?◌}
use Rattle.packets.specs.declared.Packet.{Packet}
use Rattle.packets.specs.Packet.{packet_bytes, content_of, composed_length, composed}
use Rattle.packets.proofs.Bytes.{packet_length_lem}
use Rattle.panel.specs.declared.Body.{Body}
use Rattle.picture.specs.Repaint.{changed}
use Rattle.answers.specs.Answer.{numbers_of, is_done}
use Rattle.listen.specs.Reply.{answer_to, error_type}
use Rattle.perform.specs.Commands.{carried}
use Rattle.perform.specs.Perform.{shown_by}
use Rattle.theorems.specs.Other.{Other}
use Rattle.theorems.specs.Story.{Entry, packet, other, wrote, Place, after, call_places}
use Rattle.theorems.proofs.Others.{said_by, left_by, standing, blanks_for}

pub data Item : Type 0 where
  found : Packet → Item
  made : Other → Item

-- the bytes that a packet has in any buffer of 26
abbrev pub bytes_in : ℕ → List ℕ → List ℕ
bytes_in kind content = when length content ≤? 22 then packet_bytes kind content else []

pub composed_bytes : (out : List ℕ) (kind : ℕ) (content : List ℕ) → length out ≡ 26 → take (composed_length out content) (composed out kind content) ≡ bytes_in kind content
unfolding composed_length composed when◌then◌else◌
composed_bytes out kind content n = rw (eq-eqb (length out) 26 n) (go (length content ≤? 22))
  where
    bytes : List ℕ
    bytes = packet_bytes kind content

    go : (t : Bool) → take (when t then length content + 4 else 0) (when t then bytes ++ drop (length bytes) out else out) ≡ (when t then bytes else [])
    go true = take_at bytes (drop (length bytes) out) (length content + 4) (packet_length_lem kind content)
    go false = refl

-- what a packet does to a body, the bytes replied to it and the cells that it alters
abbrev pub step_body : Body → Packet → Body
step_body b k = when is_done (answer_to k) then (carried b k).body else b

abbrev pub step_reply : Body → Packet → List ℕ
step_reply b k =
    when is_done (answer_to k) then bytes_in (carried b k).reply.kind (content_of (carried b k).reply)
    else when (numbers_of (answer_to k)).number =? 4 then bytes_in (error_type (answer_to k)) []
    else []

module _ (font : List ℕ) where
  abbrev pub entry_of : Body → Item → Entry
  entry_of b (found k) = packet (answer_to k) (step_reply b k) (changed (shown_by b) (shown_by (step_body b k)) font)
  entry_of b (made c) = let r = said_by c (standing b) (blanks_for c) in other c r.answer (wrote r (left_by c (standing b) (blanks_for c)))

  abbrev pub body_then : Body → Item → Body
  body_then b (found k) = step_body b k
  body_then b (made c) = (said_by c (standing b) (blanks_for c)).panel.body

  abbrev pub played : Body → List Item → List Entry
  played b [] = []
  played b (i ∷ items) = entry_of b i ∷ played (body_then b i) items

  abbrev pub body_at_end : Body → List Item → Body
  body_at_end b [] = b
  body_at_end b (i ∷ items) = body_at_end (body_then b i) items

  pub played_append : (b : Body) (items more : List Item) → played b (items ++ more) ≡ played b items ++ played (body_at_end b items) more
  played_append b [] more = refl
  played_append b (i ∷ items) more = rw (played_append (body_then b i) items more)

  pub end_append : (b : Body) (items more : List Item) → body_at_end b (items ++ more) ≡ body_at_end (body_at_end b items) more
  end_append b [] more = refl
  end_append b (i ∷ items) more = end_append (body_then b i) items more

-- the packets among the items, and the places of the calls
abbrev pub packets_among : List Item → List Packet
packets_among [] = []
packets_among (found k ∷ items) = k ∷ packets_among items
packets_among (made c ∷ items) = packets_among items

abbrev places_among : ℕ → List Item → List Place
places_among n [] = []
places_among n (found k ∷ items) = places_among (suc n) items
places_among n (made c ∷ items) = after n c ∷ places_among n items

pub found_among : (packets : List Packet) (items : List Item) → packets_among (map found packets ++ items) ≡ packets ++ packets_among items
found_among [] items = refl
found_among (k ∷ packets) items = rw (found_among packets items)

places_played : (font : List ℕ) (n : ℕ) (b : Body) (items : List Item) → call_places n (played font b items) ≡ places_among n items
places_played font n b [] = refl
places_played font n b (found k ∷ items) = places_played font (suc n) (step_body b k) items
places_played font n b (made c ∷ items) = rw (places_played font n (body_then font b (made c)) items)

later : (n m : ℕ) (c : Other) (items : List Item) (x : List Place) → n < m → places_among m items ≡ after n c ∷ x → ⊥
later n m c [] x h q = let z : ◌≡◌ {A = ℕ} 0 1 = cc in omega arith
later n m c (found k ∷ items) x h q = later n (suc m) c items x (omega arith) q
later n m c (made d ∷ items) x h q = let z : m ≡ n = cc in omega arith

-- the packets and the places of the calls among them are all there is to know
same_items : (n : ℕ) (s t : List Item) → packets_among s ≡ packets_among t → places_among n s ≡ places_among n t → s ≡ t
same_items n [] [] p q = refl
same_items n [] (found b ∷ t) p q = let z : ◌≡◌ {A = ℕ} 0 1 = cc in absurd (omega arith)
same_items n [] (made d ∷ t) p q = let z : ◌≡◌ {A = ℕ} 0 1 = cc in absurd (omega arith)
same_items n (found a ∷ s) [] p q = let z : ◌≡◌ {A = ℕ} 0 1 = cc in absurd (omega arith)
same_items n (made c ∷ s) [] p q = let z : ◌≡◌ {A = ℕ} 0 1 = cc in absurd (omega arith)
same_items n (found a ∷ s) (found b ∷ t) p q = let i = same_items (suc n) s t (cc) q in cc
same_items n (found a ∷ s) (made d ∷ t) p q = absurd (later n (suc n) d s (places_among n t) (omega arith) q)
same_items n (made c ∷ s) (found b ∷ t) p q = absurd (later n (suc n) c t (places_among n s) (omega arith) (sym q))
same_items n (made c ∷ s) (made d ∷ t) p q = let i = same_items n s t p (cc) in cc

pub same_played : (font : List ℕ) (b : Body) (s t : List Item) → packets_among s ≡ packets_among t → call_places 0 (played font b s) ≡ call_places 0 (played font b t) → s ≡ t
same_played font b s t p q = same_items 0 s t p (sym (places_played font 0 b s) ∙ q ∙ places_played font 0 b t)

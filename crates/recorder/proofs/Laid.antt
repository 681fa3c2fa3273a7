-- An entry that was laid down, read where it stands.
use mathlib.Core.Path.{◌≡◌, sym, ◌∙◌, ap}
use mathlib.Core.List.{List, [], ◌∷◌, ◌++◌, append_assoc}
use Prim.Native.Nat.{ℕ, ◌+◌, ◌-◌, ◌<◌, ◌≤◌}
use native.Mathlib.Nat.{add-zero}
use native.Mathlib.Omega.{arith}
use lib.ListN.{length, get_or, length-append}
use lib.Seq.{get_or-append-add, drop-append-add, take-append_seam}
use Rattle.std.specs.Prelude.{Ok}
use Rattle.packets.specs.declared.Packet as packets
use Rattle.recordings.specs.Recording.{low16, direction, entry_end, entries_of, first_fault}
use Rattle.recordings.specs.Next.{from_of, rest_of}
use Rattle.recordings.specs.Asking.{entry_packets}
use Rattle.recordings.proofs.Asked.{packets_from, no_packets, entry_first}
use Rattle.recordings.proofs.Entries.{no_fault, fault_behind, fault_none}
use Rattle.recordings.proofs.Parts.{host, not_host}
use Rattle.recorder.specs.Written.{Sent, by_host, by_panel, direction_of, sent_bytes, entry_of, all_entries, packets_sent, host_packets}

two_directions : (e : Sent) → direction_of e ≤ 1
unfolding direction_of
two_directions (by_host bytes) = omega arith
two_directions (by_panel bytes) = omega arith

-- the entry e of fewer than 65,536 bytes, with p before it and s behind it
module _ (p : List ℕ) (e : Sent) (s : List ℕ) (l : length (sent_bytes e) < 65536) where
  abbrev whole : List ℕ
  whole = p ++ (entry_of e ++ s)

  at_header : (i : ℕ) → get_or whole (length p + i) 0 ≡ get_or (entry_of e ++ s) i 0
  at_header i = get_or-append-add p (entry_of e ++ s) i 0

  direction_there : direction whole (length p) ≡ direction_of e
  direction_there = rw add-zero at (at_header 0)

  size_there : low16 whole (length p + 1) ≡ length (sent_bytes e)
  size_there =
      let n = length (sent_bytes e) in
      let z : length p + 1 + 1 ≡ length p + 2 = omega arith in
      rw (z, at_header 1, at_header 2) (omega arith)

  end_there : entry_end whole (length p) ≡ length (p ++ entry_of e)
  unfolding entry_end
  end_there = rw size_there (omega (arith, length-append p (entry_of e)))

  inside : length p < length whole
  inside = omega (arith, length-append p (entry_of e ++ s))

  ends_inside : entry_end whole (length p) ≤ length whole
  ends_inside = omega (arith, end_there, length-append p (entry_of e), length-append p (entry_of e ++ s), length-append (entry_of e) s)

  rest_there : rest_of whole 0 (length p) ≡ sent_bytes e
  rest_there =
      let f : from_of 0 (length p) ≡ length p + 3 = omega arith in
      let n : entry_end whole (length p) - (length p + 3) ≡ length (sent_bytes e) = omega (arith, end_there, length-append p (entry_of e)) in
      rw (f, n, drop-append-add p (entry_of e ++ s) 3) (take-append_seam (sent_bytes e) s)

  no_fault_there : first_fault whole (entries_of whole (length p)) ≡ first_fault whole (entries_of whole (length (p ++ entry_of e)))
  no_fault_there =
      rw (sym end_there) (fault_behind whole (length p) inside (no_fault whole (length p) (omega (arith, direction_there, two_directions e)) ends_inside))

  packets_there : packets_from whole 0 (length p) ≡ entry_packets whole 0 (length p) ++ packets_from whole 0 (length (p ++ entry_of e))
  packets_there = rw (sym end_there) (entry_first whole (length p) 0 inside)

-- the packets of one entry
packets_in_lem : (p : List ℕ) (e : Sent) (s : List ℕ) → length (sent_bytes e) < 65536 → entry_packets (p ++ (entry_of e ++ s)) 0 (length p) ≡ packets_sent e
unfolding direction_of sent_bytes packets_sent
packets_in_lem p (by_host bytes) s l =
    host (p ++ (entry_of (by_host bytes) ++ s)) 0 (length p) (direction_there p (by_host bytes) s l) ∙ rw (rest_there p (by_host bytes) s l)
packets_in_lem p (by_panel bytes) s l =
    not_host (p ++ (entry_of (by_panel bytes) ++ s)) 0 (length p) (λ z. omega (arith, direction_there p (by_panel bytes) s l))

-- one of several entries has fewer bytes than all
one_of : (p : List ℕ) (e : Sent) (s : List ℕ) → length (p ++ (entry_of e ++ s)) ≤ 65535 → length (sent_bytes e) < 65536
one_of p e s h = omega (arith, length-append p (entry_of e ++ s), length-append (entry_of e) s)

-- entries that are laid down behind p have no fault
pub fine_behind : (p : List ℕ) (entries : List Sent) → length (p ++ all_entries entries) ≤ 65535
    → first_fault (p ++ all_entries entries) (entries_of (p ++ all_entries entries) (length p)) ≡ Ok tt
unfolding all_entries
fine_behind p [] h = fault_none (p ++ []) (length p) (omega (arith, length-append p []))
fine_behind p (e ∷ more) h =
    let s = all_entries more in
    no_fault_there p e s (one_of p e s h)
    ∙ rw (sym (append_assoc p (entry_of e) s)) (fine_behind (p ++ entry_of e) more (rw append_assoc h))

-- and their packets are those of the host entries
pub read_behind : (p : List ℕ) (entries : List Sent) → length (p ++ all_entries entries) ≤ 65535
    → packets_from (p ++ all_entries entries) 0 (length p) ≡ host_packets entries
unfolding all_entries host_packets
read_behind p [] h = no_packets (p ++ []) (length p) 0 (omega (arith, length-append p []))
read_behind p (e ∷ more) h =
    let s = all_entries more in
    let l = one_of p e s h in
    packets_there p e s l
    ∙ rw (packets_in_lem p e s l, sym (append_assoc p (entry_of e) s)) (ap (λ (t : List packets.Packet). packets_sent e ++ t) (read_behind (p ++ entry_of e) more (rw append_assoc h)))

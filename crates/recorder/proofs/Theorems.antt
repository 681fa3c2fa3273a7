-- What holds of recordings that are written over and above the functions' own promises.
use mathlib.Core.Path.{◌≡◌, refl, ◌∙◌}
use mathlib.Core.List.{List, ◌++◌, append_assoc}
use Prim.Native.Nat.{ℕ, ◌≤◌}
use native.Mathlib.Omega.{arith}
use borrow.Author.Tests.{le-leb}
use lib.ListN.{length, length-append}
use Rattle.std.specs.Prelude.{Ok}
use Rattle.lists.specs.Promise.{Determined}
use Rattle.lists.proofs.Theorems.{one}
use Rattle.framing.specs.Line.{line}
use Rattle.recordings.specs.Recording.{marked, versioned, recording_fault}
use Rattle.recordings.specs.Asking.{AskedReader}
use Rattle.recordings.proofs.Asked.{asks_from}
use Rattle.recordings.proofs.Faults.{by_entries}
use Rattle.recorder.specs.Written.{recording_start, Sent, all_entries, recording_of, packets_sent, host_packets, host_bytes, Closed, none, host, panel, StartsRecording, HeadsEntry, RoomBehind}
use Rattle.recorder.proofs.Closing.{apart}
use Rattle.recorder.proofs.Laid.{fine_behind, read_behind}

module _ (entries : List Sent) (fits : length (recording_of entries) ≤ 65535) where
  -- Entries of either side, as many as fit, are a recording that is fine.
  pub written_is_fine : recording_fault (recording_of entries) ≡ Ok tt
  unfolding marked versioned
  written_is_fine =
      let v = le-leb 5 (length (recording_of entries)) (omega (arith, length-append recording_start (all_entries entries))) in
      (by_entries (recording_of entries) fits refl (rw v)).0 ∙ fine_behind recording_start entries fits

  -- Asking the reader for its packets until there is no more finds those of the host entries, in order.
  pub written_is_read : AskedReader (recording_of entries) 0 (host_packets entries)
  written_is_read = rw (read_behind recording_start entries fits) at (asks_from (recording_of entries) written_is_fine 0)

-- Entries that end where nothing is held cut no packet: the packets of the whole line are theirs, and then those of what the host sends
-- behind them.
pub no_packet_is_cut : {entries : List Sent} (behind : List ℕ) → Closed entries → (line (host_bytes entries ++ behind)).packets ≡ host_packets entries ++ (line behind).packets
unfolding host_bytes host_packets packets_sent
no_packet_is_cut behind none = refl
no_packet_is_cut behind (host {bytes} {more} h c) =
    rw (append_assoc bytes (host_bytes more) behind) (apart 0 bytes (host_bytes more ++ behind) (omega arith) h ∙ rw (no_packet_is_cut behind c, append_assoc))
no_packet_is_cut behind (panel c) = no_packet_is_cut behind c

-- Any two results that a promise allows are equal.
pub start_determined : Determined StartsRecording
start_determined = one _

pub header_determined : (direction n : ℕ) → Determined (HeadsEntry direction n)
header_determined direction n = one _

pub room_determined : (size : ℕ) → Determined (RoomBehind size)
room_determined size = one _

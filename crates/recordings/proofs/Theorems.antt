-- What holds of recordings over and above the functions' own promises.
use mathlib.Core.Path.{◌≡◌, sym, ◌∙◌}
use mathlib.Core.List.{List, [], ◌∷◌}
use Prim.Native.Nat.{ℕ, ◌<◌}
use lib.ListN.{length}
use Rattle.std.specs.Prelude.{Ok}
use Rattle.recordings.specs.declared.Flaw.{Flaw}
use Rattle.std.specs.Borrow.{Bor}
use Rattle.lists.specs.Promise.{Determined}
use Rattle.lists.proofs.Theorems.{one}
use Rattle.packets.specs.declared.Packet as packets
use Rattle.packets.specs.Hold.{hold_of}
use Rattle.framing.specs.Line.{Tally, Calls}
use Rattle.recordings.specs.Recording.{direction, entries_of, recording_fault, NumbersFlaw, ChecksRecording, Passes, WalksEntries}
use Rattle.recordings.specs.Next.{FindsIn, Finds}
use Rattle.recordings.specs.Asking.{AskedReader, AskedEntry, entry_bytes, entry_packets, CalledOn, AllOrNone}
use Rattle.recordings.proofs.Asked as asked
use Rattle.recordings.proofs.Called as calls
use Rattle.recordings.proofs.Entries as entries
use Rattle.recordings.proofs.Looks as looks

-- "within an entry its packets equal those that line calls find from an empty hold", however the bytes are cut into calls: asking the
-- reader until there is no more finds those of each host entry in turn,
pub as_line_calls : (r : List ℕ) (found called : List packets.Packet) → recording_fault r ≡ Ok tt → AskedReader r 0 found → CalledOn r (entries_of r 5) called → found ≡ called
as_line_calls r found called z a c = asked.asked_alike a (asked.asks_from r z 0) ∙ calls.called_on c

-- and asking in one host entry finds those of its bytes.
pub entry_as_line_calls : (r : List ℕ) (at most : ℕ) (found : List packets.Packet) (t : Tally) → direction r at ≡ 0 → AskedEntry r at 0 found → Calls most (hold_of []) (entry_bytes r at) t
    → found ≡ t.packets
entry_as_line_calls r at most found t d a c = asked.asked_alike a (asked.entry_from r at 0) ∙ calls.in_entry r at d c

-- All packets of all host entries, or none at all.
pub all_or_none : (r : List ℕ) → AllOrNone r
all_or_none r =
    record {
      none = λ flaw e place. looks.refuses r place flaw e;
      all = λ z. asked.asks_from r z 0;
      only = λ z found a. asked.asked_alike a (asked.asks_from r z 0);
    }

-- Asking entry by entry, each from its start, finds what asking the reader finds: the packets of all host entries are those of each in turn,
pub entry_by_entry : (r : List ℕ) (at : ℕ) (found : List packets.Packet) → AskedEntry r at 0 found → found ≡ entry_packets r 0 at
entry_by_entry r at found a = asked.asked_alike a (asked.entry_from r at 0)

-- and the place behind an entry, no further than the recording, is where the entries go on.
pub entries_in_turn : (r : List ℕ) (at next : ℕ) → at < length r → Passes r at next → entries_of r at ≡ at ∷ entries_of r next
entries_in_turn r at next h p = entries.in_turn r at next h p

-- Any two results that a promise allows are equal.
pub flaw_number_determined : (flaw : Flaw) → Determined (NumbersFlaw flaw)
flaw_number_determined flaw = one _

pub entries_determined : (recording : Bor (List ℕ)) → Determined (WalksEntries recording)
entries_determined recording x y p q = λ i. record { recording = (p.0 ∙ sym q.0) i; at = (p.1 ∙ sym q.1) i }

pub check_determined : (r : List ℕ) → Determined (ChecksRecording r)
check_determined r = one _

pub behind_determined : (r : List ℕ) (at : ℕ) → Determined (Passes r at)
behind_determined r at = one _

pub in_entry_determined : (r : List ℕ) (at place : ℕ) → Determined (FindsIn r at place)
in_entry_determined r at place = one _

pub find_determined : (r : List ℕ) (place : ℕ) → Determined (Finds r place)
find_determined r place = one _

-- What a panel makes of a packet that a host composed: "Composing then framing gives the same command".
use Rattle.std.specs.Prelude.{ℕ, ◌+◌, ◌≡◌, true, List, [], length, Ok}
use Rattle.packets.specs.Packet.{reply_size}
use Rattle.packets.specs.Hold.{held, hold_of}
use Rattle.framing.specs.declared.Scanned.{Scanned}
use Rattle.framing.specs.Scan.{Outcome, packet, scanned_of, Scans}
use Rattle.filing.specs.declared.Record.{Record}
use Rattle.filing.specs.Filing.{register_records}
use Rattle.picture.specs.Draw.{cell_count, picture_size, font_size}
use Rattle.verdict.specs.Verdict.{verdict_of}
use Rattle.panel.specs.declared.Panel.{Panel}
use Rattle.ranges.specs.Ranges.{in_ranges}
use Rattle.answers.specs.declared.Answer.TheVariants.{Done}
use Rattle.answers.specs.declared.Said.{Said}
use Rattle.linecall.specs.Line.{Lent, LineCall}

-- what a scan comes to that finds the packet, with nothing dropped and nothing held behind it
abbrev pub alone : ℕ → List ℕ → Outcome
alone kind content = record { ending = packet kind content; hold = []; taken = length content + 4; dropped = 0; checked = length content + 2 }

-- what a line call has to be lent: "Line calls check 10 to 16"
pub record RightSizes (l : Lent) : Type 0 where
  pub picture : length l.picture ≡ picture_size
  pub font : length l.font ≡ font_size
  pub list : length l.list ≡ cell_count
  pub reply : length l.reply ≡ reply_size
  pub records : l.records ≡ register_records

-- These bytes are heard as the packet of a code and data: a scan with nothing held finds them as that one packet, with nothing
-- dropped and nothing held behind; the panel's verdict allows it; and a line call on them, from any panel in its ranges that holds
-- nothing, answers done.
pub record IsHeard (code : ℕ) (d bytes : List ℕ) : Type 0 where
  pub found : (s : Scanned) → Scans (hold_of []) bytes s → s ≡ scanned_of (alone code d)
  pub allowed : verdict_of code d ≡ Ok tt
  pub done : (p : Panel) (l : Lent) → in_ranges p ≡ true → held p.line.hold ≡ [] → RightSizes l → l.piece ≡ bytes
      → (register : List Record) (r : Said) (picture' list' reply' : List ℕ) (register' : List Record) → LineCall p l register r picture' list' reply' register'
      → r.answer ≡ Done code

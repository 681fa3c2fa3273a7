-- What some panel in its ranges writes, and what it means by it: "every reply the panel can write reads back to what the panel meant".
use Rattle.std.specs.Prelude.{ℕ, ◌≡◌, Bool, true, List, [], length}
use Rattle.shapes.specs.Shape.{Bytes}
use Rattle.packets.specs.Packet.{content_of}
use Rattle.filing.specs.declared.Record.{Record}
use Rattle.panel.specs.declared.Body.{Body}
use Rattle.panel.specs.declared.Panel.{Panel}
use Rattle.ranges.specs.Ranges.{in_ranges}
use Rattle.statebytes.specs.State.{bytes_of, PanelFits}
use Rattle.verdict.specs.declared.Reason.{Reason}
use Rattle.replies.specs.Replies.{reply_data}
use Rattle.events.specs.Keys.{Presses}
use Rattle.answers.specs.declared.Answer.TheVariants.{Done, Refused}
use Rattle.answers.specs.declared.Said.{Said}
use Rattle.linecall.specs.Line.{Lent, line_heard, LineCall}
use Rattle.theorems.specs.Story.{replied}
use Rattle.reading.specs.declared.Meaning.TheVariants.{Reply, ErrorReply, Report}
use Rattle.reading.specs.declared.Reading.{Reading}
use Rattle.reading.specs.Reading.{reading_with}

-- a panel in its ranges that can be: its arrays are as long as their types make them, and its bytes are bytes
pub record Possible (p : Panel) : Type 0 where
  pub ranges : in_ranges p ≡ true
  pub fits : PanelFits p
  pub small : Bytes (bytes_of p)

-- the data of the packet that a line call found
abbrev pub data_heard : Panel → Lent → List ℕ
data_heard p l = content_of (line_heard p l).packet

-- what a panel means by its reply to a command with these data, by an error reply, and by a report
abbrev pub reply_meant : ℕ → List ℕ → Body → Reading
reply_meant command d b = reading_with (Reply command) (reply_data command d b)

abbrev pub error_meant : ℕ → Reading
error_meant command = reading_with (ErrorReply command) []

abbrev pub report_meant : ℕ → Bool → Reading
report_meant number down = reading_with (Report number down) []

-- a line call on a panel in its ranges: its piece is bytes, and it is told how many records its register has
pub record CallsLine (p : Panel) (l : Lent) (register : List Record) (r : Said) (picture' list' reply' : List ℕ) (register' : List Record) : Type 0 where
  pub possible : Possible p
  pub piece : Bytes l.piece
  pub records : l.records ≡ length register
  pub called : LineCall p l register r picture' list' reply' register'

-- a key call on a panel in its ranges
pub record CallsKey (p : Panel) (number : ℕ) (down : Bool) (reply : List ℕ) (r : Said) (reply' : List ℕ) : Type 0 where
  pub possible : Possible p
  pub called : Presses p number down reply r reply'

-- some panel in its ranges writes these bytes and means m: the reply of a line call that is done, the error reply of one that
-- refuses a packet, the report of a key call that is accepted and writes one
pub data Writes (m : Reading) (bytes : List ℕ) : Type 0 where
  in_reply : (p : Panel) (l : Lent) (register : List Record) (r : Said) (picture' list' reply' : List ℕ) (register' : List Record)
      → CallsLine p l register r picture' list' reply' register'
      → (command : ℕ) → r.answer ≡ Done command
      → reply_meant command (data_heard p l) p.body ≡ m
      → replied r reply' ≡ bytes
      → Writes m bytes
  in_refusal : (p : Panel) (l : Lent) (register : List Record) (r : Said) (picture' list' reply' : List ℕ) (register' : List Record)
      → CallsLine p l register r picture' list' reply' register'
      → (command : ℕ) (reason : Reason) (place : ℕ) → r.answer ≡ Refused command reason place
      → error_meant command ≡ m
      → replied r reply' ≡ bytes
      → Writes m bytes
  in_report : (p : Panel) (number : ℕ) (down : Bool) (reply : List ℕ) (r : Said) (reply' : List ℕ)
      → CallsKey p number down reply r reply'
      → r.answer ≡ Done 0
      → (r.reply ≡ 0 → ⊥)
      → report_meant number down ≡ m
      → replied r reply' ≡ bytes
      → Writes m bytes

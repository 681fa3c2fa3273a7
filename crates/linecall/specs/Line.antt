-- What a line call is: the line's part is heard, a done command is performed, and a refusal is filed.
use Rattle.std.specs.Prelude.{ℕ, ◌≡◌, Bool, List, length}
use Rattle.lists.specs.Tests.{when◌then◌else◌}
use Rattle.lists.specs.Runs.{front}
use Rattle.panel.specs.declared.Body.{Body}
use Rattle.panel.specs.declared.Panel.{Panel}
use Rattle.ranges.specs.Ranges.{in_ranges}
use Rattle.perform.specs.Commands.{carried}
use Rattle.picture.specs.Repaint.{changed, painted}
use Rattle.filing.specs.declared.Record.{Record}
use Rattle.filing.specs.Filing.{Files, filed_if}
use Rattle.answers.specs.declared.Said.{Said}
use Rattle.answers.specs.Answer.{is_done, filing_of, with_unfiled}
use Rattle.listen.specs.declared.Sizes.{Sizes}
use Rattle.listen.specs.declared.Heard.{Heard}
use Rattle.listen.specs.Listen.{listened, listened_reply}
use Rattle.perform.specs.declared.Performed.{Performed}
use Rattle.perform.specs.Perform.{shown_by, reply_length, reply_written}

-- what is lent to a line call
pub record Lent : Type 0 where
  pub piece : List ℕ
  pub picture : List ℕ
  pub font : List ℕ
  pub list : List ℕ
  pub reply : List ℕ
  pub records : ℕ

abbrev pub lent : List ℕ → List ℕ → List ℕ → List ℕ → List ℕ → ℕ → Lent
lent piece picture font list reply records =
    record { piece = piece; picture = picture; font = font; list = list; reply = reply; records = records }

abbrev pub sizes_of : Lent → Sizes
sizes_of l = record { picture = length l.picture; font = length l.font; list = length l.list; records = l.records }

-- the line's part: the answer among it
abbrev pub line_heard : Panel → Lent → Heard
line_heard p l = listened (in_ranges p) p.line l.piece (sizes_of l) l.reply

abbrev pub line_done : Panel → Lent → Bool
line_done p l = is_done (line_heard p l).answer

-- the body's part: a done command is carried out, and else the body stays
abbrev pub body_after : Panel → Lent → Body
body_after p l = when line_done p l then (carried p.body (line_heard p l).packet).body else p.body

-- the cells whose drawing the call alters
abbrev pub altered : Panel → Lent → List ℕ
altered p l = changed (shown_by p.body) (shown_by (body_after p l)) l.font

abbrev pub performed_by : Panel → Lent → Performed
performed_by p l =
    record {
      body = body_after p l;
      reply = when line_done p l then reply_length (carried p.body (line_heard p l).packet).reply l.reply else (line_heard p l).reply;
      listed = length (altered p l);
    }

abbrev pub said_with : Heard → Performed → Said
said_with h d = record { panel = record { line = h.line; body = d.body }; answer = h.answer; counts = h.counts; reply = d.reply; listed = d.listed }

-- the call, but for the filing
abbrev pub line_said : Panel → Lent → Said
line_said p l = said_with (line_heard p l) (performed_by p l)

-- "all eight bytes of each listed cell are written, and no other byte"
abbrev pub line_picture : Panel → Lent → List ℕ
line_picture p l = painted (shown_by p.body) (shown_by (body_after p l)) l.font l.picture

-- "A reply fills the front of its buffer and a list the front of its own; bytes behind keep their values."
abbrev pub line_list : Panel → Lent → List ℕ
line_list p l = front (altered p l) l.list

abbrev pub line_reply : Panel → Lent → List ℕ
line_reply p l =
    when line_done p l then reply_written (carried p.body (line_heard p l).packet).reply l.reply
    else listened_reply (in_ranges p) p.line l.piece (sizes_of l) l.reply

-- the register and the unfiled number after a call: the refusal that it answers with is filed, and a call refused by number files nothing
abbrev pub files_after : Said → List Record → Files
files_after s register =
    filed_if (filing_of s.answer) (record { register = register; unfiled = s.panel.line.unfiled })

-- what a line call says and leaves of the three lent buffers, but for the filing
abbrev pub LineSays : Panel → Lent → Said → List ℕ → List ℕ → List ℕ → Type 0
LineSays p l r picture' list' reply' = (r ≡ line_said p l) × (picture' ≡ line_picture p l) × (list' ≡ line_list p l) × (reply' ≡ line_reply p l)

-- what the line call by value promises of its result, of the three lent buffers and of the register
abbrev pub LineCall : Panel → Lent → List Record → Said → List ℕ → List ℕ → List ℕ → List Record → Type 0
LineCall p l register r picture' list' reply' register' =
    (r ≡ with_unfiled (line_said p l) (files_after (line_said p l) register).unfiled)
    × (picture' ≡ line_picture p l)
    × (list' ≡ line_list p l)
    × (reply' ≡ line_reply p l)
    × (register' ≡ (files_after (line_said p l) register).register)

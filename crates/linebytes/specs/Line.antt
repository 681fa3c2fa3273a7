-- What the line call over lent bytes promises of the number that it returns and of each byte lent to it.
use Rattle.std.specs.Prelude.{ℕ, ◌≡◌, is_some, List}
use Rattle.lists.specs.Tests.{when◌then◌else◌, ◌<?◌, ◌=?◌}
use Rattle.panel.specs.declared.Panel.{Panel}
use Rattle.panel.specs.State.{line_unfiled}
use Rattle.filing.specs.Filing.{register_records, Files, filed_if}
use Rattle.answers.specs.declared.Answer.{Answer}
use Rattle.answers.specs.declared.Said.{Said}
use Rattle.answers.specs.Answer.{numbers_of, filing_of, with_unfiled}
use Rattle.listen.specs.declared.Heard.{Heard}
use Rattle.perform.specs.Commands.{carried}
use Rattle.perform.specs.Perform.{shown_by, reply_length, reply_written}
use Rattle.picture.specs.Repaint.{RepaintsSized}
use Rattle.linecall.specs.Line.{Lent, line_said, line_picture, line_list, line_reply}
use Rattle.statebytes.specs.State.{bytes_of, on_state, state_with, line_with, body_read_of}
use Rattle.registerbytes.specs.Register.{register_size, register_of, register_with}
use Rattle.saidbytes.specs.Says.{said_bytes, number_of, bytes_said, no_state}

-- so many bytes are a register's 64 records; others are none
unfoldable pub records_in : ℕ → ℕ
records_in size = when size =? register_size then register_records else 0

-- the register and the unfiled number after an answer: "A refused packet is filed in the register."
abbrev pub files_by : Answer → ℕ → List ℕ → Files
files_by answer unfiled faults = filed_if (filing_of answer) (record { register = register_of faults; unfiled = unfiled })

unfoldable pub faults_after : Answer → ℕ → List ℕ → List ℕ
faults_after answer unfiled faults =
    when is_some (filing_of answer) then register_with faults (files_by answer unfiled faults).register else faults

-- "a bad argument is refused by its number, and then the state and every buffer are as they came"
unfoldable pub state_after : List ℕ → Said → List ℕ
state_after state s = when number_of s <? 10 then bytes_of s.panel else state

-- what a line call says once its refusal is filed
abbrev pub line_filed : Panel → Lent → List ℕ → Said
line_filed p l faults = with_unfiled (line_said p l) (files_by (line_said p l).answer (line_said p l).panel.line.unfiled faults).unfiled

-- what `line` promises
pub record LineBytes (s : List ℕ) (l : Lent) (f : List ℕ) (n : ℕ) (s' p' l' r' f' said' : List ℕ) : Type 0 where
  pub number : n ≡ on_state s 10 (λ p. number_of (line_said p l))
  pub state : s' ≡ on_state s s (λ p. state_after s (line_filed p l f))
  pub picture : p' ≡ on_state s l.picture (λ p. line_picture p l)
  pub list : l' ≡ on_state s l.list (λ p. line_list p l)
  pub reply : r' ≡ on_state s l.reply (λ p. line_reply p l)
  pub faults : f' ≡ on_state s f (λ p. faults_after (line_said p l).answer (line_said p l).panel.line.unfiled f)
  pub said : said' ≡ on_state s no_state (λ p. bytes_said (line_said p l))

-- what `file` promises
abbrev pub FilesBytes : Answer → ℕ → List ℕ → ℕ → List ℕ → Type 0
FilesBytes answer unfiled faults r faults' = (r ≡ (files_by answer unfiled faults).unfiled) × (faults' ≡ faults_after answer unfiled faults)

-- what `turned_down` promises: a call that performs nothing changes the line's part alone
pub record TurnsDown (s : List ℕ) (h : Heard) (f : List ℕ) (n : ℕ) (s' f' said' : List ℕ) : Type 0 where
  pub number : n ≡ (numbers_of h.answer).number
  pub state : s' ≡ line_with s (line_unfiled h.line (files_by h.answer h.line.unfiled f).unfiled)
  pub faults : f' ≡ faults_after h.answer h.line.unfiled f
  pub said : said' ≡ said_bytes (numbers_of h.answer) h.counts h.reply 0

-- what `carried_out` promises
pub record CarriesOut (s : List ℕ) (h : Heard) (p font l r : List ℕ) (n : ℕ) (s' p' l' r' said' : List ℕ) : Type 0 where
  pub number : n ≡ (numbers_of h.answer).number
  pub state : s' ≡ state_with s (record { line = h.line; body = (carried (body_read_of s) h.packet).body })
  pub reply : r' ≡ reply_written (carried (body_read_of s) h.packet).reply r
  pub listed : ℕ
  pub repaints : RepaintsSized (shown_by (body_read_of s)) (shown_by (carried (body_read_of s) h.packet).body) font p l listed p' l'
  pub said : said' ≡ said_bytes (numbers_of h.answer) h.counts (reply_length (carried (body_read_of s) h.packet).reply r) listed

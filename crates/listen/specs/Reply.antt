-- What a packet is answered: "a packet whose type is not a command" is a stray; a command is done or refused.
use Rattle.std.specs.Prelude.{ℕ, ◌+◌, ◌%◌, ◌≡◌, Result, Ok, Err, List, []}
use Rattle.lists.specs.Tests.{when◌then◌else◌, ◌<?◌, ◌=?◌}
use Rattle.packets.specs.declared.Packet.{Packet}
use Rattle.packets.specs.Packet.{content_of, composed_length, composed}
use Rattle.verdict.specs.declared.Objection.{Objection}
use Rattle.verdict.specs.Verdict.{verdict_of}
use Rattle.answers.specs.declared.Answer.{Answer}
use Rattle.answers.specs.declared.Answer.TheVariants.{Stray, Done, Refused}
use Rattle.answers.specs.Answer.{numbers_of}

-- what a command is answered, by its verdict
unfoldable pub ruling : Result (Unit {0}) Objection → ℕ → Answer
ruling (Ok _) code = Done code
ruling (Err o) code = Refused code o.reason o.place

-- what a packet is answered, from the packet alone: "The top two type bits: 00 command"; the low six are the command
unfoldable pub answer_to : Packet → Answer
answer_to p = when p.kind <? 64 then ruling (verdict_of p.kind (content_of p)) p.kind else Stray (p.kind % 64)

-- "An error reply has type 192 + code and length 0."; a code has six bits
abbrev pub error_type : Answer → ℕ
error_type a = 192 + (numbers_of a).command % 64

-- the error reply's length and the buffer after answer 4, a refused packet; to other answers nothing is replied
unfoldable pub refused_length : Answer → List ℕ → ℕ
refused_length a out = when (numbers_of a).number =? 4 then composed_length out [] else 0

unfoldable pub refused_reply : Answer → List ℕ → List ℕ
refused_reply a out = when (numbers_of a).number =? 4 then composed out (error_type a) [] else out

-- what `answer_to` promises
abbrev pub AnswersTo : Packet → Answer → Type 0
AnswersTo p r = r ≡ answer_to p

-- what `refuse` promises of the length that it returns and of the buffer
abbrev pub RepliesRefused : Answer → List ℕ → ℕ → List ℕ → Type 0
RepliesRefused a out r out' = (r ≡ refused_length a out) × (out' ≡ refused_reply a out)

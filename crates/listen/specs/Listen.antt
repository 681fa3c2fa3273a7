-- The line's part of a call.
use Rattle.std.specs.Prelude.{ℕ, ◌≡◌, Bool, Option, Some, None, unwrap_or, Result, List, [], ◌∷◌, length, take}
use Rattle.lists.specs.Tests.{◌≤?◌, ◌=?◌}
use Rattle.packets.specs.declared.Packet.{Packet}
use Rattle.packets.specs.Packet.{reply_size, packet_of}
use Rattle.packets.specs.Hold.{held}
use Rattle.framing.specs.declared.Scanned.{Scanned}
use Rattle.framing.specs.Scan.{scan, scanned_of, piece_most}
use Rattle.filing.specs.Filing.{register_records}
use Rattle.picture.specs.Draw.{cell_count, picture_size, font_size}
use Rattle.panel.specs.declared.Line.{Line}
use Rattle.panel.specs.State.{line_holding}
use Rattle.answers.specs.declared.Check.{Check}
use Rattle.answers.specs.declared.Check.TheVariants.{StateRange, PieceSize, PictureSize, FontSize, ListSize, ReplySize, RegisterSize}
use Rattle.answers.specs.declared.Answer.{Answer}
use Rattle.answers.specs.declared.Answer.TheVariants.{Waiting, CallRefused}
use Rattle.answers.specs.Answer.{no_counts}
use Rattle.answers.specs.Checks.{Test, test, decided, checked_by}
use Rattle.listen.specs.Reply.{answer_to, refused_length, refused_reply}
use Rattle.listen.specs.declared.Sizes.{Sizes}
use Rattle.listen.specs.declared.Heard.{Heard}

-- "piece above 4,096 bytes"
abbrev pub piece_size : ℕ
piece_size = 4096

-- "Line calls check 10 to 16": whether the state is in its ranges, and the sizes of what is lent
abbrev pub line_tests : Bool → ℕ → Sizes → ℕ → List Test
line_tests in_range piece sizes reply =
    test in_range StateRange
    ∷ test (piece ≤? piece_size) PieceSize
    ∷ test (sizes.picture =? picture_size) PictureSize
    ∷ test (sizes.font =? font_size) FontSize
    ∷ test (sizes.list =? cell_count) ListSize
    ∷ test (reply =? reply_size) ReplySize
    ∷ test (sizes.records =? register_records) RegisterSize
    ∷ []

-- a call that is refused by number: "state unchanged, all counts 0"
abbrev pub unheard : Line → Check → Heard
unheard line check = record { line = line; answer = CallRefused check; packet = packet_of 0 []; counts = no_counts; reply = 0 }

-- 1: "waiting, piece used up"; else by the packet found
unfoldable pub answer_in : Option Packet → Answer
answer_in None = Waiting
answer_in (Some p) = answer_to p

-- what a scan found, heard: "held bytes only", and an error reply where the packet is refused
abbrev pub heard_of : Line → Scanned → List ℕ → Heard
heard_of line s reply =
    record {
      line = line_holding line s.hold;
      answer = answer_in s.packet;
      packet = unwrap_or s.packet (packet_of 0 []);
      counts = s.counts;
      reply = refused_length (answer_in s.packet) reply;
    }

abbrev pub heard_reply : Scanned → List ℕ → List ℕ
heard_reply s reply = refused_reply (answer_in s.packet) reply

-- the piece, scanned with the bytes that the line holds
abbrev pub scanned_by : Line → List ℕ → Scanned
scanned_by line piece = scanned_of (scan (held line.hold) (take piece_most piece))

unfoldable pub listened : Bool → Line → List ℕ → Sizes → List ℕ → Heard
listened in_range line piece sizes reply =
    decided (line_tests in_range (length piece) sizes (length reply)) (unheard line) (heard_of line (scanned_by line piece) reply)

unfoldable pub listened_reply : Bool → Line → List ℕ → Sizes → List ℕ → List ℕ
listened_reply in_range line piece sizes reply =
    decided (line_tests in_range (length piece) sizes (length reply)) (λ check. reply) (heard_reply (scanned_by line piece) reply)

-- what `checked` promises
abbrev pub ChecksLine : Bool → ℕ → Sizes → ℕ → Result (Unit {0}) Check → Type 0
ChecksLine in_range piece sizes reply r = r ≡ checked_by (line_tests in_range piece sizes reply)

-- what `hear` promises of its result and of the reply buffer
abbrev pub HearsPiece : Line → List ℕ → List ℕ → Heard → List ℕ → Type 0
HearsPiece line piece reply r reply' = (r ≡ heard_of line (scanned_by line piece) reply) × (reply' ≡ heard_reply (scanned_by line piece) reply)

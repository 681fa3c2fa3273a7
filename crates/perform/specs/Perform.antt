-- The body's part of a call: a command carried out, its reply and the repaint.
use Rattle.std.specs.Prelude.{ℕ, ◌≡◌, List}
use Rattle.packets.specs.declared.Packet.{Packet}
use Rattle.packets.specs.Packet.{content_of, composed_length, composed}
use Rattle.panel.specs.declared.Body.{Body}
use Rattle.perform.specs.Commands.{carried}
use Rattle.picture.specs.Draw.{Screen, screen_of}
use Rattle.picture.specs.Repaint.{RepaintsSized}
use Rattle.perform.specs.declared.Performed.{Performed}

-- what a body shows: "Cursor, contrast and backlight draw nothing."
abbrev pub shown_by : Body → Screen
shown_by b = screen_of b.live.shown

-- a packet as a reply: its length, and the buffer with it at the front
abbrev pub reply_length : Packet → List ℕ → ℕ
reply_length packet out = composed_length out (content_of packet)

abbrev pub reply_written : Packet → List ℕ → List ℕ
reply_written packet out = composed out packet.kind (content_of packet)

-- what `reply_with` promises of the length that it returns and of the buffer
abbrev pub Replies : Packet → List ℕ → ℕ → List ℕ → Type 0
Replies packet out r out' = (r ≡ reply_length packet out) × (out' ≡ reply_written packet out)

-- what `perform` promises of its result and of the three lent buffers
pub record Performs (b : Body) (p : Packet) (picture font list out : List ℕ) (r : Performed) (picture' list' out' : List ℕ) : Type 0 where
  pub body : r.body ≡ (carried b p).body
  pub written : r.reply ≡ reply_length (carried b p).reply out
  pub replied : out' ≡ reply_written (carried b p).reply out
  pub repaints : RepaintsSized (shown_by b) (shown_by (carried b p).body) font picture list r.listed picture' list'

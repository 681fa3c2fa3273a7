-- A packet's command carried out: what it does to the body, and what it replies.
use Rattle.std.specs.Prelude.{◌+◌, ◌%◌}
use Rattle.packets.specs.declared.Packet.{Packet}
use Rattle.packets.specs.Packet.{packet_of, content_of}
use Rattle.panel.specs.declared.Body.{Body}
use Rattle.effects.specs.Effects.{effect}
use Rattle.replies.specs.Replies.{reply_data}

-- the body after a command, and its reply
pub record Carried : Type 0 where
  pub body : Body
  pub reply : Packet

-- the command that a packet's low six type bits name, carried out: "A reply has type 64 + code and no data unless named."
unfoldable pub carried : Body → Packet → Carried
carried b p =
    record {
      body = effect (p.kind % 64) (content_of p) b;
      reply = packet_of (64 + p.kind % 64) (reply_data (p.kind % 64) (content_of p) b);
    }

-- What holds of a command's reply over and above the function's own promise.
use mathlib.Core.Path.{◌≡◌, refl}
use lib.ListN.{length}
use Rattle.lists.specs.Promise.{Determined}
use Rattle.lists.proofs.Theorems.{one}
use Rattle.packets.specs.declared.Packet.{Packet}
use Rattle.panel.specs.declared.Body.{Body}
use Rattle.replies.specs.Replies.{version, RepliesTo}

-- The version that command 1 replies has 16 bytes.
pub version_length : length version ≡ 16
version_length = refl

-- Any two results that the promise allows are equal.
pub reply_to_determined : (b : Body) (p : Packet) → Determined (RepliesTo b p)
reply_to_determined b p = one _

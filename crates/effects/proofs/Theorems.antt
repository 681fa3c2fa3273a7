-- What holds of a command's effect over and above the function's own promise.
use Rattle.lists.specs.Promise.{Determined}
use Rattle.lists.proofs.Theorems.{one}
use Rattle.packets.specs.declared.Packet.{Packet}
use Rattle.panel.specs.declared.Body.{Body}
use Rattle.effects.specs.Effects.{Affects}

-- Any two results that the promise allows are equal.
pub effect_of_determined : (b : Body) (p : Packet) → Determined (Affects b p)
effect_of_determined b p = one _

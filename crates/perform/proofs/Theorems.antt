-- What holds of `perform` over and above its own promise.
use Prim.Native.Nat.{ℕ}
use mathlib.Core.Path.{sym, ◌∙◌}
use mathlib.Core.List.{List}
use Rattle.lists.specs.Promise.{Determined}
use Rattle.packets.specs.declared.Packet.{Packet}
use Rattle.panel.specs.declared.Body.{Body}
use Rattle.perform.specs.Commands.{carried}
use Rattle.picture.proofs.Theorems.{repaint_determined}
use Rattle.perform.specs.declared.Performed.{Performed}
use Rattle.perform.specs.Perform.{shown_by, Performs}

-- Any two results that the promise allows are equal, the three lent buffers included.
pub perform_determined : (b : Body) (p : Packet) (picture font list out : List ℕ)
    → Determined (λ (x : Performed × (List ℕ × (List ℕ × List ℕ))). Performs b p picture font list out x.0 x.1.0 x.1.1.0 x.1.1.1)
perform_determined b p picture font list out x y m n =
    let e = m.body ∙ sym n.body in
    let w = m.written ∙ sym n.written in
    let o = m.replied ∙ sym n.replied in
    let q = repaint_determined (shown_by b) (shown_by (carried b p).body) font picture list (x.0.listed, (x.1.0, x.1.1.0)) (y.0.listed, (y.1.0, y.1.1.0)) m.repaints n.repaints in
    λ i. (record { body = e i; reply = w i; listed = (q i).0 }, ((q i).1.0, ((q i).1.1, o i)))

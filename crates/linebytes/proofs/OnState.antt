-- What a call on the bytes of a state is, and on bytes that are none.
use mathlib.Core.Path.{◌≡◌}
use mathlib.Core.Bool.{true, false}
use Prim.Native.Nat.{ℕ}
use mathlib.Core.List.{List}
use Rattle.lists.proofs.Laws.{when_true, when_false}
use Rattle.panel.specs.declared.Panel.{Panel}
use Rattle.statebytes.specs.State.{panel_of, is_state, on_state}

module _ {A : Type 0} (state : List ℕ) (refused : A) (call : Panel → A) where
  pub on_state_lem : is_state state ≡ true → on_state state refused call ≡ call (panel_of state)
  unfolding on_state
  on_state_lem e = when_true _ _ _ e

  pub on_none : is_state state ≡ false → on_state state refused call ≡ refused
  unfolding on_state
  on_none e = when_false _ _ _ e

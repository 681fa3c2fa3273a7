use mathlib.Core.Path.{sym, ◌∙◌, ap}
use Rattle.panel.specs.declared.Panel.{Panel}
use Rattle.symbols.specs.Symbols.{cells_said, cells_list}
use Rattle.linebytes.proofs.OnState.{on_state_lem, on_none}
use Rattle.naupelys.proofs.Together.{unread, was_read, none_called, told_on}
use Rattle.naupelys.proofs.naupelys_symbol_cells.Goals as goal

pub returns-in-None : goal.returns-in-None
returns-in-None c =
    let a = c.args in
    let no = unread a.state.now c.in-None.ensures in
    let w = none_called a.state.now no (λ p. cells_said p a.glyph a.list.now) c.no_state.ensures in
    record { number = w.number; cells = sym (on_none a.state.now _ _ no); said = w.said }

pub returns-in-Some : goal.returns-in-Some
returns-in-Some c =
    let a = c.args in
    let k = c.cells-s in
    let r = was_read a.state.now c.in-Some.ensures in
    let told = told_on a.state.now r.0 r.1 (λ p. cells_said p a.glyph a.list.now) k.ensures.0 c.told.ensures in
    record {
      number = told.0;
      cells = k.ensures.1 ∙ ap (λ (p : Panel). cells_list p a.glyph a.list.now) r.1 ∙ sym (on_state_lem a.state.now _ _ r.0);
      said = told.1;
    }

use Rattle.std.proofs.Common.{◌≤◌, ◌≡◌, length, drop}
use Rattle.wording.specs.Text.{text, form_behind}
use Rattle.wording.proofs.filled.Given as goal

-- what is left of the form comes behind the text so far
abbrev pub invariant-loop-b : goal.invariant-loop-b
invariant-loop-b l =
    record {
      counted : l.k ≤ l.b-index;
      inside : l.n ≤ length l.out;
      rest : form_behind (text l.out l.n) (drop l.b-index l.form) (drop l.k l.numbers) ≡ form_behind (text l.initial.out 0) l.form l.numbers;
    }

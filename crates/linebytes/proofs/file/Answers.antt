use mathlib.Core.Path.{sym}
use Rattle.linebytes.proofs.Filed.{none_filed, refusal_filed}
use Rattle.linebytes.proofs.file.Goals as goal

pub returns-in-None : goal.returns-in-None
returns-in-None c = let a = c.args in none_filed a.answer a.unfiled a.faults.now (sym c.in-None.ensures)

pub returns-in-Some : goal.returns-in-Some
returns-in-Some c =
    let a = c.args in
    refusal_filed a.answer a.unfiled a.faults.now (sym c.in-Some.ensures) _ _ _ c.read-records.ensures c.file_in-r.ensures c.write.ensures

-- What filing leaves of the register's bytes and of the unfiled number.
use Prim.Native.Nat.{ℕ}
use mathlib.Core.Path.{◌≡◌, refl, sym, ◌∙◌, ap}
use mathlib.Core.Bool.{true, true≢false}
use mathlib.Core.List.{List}
use Rattle.std.specs.Prelude.{Some, None}
use Rattle.lists.proofs.Laws.{when_true, when_false}
use Rattle.filing.specs.declared.Record.{Record}
use Rattle.filing.specs.declared.Refusal.{Refusal}
use Rattle.filing.specs.Filing.{filed_if}
use Rattle.register.specs.declared.run.FiledIn.{FiledIn}
use Rattle.register.specs.Run.{FilesBack}
use Rattle.answers.specs.declared.Answer.{Answer}
use Rattle.answers.specs.declared.Answer.TheVariants.{Waiting, Stray, Done, Refused, CallRefused}
use Rattle.answers.specs.Answer.{filing_of, is_done}
use Rattle.registerbytes.specs.Register.{ReadsRegister, WritesRegister}
use Rattle.linebytes.specs.Line.{faults_after, FilesBytes}

-- a done command refuses nothing
pub done_unfiled : (a : Answer) → is_done a ≡ true → filing_of a ≡ None
unfolding is_done
done_unfiled Waiting e = refl
done_unfiled (Stray command) e = refl
done_unfiled (Done command) e = refl
done_unfiled (Refused command reason place) e = absurd (true≢false (sym e))
done_unfiled (CallRefused check) e = refl

module _ (answer : Answer) (unfiled : ℕ) (faults : List ℕ) where
  pub none_filed : filing_of answer ≡ None → FilesBytes answer unfiled faults unfiled faults
  unfolding faults_after filed_if
  none_filed e = (rw e, rw e (sym (when_false _ _ _ refl)))

  pub refusal_filed : {refusal : Refusal} → filing_of answer ≡ Some refusal → (records : List Record) (q : FiledIn) (faults' : List ℕ) → ReadsRegister faults records
      → FilesBack records (Some refusal) unfiled q
      → WritesRegister faults q.register faults'
      → FilesBytes answer unfiled faults q.unfiled faults'
  unfolding faults_after
  refusal_filed e records q faults' reads files writes =
      let p = rw reads at files in
      rw e (ap (λ (g : FiledIn). g.unfiled) p, writes ∙ rw (ap (λ (g : FiledIn). g.register) p) (sym (when_true _ _ _ refl)))

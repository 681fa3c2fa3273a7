-- The register's bytes stand for its records from call to call, whose counts stay within 32 bits.
use Prim.Native.Nat.{ℕ, suc, ◌<◌}
use mathlib.Core.Path.{◌≡◌, refl, sym, ◌∙◌, ap}
use mathlib.Core.List.{List, [], ◌∷◌}
use native.Mathlib.Omega.{arith}
use borrow.Author.Tests.{eq-eqb, eqb-true, ltb-true}
use lib.ListN.{length, get_or}
use Rattle.std.specs.Prelude.{Option, Some, None, is_some}
use Rattle.lists.proofs.Laws.{when_either, when_true, when_false}
use Rattle.glyphs.proofs.Every.{Every, every_at, every_set}
use Rattle.filing.specs.declared.Record.{Record}
use Rattle.filing.specs.declared.Refusal.{Refusal}
use Rattle.filing.specs.declared.Filed.{Filed}
use Rattle.filing.specs.Filing.{Files, blank, most, filed_in, filed_at, filed, filed_if}
use Rattle.filing.proofs.Theorems.{length-filed, not_refused_changes_nothing}
use Rattle.answers.specs.declared.Answer.TheVariants.{CallRefused}
use Rattle.answers.specs.declared.Said.{Said}
use Rattle.answers.specs.Answer.{numbers_of, filing_of}
use Rattle.answers.proofs.Checks.{Pass, refused_from_ten}
use Rattle.registerbytes.specs.Register.{register_size, records_lent, register_bytes, register_with}
use Rattle.registerbytes.proofs.Theorems.{lent_read_back}
use Rattle.saidbytes.specs.Says.{number_of}
use Rattle.linebytes.specs.Line.{faults_after}
use Rattle.theorems.specs.Run.{World}
use Rattle.theorems.specs.Library.{Kept, LineOn, StandsFor}
use Rattle.theorems.proofs.Calls.{call_refused_says}
use Rattle.theorems.proofs.Outcomes.{tests_of}
use Rattle.theorems.proofs.Standing as standing

-- a count of 32 bits
abbrev pub Small : Record → Type 0
Small r = r.count < 4294967296

every_small : (records : List Record) → ((i : ℕ) → Small (get_or records i blank)) → Every Small records
every_small [] h = tt
every_small (r ∷ records) h = (h 0, every_small records (λ i. h (suc i)))

each_small : (records : List Record) → Every Small records → (i : ℕ) → Small (get_or records i blank)
each_small records e i = every_at Small records blank (omega arith) e i

one_small : (k : Refusal) (r : Record) (unfiled : ℕ) → Small r → Small (filed_in k r unfiled).fault
unfolding filed_in
one_small k r unfiled h = when_either (λ (q : Filed). Small q.fault) _ _ _ (λ e. omega (arith, ltb-true r.count most e)) (λ _. h)

-- a filing keeps the counts small
filing_small : (k : Option Refusal) (f : Files) → Every Small f.register → Every Small (filed_if k f).register
unfolding filed_if filed filed_at
filing_small None f e = e
filing_small (Some k) f e =
    when_either (λ (g : Files). Every Small g.register) _ _ _ (λ _. every_set Small f.register _ _ (one_small k _ f.unfiled (each_small f.register e _)) e) (λ _. e)

-- the world's register is what the bytes are, and its counts are small
pub record RegisterStands (k : Kept) (w : World) : Type 0 where
  pub records : w.register ≡ records_lent k.faults
  pub small : Every Small w.register

module _ (font : List ℕ) {k : Kept} {w : World} (s : StandsFor k w) (f : RegisterStands k w) {piece list out : List ℕ} {n : ℕ} {l : Kept} {list' out' said' : List ℕ}
    (m : LineOn font k piece list out n l list' out' said') where
  abbrev v : World
  v = standing.v s font m

  abbrev t : Said
  t = standing.t s font m

  small_then : Every Small v.register
  small_then = filing_small (filing_of t.answer) (record { register = records_lent k.faults; unfiled = t.panel.line.unfiled }) (rw f.records at f.small)

  -- the bytes of a register that has its size
  module _ (q : Pass (tests_of w.panel (standing.o s font m))) where
    is_64 : length (records_lent k.faults) ≡ 64
    is_64 = eqb-true _ _ q.1.1.1.1.1.1.0

    is_register_lem : length k.faults ≡ register_size
    is_register_lem = standing.is_register_lem s font m q

    records_then : (o : Option Refusal) → filing_of t.answer ≡ o → v.register ≡ records_lent (faults_after t.answer t.panel.line.unfiled k.faults)
    unfolding faults_after register_with
    records_then (Some r) e =
        let n : length v.register ≡ 64 = length-filed _ _ ∙ is_64 in
        sym (lent_read_back v.register n (λ i _. each_small v.register small_then i))
        ∙ ap records_lent (ap (λ (x : Files). register_bytes x.register) (sym (standing.same_files s font m q)) ∙ sym (when_true _ _ _ (eq-eqb (length k.faults) register_size is_register_lem)) ∙ sym (when_true _ _ _ (ap is_some e)))
    records_then None e =
        let f : Files = record { register = records_lent k.faults; unfiled = t.panel.line.unfiled } in
        ap (λ (x : Option Refusal). (filed_if x f).register) e ∙ ap (λ (x : Files). x.register) (not_refused_changes_nothing f) ∙ ap records_lent (sym (when_false _ _ _ (ap is_some e)))

  pub line_filed_lem : RegisterStands l v
  line_filed_lem =
      record {
        records = standing.outcome_of s font m
            (λ c e.
            let u = (call_refused_says w.panel (standing.o s font m) (records_lent k.faults) (standing.r s font m) _ _ _ _ (standing.heard s font m).called c e).1 in
            let b : number_of t ≡ (numbers_of (CallRefused c)).number = ap (λ x. (numbers_of x).number) e in
            u.records ∙ ap records_lent (sym (standing.faults_is s font m ∙ standing.faults_kept k.faults t.answer t.panel.line.unfiled (λ z. absurd (omega (arith, refused_from_ten c))))))
            (λ h q. records_then q (filing_of t.answer) refl ∙ ap records_lent (sym (standing.faults_is s font m)));
        small = small_then;
      }

-- A composer's answer and a panel's, by the one verdict on a code and data.
use Prim.Native.Nat.{ℕ, ◌%◌, ◌<◌}
use mathlib.Core.Path.{◌≡◌, ◌∙◌}
use mathlib.Core.Logic.{◌↔◌}
use mathlib.Core.List.{List}
use native.Mathlib.Omega.{arith}
use lib.ListN.{length}
use borrow.Author.Tests.{eq-eqb}
use Rattle.std.specs.Prelude.{Result, Ok, Err}
use Rattle.lists.proofs.Laws.{when_true}
use Rattle.verdict.specs.declared.Reason.{Reason}
use Rattle.verdict.specs.declared.Objection.{Objection}
use Rattle.verdict.specs.Verdict.{verdict_of}
use Rattle.answers.specs.declared.Answer.{Answer}
use Rattle.answers.specs.declared.Answer.TheVariants as answers
use Rattle.listen.specs.Reply.{ruling}
use Rattle.composer.specs.declared.Written.{Written}
use Rattle.composer.specs.declared.ComposeError.{ComposeError}
use Rattle.composer.specs.declared.ComposeError.TheVariants.{Refused}
use Rattle.composer.specs.Compose.{outcome_by, composing, ComposesFor}

-- with a buffer of 26 bytes the verdict decides
pub composed_outcome : (packet : List ℕ) (code : ℕ) (d : List ℕ) (c : Result Written ComposeError) (packet' : List ℕ) → length packet ≡ 26 → ComposesFor packet code d c packet' → c ≡ outcome_by (verdict_of code d) code d
unfolding composing
composed_outcome packet code d c packet' size w = w.0 ∙ when_true _ _ _ (eq-eqb (length packet) 26 size)

-- by one verdict both refuse alike, or neither does
pub alike : (code : ℕ) (d : List ℕ) (c : Result Written ComposeError) (a : Answer) (v : Result (Unit {0}) Objection) → code < 64 → c ≡ outcome_by v code d → a ≡ ruling v code
    → (reason : Reason) (place : ℕ) → (c ≡ Err (Refused code reason place)) ↔ (a ≡ answers.Refused code reason place)
unfolding outcome_by ruling
alike code d c a (Ok _) small e f reason place = (λ q. cc, λ q. cc)
alike code d c a (Err o) small e f reason place =
    let m : code % 64 ≡ code = omega arith in
    (λ q. let k : o.reason ≡ reason = cc in let n : o.place ≡ place = cc in cc, λ q. let k : o.reason ≡ reason = cc in let n : o.place ≡ place = cc in cc)

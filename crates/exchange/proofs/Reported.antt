-- What a key call writes that is accepted and writes a report.
use Prim.Native.Nat.{ℕ, ◌<◌}
use mathlib.Core.Path.{◌≡◌, refl, ◌∙◌, ap}
use mathlib.Core.Bool.{Bool, true, false}
use mathlib.Core.List.{List, ◌∷◌, []}
use native.Mathlib.Omega.{arith}
use lib.ListN.{take}
use Rattle.lists.specs.Tests.{when◌then◌else◌}
use Rattle.lists.specs.Runs.{front}
use Rattle.lists.proofs.Laws.{when_true, when_false}
use Rattle.packets.proofs.Bytes.{packet_length_lem}
use Rattle.panel.specs.declared.Panel.{Panel}
use Rattle.answers.specs.declared.Answer.{Answer}
use Rattle.answers.specs.declared.Answer.TheVariants.{Done}
use Rattle.answers.specs.declared.Said.{Said}
use Rattle.answers.specs.Answer.{numbers_of}
use Rattle.answers.proofs.Checks.{Pass, accepted_by, call_passed}
use Rattle.events.specs.Keys.{report_code, report_bytes, reports, key_accepted, Presses}
use Rattle.events.proofs.KeyCalls.{key_checks, key_number}
use Rattle.theorems.specs.Story.{replied}
use Rattle.exchange.proofs.Replied.{front_taken}

module _ (p : Panel) (number : ℕ) (down : Bool) (reply : List ℕ) (r : Said) (reply' : List ℕ) (pressed : Presses p number down reply r reply') (accepted : r.answer ≡ Done 0) where
  passed : Pass (key_checks p number down reply)
  unfolding numbers_of
  passed = call_passed p (key_checks p number down reply) (key_accepted p number down) r pressed.0 (omega (arith, ap (λ (a : Answer). (numbers_of a).number) accepted))

  pub report_number : number < 6
  report_number = key_number p number down reply passed

  -- A report has type 128 and the key's code.
  pub report_writes : (r.reply ≡ 0 → ⊥) → replied r reply' ≡ report_bytes down number
  report_writes some = go (reports p number down) refl
    where
      length-is : r.reply ≡ (when reports p number down then 5 else 0)
      length-is = ap (λ (s : Said). s.reply) (pressed.0 ∙ accepted_by _ passed _ _)

      left : reply' ≡ (when reports p number down then front (report_bytes down number) reply else reply)
      left = pressed.1 ∙ accepted_by _ passed _ _

      go : (t : Bool) → reports p number down ≡ t → replied r reply' ≡ report_bytes down number
      go true e = (λ i. take ((length-is ∙ when_true _ _ _ e) i) ((left ∙ when_true _ _ _ e) i)) ∙ front_taken (report_bytes down number) reply 5 (packet_length_lem 128 (report_code down number ∷ []))
      go false e = absurd (some (length-is ∙ when_false _ _ _ e))

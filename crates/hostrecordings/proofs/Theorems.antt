-- What holds of the call over and above its promise.
use mathlib.Core.Path.{◌≡◌, refl, sym, ◌∙◌}
use mathlib.Core.List.{List}
use Prim.Native.Nat.{ℕ, ◌+◌, ◌-◌}
use native.Mathlib.Omega.{arith}
use Rattle.std.specs.Prelude.{Option, Some, None, Result, Ok, Err}
use Rattle.recordings.specs.declared.Fault.{Fault}
use Rattle.recordings.specs.declared.Flaw.{Flaw}
use Rattle.recordings.specs.declared.Flaw.TheVariants.{TooLong, Mark, Version, Direction, CutShort}
use Rattle.recordings.specs.declared.Found.{Found}
use Rattle.recordings.specs.Recording.{flaw_number}
use Rattle.recordings.specs.Next.{next_packet}
use Rattle.recordings.proofs.Begins.{Stands, stands}
use Rattle.hostrecordings.specs.Next.{NextTold, TellsNext, OwnBytes}

-- "it hands back the data bytes as a part of the recording itself": what is told of a packet is where they stand in it.
module _ (recording : List ℕ) (place kind start length r place' kind' start' length' : ℕ) where
  pub part_of_the_recording : TellsNext recording place kind start length r place' kind' start' length' → r ≡ 3 → OwnBytes recording kind' start' length'
  part_of_the_recording t n = go (next_packet recording place) refl t
    where
      own : (f : Found) → Stands recording f → kind' ≡ f.kind → start' ≡ f.start → length' ≡ f.length → OwnBytes recording kind' start' length'
      own f p k s l =
          let before : p.at ≡ start' - 2 = omega arith in
          let between : p.at + 1 ≡ start' - 1 = omega arith in
          record { ahead = omega arith; type = k ∙ rw before at p.kind; size = l ∙ rw between at p.size; inside = omega arith }

      wrong : (f : Flaw) → flaw_number f ≡ 3 → ⊥
      wrong TooLong e = omega arith
      wrong Mark e = omega arith
      wrong Version e = omega arith
      wrong Direction e = omega arith
      wrong CutShort e = omega arith

      go : (o : Result (Option Found) Fault) → next_packet recording place ≡ o → NextTold o place kind start length r place' kind' start' length' → OwnBytes recording kind' start' length'
      go (Ok (Some f)) e t = own f (stands recording place f e) t.type t.at t.size
      go (Ok None) e t = absurd (omega (arith, t.number))
      go (Err fault) e t = absurd (wrong fault.flaw (sym t.number ∙ n))

-- Any two results that the promise allows are equal, the lent numbers among them.
module _ (recording : List ℕ) (place kind start length : ℕ) (r s place' place'' kind' kind'' start' start'' length' length'' : ℕ) where
  pub recording_next_determined : TellsNext recording place kind start length r place' kind' start' length' → TellsNext recording place kind start length s place'' kind'' start'' length''
      → (r ≡ s) × (place' ≡ place'') × (kind' ≡ kind'') × (start' ≡ start'') × (length' ≡ length'')
  recording_next_determined p q =
      (p.number ∙ sym q.number, p.next ∙ sym q.next, p.type ∙ sym q.type, p.at ∙ sym q.at, p.size ∙ sym q.size)

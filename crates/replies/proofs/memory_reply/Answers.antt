use Rattle.std.proofs.Common.{ℕ, List, ◌∷◌, ◌≡◌, refl, replicate, subst}
use Rattle.lists.specs.Tests.{when◌then◌else◌}
use Rattle.lists.specs.Runs.{pasted}
use Rattle.lists.proofs.Laws.{when_either}
use Rattle.glyphs.specs.Glyphs.{eight_from}
use Rattle.panel.specs.declared.Shown.{Shown}
use Rattle.replies.specs.Replies.{memory}
use Rattle.replies.proofs.memory_reply.Goals as goal

-- what is read is eight bytes
memory_eight : (s : Shown) (address : ℕ) → eight_from (memory s address) 0 ≡ memory s address
unfolding memory
memory_eight s address = when_either (λ (l : List ℕ). eight_from l 0 ≡ l) _ _ _ (λ _. refl) (λ _. refl)

-- eight bytes fill what is behind the address
behind_address : (address : ℕ) (l : List ℕ) → pasted (replicate 9 address) 1 (eight_from l 0) ≡ address ∷ eight_from l 0
unfolding pasted when◌then◌else◌
behind_address address l = refl

pub returns : goal.returns
returns c =
    let a = c.args in
    let P : List ℕ → Type 0 = λ m. pasted (replicate 9 a.address) 1 m ≡ a.address ∷ m in
    rw (c.paste.ensures, c.read_memory.ensures) (subst P (memory_eight a.s a.address) (behind_address a.address (memory a.s a.address)))

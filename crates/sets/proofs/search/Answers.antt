use Rattle.std.proofs.Common.{ℕ, rules, arith, ◌∙◌, sym, ◌≡◌, length, get_or}
use Rattle.sets.specs.Sets.{mark_of}
use Rattle.lists.proofs.Made.{made_at}
use Rattle.sets.proofs.Laws.{marked_all}
use Rattle.sets.proofs.search.Goals as goal

pub returns : goal.returns
returns c =
    let made = c.from_fn.ensures.items in
    let text = c.args.text in
    let size : length text ≡ 80 = c.well_formed.0.1.0.1 in
    marked_all text _ (made.long ∙ sym size)
    (λ cell h. made_at _ _ (λ (k : ℕ). mark_of (get_or text k 0)) (λ i y q k. search rules) _ _ made cell 0 (omega arith))

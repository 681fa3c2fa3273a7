use Rattle.std.proofs.Common.{◌+◌, ◌≡◌, ◌≤◌, ◌<◌, ◌^◌, ◌++◌, drop, length}
use Rattle.wording.specs.Text.{decimal}
use Rattle.wording.proofs.decimal.Given as goal

-- the digits that are written stand behind those of the rest, and there is room for these
abbrev pub invariant-loop-rest : goal.invariant-loop-rest
invariant-loop-rest l =
    (l.k ≤ 19) × (l.rest < 10 ^ (l.k + 1)) × (length l.room ≡ 20) × (decimal l.rest ++ drop (l.k + 1) l.room ≡ decimal l.n)

abbrev pub decreases-loop-rest : goal.decreases-loop-rest
decreases-loop-rest l = l.rest

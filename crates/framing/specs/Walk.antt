-- A walk over bytes that lie together: the held ones stand from one place up to another, and those behind are to come.
-- These are the promises of private functions of the scan, which a reader of the paper need not open.
use Rattle.std.specs.Prelude.{ℕ, ◌+◌, ◌-◌, ◌*◌, ◌≤◌, ◌≡◌, false, List, ◌++◌, length, take, drop}
use Rattle.lists.specs.Tests.{when◌then◌else◌, ◌<?◌}
use Rattle.packets.specs.declared.Judgement.TheVariants.{Wait, Packet}
use Rattle.packets.specs.Hold.{held_most}
use Rattle.packets.specs.Judge.{length_byte, judge}
use Rattle.framing.specs.declared.Walked.{Walked}
use Rattle.framing.specs.Scan.{Outcome, after, scan}

-- the bytes from place s up to place e
abbrev pub between : ℕ → ℕ → List ℕ → List ℕ
between s e bytes = take (e - s) (drop s bytes)

-- what becomes of a call that holds them
abbrev pub from : ℕ → ℕ → List ℕ → Outcome
from s e bytes = scan (between s e bytes) (drop e bytes)

-- as many bytes as must be held before the judgement can be other than a wait
unfoldable pub needed : List ℕ → ℕ
needed h = when length h <? 2 then 2 else length_byte h + 4

-- a walk that held the bytes from s₀ up to e₀ holds those from s up to e, with k run through the checksum; what comes of the
-- call is the same, whatever comes behind the bytes
pub record Reaches (bytes : List ℕ) (s₀ e₀ s e k : ℕ) : Type 0 where
  pub same : (more : List ℕ) → from s₀ e₀ (bytes ++ more) ≡ after (e - e₀) (s - s₀) k (from s e (bytes ++ more))
  pub front : s₀ ≤ s
  pub order : s ≤ e
  pub behind : e₀ ≤ e
  pub within : e ≤ length bytes
  pub room : e ≤ s + (held_most + 1)
  pub work : k ≤ 24 * (s - s₀)

-- what `walk` promises: it ends at a packet, or at a wait where the bytes are used up
pub record Walks (bytes : List ℕ) (s₀ e₀ : ℕ) (r : Walked) : Type 0 where
  pub reached : Reaches bytes s₀ e₀ r.start r.end r.checked
  pub judged : judge (between r.start r.end bytes) ≡ (when r.found then Packet else Wait)
  pub used : r.found ≡ false → r.end ≡ length bytes

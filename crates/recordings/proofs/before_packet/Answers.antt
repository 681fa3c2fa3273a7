use Rattle.std.proofs.Common.{◌≡◌, ◌∙◌, sym, arith, ◌-◌, length, List, ℕ}
use mathlib.Core.Logic.{⊎_elim}
use lib.ListN.{take, drop, length-drop, drop_of_length-le}
use Rattle.lists.proofs.Laws.{all_behind}
use Rattle.packets.specs.declared.Judgement.{Judgement}
use Rattle.packets.specs.Judge.{judge}
use Rattle.recordings.specs.Next.{before}
use Rattle.recordings.proofs.Firsts.{before_wait, before_packet, Passed, drop_long, drop_wrong}
use Rattle.recordings.proofs.before_packet.Goals as goal

-- what was judged is all that is left
judged : (bytes : List ℕ) (i : ℕ) {j j' : Judgement} → j' ≡ judge (take (length bytes - i) (drop i bytes)) → j' ≡ j → judge (drop i bytes) ≡ j
judged bytes i e f = sym (rw all_behind at e) ∙ f

pub returns-in-Packet : goal.returns-in-Packet
returns-in-Packet c =
    let l = c.loop-i in
    let b = c.args.bytes.now in
    let e = before_packet _ (judged b l.i c.judge.ensures c.in-Packet.is) in
    (omega arith, c.loop-i-test.true)

pub returns-in-Wait : goal.returns-in-Wait
returns-in-Wait c =
    let l = c.loop-i in
    let b = c.args.bytes.now in
    let e = before_wait _ (judged b l.i c.judge.ensures c.in-Wait.is) in
    l.invariant ∙ omega (arith, length-drop l.i b)

pub loop-i-preserved : goal.loop-i-preserved
loop-i-preserved c =
    let i = c.loop-i.i in
    let b = c.args.bytes.now in
    let p : Passed b i = ⊎_elim (λ e. drop_long b i (judged b i c.judge.ensures e)) (λ e. drop_wrong b i (judged b i c.judge.ensures e)) c.in-LongLength.is in
    omega arith

pub returns : goal.returns
unfolding before
returns c =
    let l = c.loop-i in
    let b = c.args.bytes.now in
    let z = drop_of_length-le b {i = l.i} c.loop-i-test.false in
    l.invariant ∙ rw z (omega arith)

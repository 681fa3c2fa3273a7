use Prim.Native.Nat.{◌+◌}
use mathlib.Core.Path.{◌≡◌, sym, ◌∙◌}
use native.Mathlib.Omega.{arith}
use lib.ListN.{length, length-take, length-drop}
use Rattle.packets.specs.Judge.{length_byte}
use Rattle.reading.proofs.OnePacket.{found_size, one_read, none_read}
use Rattle.reading.proofs.read.Goals as goal

pub reading_by-requires : goal.reading_by-requires
reading_by-requires c =
    let few = found_size c.args.bytes.now (sym c.judge.ensures ∙ c.in-Packet-len4-up.is-0) in
    omega (arith, few.0)

pub returns-in-Packet-len4-up : goal.returns-in-Packet-len4-up
returns-in-Packet-len4-up c =
    let b = c.args.bytes.now in
    let e : length b ≡ length_byte b + 4 = omega (arith, simp (length-take, length-drop) at c.if-d-from.true) in
    c.reading_by.ensures ∙ sym (one_read b (sym c.judge.ensures ∙ c.in-Packet-len4-up.is-0) e)

-- no packet ends so early
pub returns-in_default : goal.returns-in_default
returns-in_default c =
    let b = c.args.bytes.now in
    sym (none_read b (λ j e. omega (arith, (found_size b j).1)))

pub returns-in_default-2 : goal.returns-in_default-2
returns-in_default-2 c =
    let f = simp (length-take, length-drop) at c.if-d-from.false in
    sym (none_read c.args.bytes.now (λ j e. f (omega arith)))

pub returns-in_default-3 : goal.returns-in_default-3
returns-in_default-3 c = sym (none_read c.args.bytes.now (λ j e. c.in_default.not-Packet-0 (c.judge.ensures ∙ j)))

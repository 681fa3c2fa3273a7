-- What a line call writes of its reply: a done command's reply, a refused packet's error reply.
use Prim.Native.Nat.{ℕ, ◌+◌, ◌%◌, ◌<◌, ◌≤◌}
use mathlib.Core.Path.{◌≡◌, sym, ◌∙◌, ap}
use mathlib.Core.List.{List, []}
use native.Mathlib.Omega.{arith}
use borrow.Author.Tests.{eqb-true}
use lib.ListN.{length, take, drop}
use lib.Seq.{take_at, take-append_seam}
use Rattle.std.specs.Prelude.{Ok}
use Rattle.lists.specs.Runs.{front}
use Rattle.lists.proofs.Laws.{when_true}
use Rattle.packets.specs.declared.Packet.{Packet}
use Rattle.packets.specs.Packet.{packet_bytes, packet_of, content_of, composable, composed_length, composed}
use Rattle.packets.proofs.Bytes.{packet_length_lem}
use Rattle.packets.proofs.Composing.{fitting}
use Rattle.filing.specs.declared.Record.{Record}
use Rattle.verdict.specs.declared.Reason.{Reason}
use Rattle.verdict.specs.Verdict.{refused, verdict_of}
use Rattle.panel.specs.declared.Panel.{Panel}
use Rattle.answers.specs.declared.Answer.{Answer}
use Rattle.answers.specs.declared.Answer.TheVariants.{Done, Refused}
use Rattle.answers.specs.declared.Said.{Said}
use Rattle.listen.specs.declared.Heard.{Heard}
use Rattle.replies.specs.Replies.{reply_data}
use Rattle.perform.specs.Commands.{carried}
use Rattle.linecall.specs.Line.{Lent, line_heard, LineCall}
use Rattle.theorems.proofs.Outcomes.{scan_packet, Outcome, turned_away, waits, finds, strays, does, refuses, outcome}
use Rattle.theorems.proofs.Calls.{done_says, refused_changes_only}
use Rattle.exchange.specs.Writes.{data_heard}

-- what stands at the front of a buffer
pub front_taken : (run out : List ℕ) (n : ℕ) → length run ≡ n → take n (front run out) ≡ run
front_taken run out n e = take_at run (drop (length run) out) n e

-- a packet composed into a buffer of 26 bytes, taken out again
composed_taken : (out : List ℕ) (kind : ℕ) (content : List ℕ) → length out ≡ 26 → length content ≤ 22 → take (composed_length out content) (composed out kind content) ≡ packet_bytes kind content
unfolding composed_length composed
composed_taken out kind content h l =
    let t = fitting out content h l in
    (λ i. take (when_true (composable out content) (length content + 4) 0 t i) (when_true (composable out content) (front (packet_bytes kind content) out) out t i))
    ∙ front_taken (packet_bytes kind content) out (length content + 4) (packet_length_lem kind content)

-- the data of a packet as the code has it
pub content_back : (kind : ℕ) (content : List ℕ) → content_of (packet_of kind content) ≡ content
content_back kind content = take-append_seam content _

module _ (p : Panel) (l : Lent) (register : List Record) (r : Said) (picture' list' reply' : List ℕ) (register' : List Record) (called : LineCall p l register r picture' list' reply' register') where
  answer_is : r.answer ≡ (line_heard p l).answer
  answer_is = ap (λ (s : Said). s.answer) called.0

  -- a command that a call answered, done or refused
  pub record Ruled (command : ℕ) : Type 0 where
    pub packet : (line_heard p l).packet ≡ scan_packet p l
    pub kind : (scan_packet p l).kind ≡ command
    pub small : command < 64
    pub room : length l.reply ≡ 26

  pub done_ruled : (command : ℕ) → r.answer ≡ Done command → Ruled command × (verdict_of command (data_heard p l) ≡ Ok tt)
  done_ruled command a = go (sym answer_is ∙ a) (outcome p l)
    where
      go : {b : Answer} → b ≡ Done command → Outcome p l b → Ruled command × (verdict_of command (data_heard p l) ≡ Ok tt)
      go e (turned_away f h g) = let z : ◌≡◌ {A = ℕ} 0 1 = cc in absurd (omega arith)
      go e (waits q h g f) = let z : ◌≡◌ {A = ℕ} 0 1 = cc in absurd (omega arith)
      go e (finds q h g f b (strays k)) = let z : ◌≡◌ {A = ℕ} 0 1 = cc in absurd (omega arith)
      go e (finds q h g f b (refuses k v)) = let z : ◌≡◌ {A = ℕ} 0 1 = cc in absurd (omega arith)
      go e (finds q h g f b (does k v)) =
          let same : (scan_packet p l).kind ≡ command = cc in
          let heard : (line_heard p l).packet ≡ scan_packet p l = ap (λ (x : Heard). x.packet) h in
          (record { packet = heard; kind = same; small = omega arith; room = eqb-true _ _ q.1.1.1.1.1.0 }, rw (heard, ← same) v)

  pub refused_ruled : (command : ℕ) (reason : Reason) (place : ℕ) → r.answer ≡ Refused command reason place
      → Ruled command × (verdict_of command (data_heard p l) ≡ refused reason place)
  refused_ruled command reason place a = go (sym answer_is ∙ a) (outcome p l)
    where
      go : {b : Answer} → b ≡ Refused command reason place → Outcome p l b → Ruled command × (verdict_of command (data_heard p l) ≡ refused reason place)
      go e (turned_away f h g) = let z : ◌≡◌ {A = ℕ} 0 1 = cc in absurd (omega arith)
      go e (waits q h g f) = let z : ◌≡◌ {A = ℕ} 0 1 = cc in absurd (omega arith)
      go e (finds q h g f b (strays k)) = let z : ◌≡◌ {A = ℕ} 0 1 = cc in absurd (omega arith)
      go e (finds q h g f b (does k v)) = let z : ◌≡◌ {A = ℕ} 0 1 = cc in absurd (omega arith)
      go e (finds q h g f b (refuses {reason = x} {place = y} k v)) =
          let same : (scan_packet p l).kind ≡ command = cc in
          let heard : (line_heard p l).packet ≡ scan_packet p l = ap (λ (x : Heard). x.packet) h in
          let ex : x ≡ reason = cc in
          let ey : y ≡ place = cc in
          (record { packet = heard; kind = same; small = omega arith; room = eqb-true _ _ q.1.1.1.1.1.0 }, rw (heard, ← same, ← ex, ← ey) v)

  -- A done command's reply has type 64 + command and the data that the command replies.
  pub done_writes : (command : ℕ) → r.answer ≡ Done command → length (reply_data command (data_heard p l) p.body) ≤ 22
      → take r.reply reply' ≡ packet_bytes (64 + command) (reply_data command (data_heard p l) p.body)
  unfolding carried
  done_writes command a n =
      let f = (done_ruled command a).0 in
      let k = scan_packet p l in
      let s = done_says p l register r picture' list' reply' register' called command a in
      let e : k.kind % 64 ≡ command = omega (arith, f.kind, f.small) in
      let d = reply_data command (data_heard p l) p.body in
      let c : (carried p.body k).reply ≡ packet_of (64 + command) d = rw (e, f.packet) in
      let w : r.reply ≡ composed_length l.reply d = ap (λ (x : Said). x.reply) s.0 ∙ ap (λ (x : Packet). composed_length l.reply (content_of x)) c ∙ ap (composed_length l.reply) (content_back (64 + command) d) in
      let o : reply' ≡ composed l.reply (64 + command) d = s.3 ∙ ap (λ (x : Packet). composed l.reply x.kind (content_of x)) c ∙ ap (composed l.reply (64 + command)) (content_back (64 + command) d) in
      (λ i. take (w i) (o i)) ∙ composed_taken l.reply (64 + command) d f.room n

  -- A refused packet's error reply has type 192 + command and no data.
  pub refused_writes : (command : ℕ) (reason : Reason) (place : ℕ) → r.answer ≡ Refused command reason place → take r.reply reply' ≡ packet_bytes (192 + command) []
  refused_writes command reason place a =
      let s = refused_changes_only p l register r picture' list' reply' register' called command reason place a in
      (λ i. take (s.0 i).reply (s.3 i)) ∙ front_taken (packet_bytes (192 + command) []) l.reply 4 (packet_length_lem (192 + command) [])

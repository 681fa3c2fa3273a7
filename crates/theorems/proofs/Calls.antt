-- What holds of a line call over and above its promise: what each answer says of the state, the buffers, the register and the
-- counts, and what the list and the picture have to do with each other.
use Prim.Native.Nat.{ℕ, ◌+◌, ◌*◌, ◌%◌, ◌<◌, ◌≤◌}
use mathlib.Core.Path.{◌≡◌, refl, sym, ◌∙◌, ap}
use mathlib.Core.Logic.{◌≢◌, ◌↔◌}
use mathlib.Core.Bool.{Bool, true, false}
use mathlib.Core.List.{List, []}
use native.Mathlib.Omega.{arith}
use borrow.Author.Tests.{eqb-true}
use lib.ListN.{length, get_or}
use Rattle.std.specs.Prelude.{Option, Some, None}
use Rattle.lists.specs.Tests.{when◌then◌else◌, ◌=?◌}
use Rattle.lists.specs.Runs.{front}
use Rattle.lists.proofs.Laws.{when_true, when_false}
use Rattle.packets.specs.Hold.{held}
use Rattle.packets.specs.Packet.{packet_bytes, composable, composed_length, composed}
use Rattle.packets.proofs.Bytes.{packet_length_lem}
use Rattle.packets.proofs.Composing.{fitting}
use Rattle.framing.proofs.Theorems as framing
use Rattle.verdict.specs.declared.Reason.{Reason}
use Rattle.verdict.specs.Verdict.{reason_number}
use Rattle.panel.specs.declared.Line.{Line}
use Rattle.panel.specs.declared.Body.{Body}
use Rattle.panel.specs.declared.Panel.{Panel}
use Rattle.panel.specs.State.{line_holding}
use Rattle.filing.specs.declared.Record.{Record}
use Rattle.filing.specs.declared.Refusal.{Refusal}
use Rattle.filing.specs.Filing.{Files, filed, filed_if}
use Rattle.picture.specs.Draw.{cell_drawn, place_of}
use Rattle.lists.specs.Rising.{ListedIn}
use Rattle.picture.specs.Repaint.{changed, painted}
use Rattle.picture.proofs.Changes.{Listed, changed_same, painted_same, listed_rises, listed_inside, listed_differs, listed_drawn, unlisted_kept}
use Rattle.answers.specs.declared.Check.{Check}
use Rattle.answers.specs.declared.Answer.{Answer}
use Rattle.answers.specs.declared.Answer.TheVariants.{Waiting, Stray, Done, Refused, CallRefused}
use Rattle.answers.specs.declared.Said.{Said}
use Rattle.answers.specs.Answer.{numbers_of, is_done, filing_of, refused_call, with_unfiled}
use Rattle.listen.specs.declared.Heard.{Heard}
use Rattle.listen.specs.Reply.{error_type, refused_length, refused_reply}
use Rattle.listen.specs.Listen.{answer_in, heard_of, heard_reply}
use Rattle.perform.specs.Commands.{carried}
use Rattle.perform.specs.Perform.{shown_by, reply_length, reply_written}
use Rattle.linecall.specs.Line.{Lent, line_heard, line_done, body_after, altered, said_with, line_said, line_picture, line_list, line_reply, files_after, LineCall}
use Rattle.lists.proofs.Fronts.{front_behind, front_listed, front_rising}
use Rattle.theorems.proofs.Outcomes.{scan_of, scan_packet, reply_heard, Outcome, turned_away, waits, finds, strays, does, refuses, outcome}

-- the line's part after a piece is heard
abbrev pub heard_line : Panel → Lent → Line
heard_line p l = line_holding p.line (scan_of p l).hold

-- what a call says that leaves the body: the held bytes and the counts are the scan's, and nothing is listed
abbrev pub quietly : Panel → Lent → Answer → ℕ → Said
quietly p l a reply = record { panel = record { line = heard_line p l; body = p.body }; answer = a; counts = (scan_of p l).counts; reply = reply; listed = 0 }

-- what a call says that carries a command out
abbrev told : Panel → Lent → Answer → Said
told p l a =
    let c = carried p.body (scan_packet p l) in
    record {
      panel = record { line = heard_line p l; body = c.body };
      answer = a;
      counts = (scan_of p l).counts;
      reply = reply_length c.reply l.reply;
      listed = length (changed (shown_by p.body) (shown_by c.body) l.font);
    }

abbrev pub performing : Panel → Lent → ℕ → Said
performing p l command = told p l (Done command)

module _ (p : Panel) (l : Lent) where
  -- a body that is not performed on stays, and so do the picture and the list
  record Left : Type 0 where
    body : body_after p l ≡ p.body
    reply : (line_said p l).reply ≡ (line_heard p l).reply
    none : altered p l ≡ []
    picture : line_picture p l ≡ l.picture
    list : line_list p l ≡ l.list
    replied : line_reply p l ≡ reply_heard p l

  left_alone : line_done p l ≡ false → Left
  left_alone e =
      let b : body_after p l ≡ p.body = when_false _ _ _ e in
      let n : altered p l ≡ [] = ap (λ (x : Body). changed (shown_by p.body) (shown_by x) l.font) b ∙ changed_same (shown_by p.body) l.font in
      record {
        body = b;
        reply = when_false _ _ _ e;
        none = n;
        picture = ap (λ (x : Body). painted (shown_by p.body) (shown_by x) l.font l.picture) b ∙ painted_same (shown_by p.body) l.font l.picture;
        list = ap (λ (x : List ℕ). front x l.list) n;
        replied = when_false _ _ _ e;
      }

  -- a heard piece whose answer is not done
  module _ {a : Answer} (h : line_heard p l ≡ heard_of p.line (scan_of p l) l.reply) (g : reply_heard p l ≡ heard_reply (scan_of p l) l.reply)
      (e : answer_in (scan_of p l).packet ≡ a) (n : is_done a ≡ false) where
    quiet_left : Left
    quiet_left = left_alone (ap (λ (x : Heard). is_done x.answer) h ∙ ap is_done e ∙ n)

    quiet_said : line_said p l ≡ quietly p l a (refused_length a l.reply)
    quiet_said =
        let d = quiet_left in
        (λ i. said_with (h i) (record { body = d.body i; reply = (d.reply ∙ ap (λ (x : Heard). x.reply) h) i; listed = length (d.none i) }))
        ∙ ap (λ (x : Answer). quietly p l x (refused_length x l.reply)) e

    quiet_reply : line_reply p l ≡ refused_reply a l.reply
    quiet_reply = quiet_left.replied ∙ g ∙ ap (λ (x : Answer). refused_reply x l.reply) e

-- bytes behind a packet in its buffer, behind an error reply, and behind one or the other
composed_behind : (out : List ℕ) (kind : ℕ) (content : List ℕ) (i : ℕ) → composed_length out content ≤ i → get_or (composed out kind content) i 0 ≡ get_or out i 0
unfolding composed_length composed
composed_behind out kind content i h = go (composable out content) refl
  where
    go : (t : Bool) → composable out content ≡ t → get_or (composed out kind content) i 0 ≡ get_or out i 0
    go true e = rw (when_true _ _ _ e) (front_behind (packet_bytes kind content) out i (omega (arith, packet_length_lem kind content, rw (when_true _ _ _ e) at h)))
    go false e = rw (when_false _ _ _ e) refl

error_behind : (a : Answer) (out : List ℕ) (i : ℕ) → refused_length a out ≤ i → get_or (refused_reply a out) i 0 ≡ get_or out i 0
unfolding refused_length refused_reply
error_behind a out i h = go ((numbers_of a).number =? 4) refl
  where
    go : (t : Bool) → ((numbers_of a).number =? 4) ≡ t → get_or (refused_reply a out) i 0 ≡ get_or out i 0
    go true e = rw (when_true _ _ _ e) (composed_behind out (error_type a) [] i (rw (when_true _ _ _ e) at h))
    go false e = rw (when_false _ _ _ e) refl

either_behind : (i : ℕ) (out : List ℕ) (t : Bool) (m n : ℕ) (a b : List ℕ) → (m ≤ i → get_or a i 0 ≡ get_or out i 0) → (n ≤ i → get_or b i 0 ≡ get_or out i 0) → (when t then m else n) ≤ i
    → get_or (when t then a else b) i 0 ≡ get_or out i 0
unfolding when◌then◌else◌
either_behind i out true m n a b f g h = f h
either_behind i out false m n a b f g h = g h

-- a call that says this files nothing unless a packet is refused
not_filed : (s : Said) (register : List Record) → filing_of s.answer ≡ None → files_after s register ≡ record { register = register; unfiled = s.panel.line.unfiled }
unfolding filed_if
not_filed s register e = ap (λ (k : Option Refusal). filed_if k (record { register = register; unfiled = s.panel.line.unfiled })) e

is_filed : (k : Refusal) (s : Said) (register : List Record) → filing_of s.answer ≡ Some k → files_after s register ≡ filed k (record { register = register; unfiled = s.panel.line.unfiled })
unfolding filed_if
is_filed k s register e = ap (λ (x : Option Refusal). filed_if x (record { register = register; unfiled = s.panel.line.unfiled })) e

-- what a refused packet is filed under
abbrev pub key_of : ℕ → Reason → ℕ → Refusal
key_of command reason place = record { command = command; reason = reason_number reason; place = place }

module _ (p : Panel) (l : Lent) (register : List Record) (r : Said) (picture' list' reply' : List ℕ) (register' : List Record) (called : LineCall p l register r picture' list' reply' register') where
  answer_is : r.answer ≡ (line_heard p l).answer
  answer_is = ap (λ (s : Said). s.answer) called.0

  said_as : {s : Said} → line_said p l ≡ s → filing_of s.answer ≡ None → (r ≡ s) × (register' ≡ register)
  said_as {s} e n =
      let f : files_after (line_said p l) register ≡ record { register = register; unfiled = s.panel.line.unfiled } = ap (λ (x : Said). files_after x register) e ∙ not_filed s register n in
      (called.0 ∙ (λ i. with_unfiled (e i) (f i).unfiled), called.4 ∙ (λ i. (f i).register))

  -- the buffers and the register as they came
  pub record Untouched : Type 0 where
    pub picture : picture' ≡ l.picture
    pub list : list' ≡ l.list
    pub reply : reply' ≡ l.reply
    pub records : register' ≡ register

  -- 10 to 18: A line call that is refused by number leaves the panel and all that is lent as they came, and counts nothing.
  pub call_refused_says : (c : Check) → r.answer ≡ CallRefused c → (r ≡ refused_call p c) × Untouched
  unfolding numbers_of is_done
  call_refused_says c a = go (sym answer_is ∙ a) (outcome p l)
    where
      go : {b : Answer} → b ≡ CallRefused c → Outcome p l b → (r ≡ refused_call p c) × Untouched
      go e (turned_away {c = d} f h g) =
          let same : d ≡ c = cc in
          let k = left_alone p l (ap (λ (x : Heard). is_done x.answer) h) in
          let s : line_said p l ≡ refused_call p d = λ i. said_with (h i) (record { body = k.body i; reply = (k.reply ∙ ap (λ (x : Heard). x.reply) h) i; listed = length (k.none i) }) in
          let u = said_as s refl in
          (u.0 ∙ ap (refused_call p) same, record { picture = called.1 ∙ k.picture; list = called.2 ∙ k.list; reply = called.3 ∙ k.replied ∙ g; records = u.1 })
      go e (waits q h g f) = let z : ◌≡◌ {A = ℕ} 0 1 = cc in absurd (omega arith)
      go e (finds q h g f b (strays k)) = let z : ◌≡◌ {A = ℕ} 0 1 = cc in absurd (omega arith)
      go e (finds q h g f b (does k v)) = let z : ◌≡◌ {A = ℕ} 0 1 = cc in absurd (omega arith)
      go e (finds q h g f b (refuses k v)) = let z : ◌≡◌ {A = ℕ} 0 1 = cc in absurd (omega arith)

  -- The same by the number.
  pub refused_call_changes_nothing : 10 ≤ (numbers_of r.answer).number → (c : Check) × ((r ≡ refused_call p c) × Untouched)
  unfolding numbers_of
  refused_call_changes_nothing n = go r.answer refl n
    where
      go : (a : Answer) → r.answer ≡ a → 10 ≤ (numbers_of a).number → (c : Check) × ((r ≡ refused_call p c) × Untouched)
      go Waiting e n = absurd (omega arith)
      go (Stray command) e n = absurd (omega arith)
      go (Done command) e n = absurd (omega arith)
      go (Refused command reason place) e n = absurd (omega arith)
      go (CallRefused c) e n = (c, call_refused_says c e)

  -- 1: A call that waits changes the held bytes only, and replies nothing.
  pub waiting_changes_only : r.answer ≡ Waiting → (r ≡ quietly p l Waiting 0) × Untouched
  unfolding numbers_of is_done answer_in refused_length refused_reply when◌then◌else◌
  waiting_changes_only a = go (sym answer_is ∙ a) (outcome p l)
    where
      go : {b : Answer} → b ≡ Waiting → Outcome p l b → (r ≡ quietly p l Waiting 0) × Untouched
      go e (turned_away f h g) = let z : ◌≡◌ {A = ℕ} 0 1 = cc in absurd (omega arith)
      go e (waits q h g f) =
          let w = ap answer_in f in
          let k = quiet_left p l h g w refl in
          let u = said_as (quiet_said p l h g w refl) refl in
          (u.0, record { picture = called.1 ∙ k.picture; list = called.2 ∙ k.list; reply = called.3 ∙ quiet_reply p l h g w refl; records = u.1 })
      go e (finds q h g f b (strays k)) = let z : ◌≡◌ {A = ℕ} 0 1 = cc in absurd (omega arith)
      go e (finds q h g f b (does k v)) = let z : ◌≡◌ {A = ℕ} 0 1 = cc in absurd (omega arith)
      go e (finds q h g f b (refuses k v)) = let z : ◌≡◌ {A = ℕ} 0 1 = cc in absurd (omega arith)

  -- 2: A stray changes the held bytes only, and is not answered.
  pub stray_changes_only : (command : ℕ) → r.answer ≡ Stray command → (r ≡ quietly p l (Stray command) 0) × Untouched
  unfolding numbers_of is_done answer_in refused_length refused_reply when◌then◌else◌
  stray_changes_only command a = go (sym answer_is ∙ a) (outcome p l)
    where
      go : {b : Answer} → b ≡ Stray command → Outcome p l b → (r ≡ quietly p l (Stray command) 0) × Untouched
      go e (turned_away f h g) = let z : ◌≡◌ {A = ℕ} 0 1 = cc in absurd (omega arith)
      go e (waits q h g f) = let z : ◌≡◌ {A = ℕ} 0 1 = cc in absurd (omega arith)
      go e (finds q h g f b (strays k)) =
          let w = ap answer_in f ∙ sym b ∙ e in
          let d = quiet_left p l h g w refl in
          let u = said_as (quiet_said p l h g w refl) refl in
          (u.0, record { picture = called.1 ∙ d.picture; list = called.2 ∙ d.list; reply = called.3 ∙ quiet_reply p l h g w refl; records = u.1 })
      go e (finds q h g f b (does k v)) = let z : ◌≡◌ {A = ℕ} 0 1 = cc in absurd (omega arith)
      go e (finds q h g f b (refuses k v)) = let z : ◌≡◌ {A = ℕ} 0 1 = cc in absurd (omega arith)

  -- what is filed of a refusal
  abbrev pub filed_for : ℕ → Reason → ℕ → Files
  filed_for command reason place = filed (key_of command reason place) (record { register = register; unfiled = p.line.unfiled })

  -- 4: A refused packet changes of the panel the held bytes and the unfiled number only. Its error reply is written, type 192 +
  -- command and length 0; it is filed under its command, reason and place; nothing is listed or painted.
  pub refused_changes_only : (command : ℕ) (reason : Reason) (place : ℕ) → r.answer ≡ Refused command reason place
      → (r ≡ with_unfiled (quietly p l (Refused command reason place) 4) (filed_for command reason place).unfiled) × (picture' ≡ l.picture)
      × (list' ≡ l.list)
      × (reply' ≡ front (packet_bytes (192 + command) []) l.reply)
      × (register' ≡ (filed_for command reason place).register)
  unfolding numbers_of is_done answer_in refused_length refused_reply composed_length composed when◌then◌else◌
  refused_changes_only command reason place a = go (sym answer_is ∙ a) (outcome p l)
    where
      Says : Type 0
      Says =
          (r ≡ with_unfiled (quietly p l (Refused command reason place) 4) (filed_for command reason place).unfiled) × (picture' ≡ l.picture)
          × (list' ≡ l.list)
          × (reply' ≡ front (packet_bytes (192 + command) []) l.reply)
          × (register' ≡ (filed_for command reason place).register)

      go : {b : Answer} → b ≡ Refused command reason place → Outcome p l b → Says
      go e (turned_away f h g) = let z : ◌≡◌ {A = ℕ} 0 1 = cc in absurd (omega arith)
      go e (waits q h g f) = let z : ◌≡◌ {A = ℕ} 0 1 = cc in absurd (omega arith)
      go e (finds q h g f b (strays k)) = let z : ◌≡◌ {A = ℕ} 0 1 = cc in absurd (omega arith)
      go e (finds q h g f b (does k v)) = let z : ◌≡◌ {A = ℕ} 0 1 = cc in absurd (omega arith)
      go e (finds q h g f b (refuses k v)) =
          let w = ap answer_in f ∙ sym b ∙ e in
          let d = quiet_left p l h g w refl in
          let t = fitting l.reply [] (eqb-true _ _ q.1.1.1.1.1.0) (omega arith) in
          let same : (scan_packet p l).kind ≡ command = cc in
          let six : command % 64 ≡ command = omega arith in
          let s : line_said p l ≡ quietly p l (Refused command reason place) 4 = quiet_said p l h g w refl ∙ ap (quietly p l (Refused command reason place)) (when_true _ _ _ t) in
          let x = ap (λ (y : Said). files_after y register) s ∙ is_filed (key_of command reason place) (quietly p l (Refused command reason place) 4) register refl in (
            called.0 ∙ (λ i. with_unfiled (s i) (x i).unfiled),
            called.1 ∙ d.picture,
            called.2 ∙ d.list,
            called.3 ∙ quiet_reply p l h g w refl ∙ when_true _ _ _ t ∙ ap (λ (n : ℕ). front (packet_bytes (192 + n) []) l.reply) six,
            called.4 ∙ (λ i. (x i).register),
          )

  -- 3: A done command is carried out on the body and replied; the cells whose drawing it altered are painted and listed, and
  -- nothing is filed.
  pub done_says : (command : ℕ) → r.answer ≡ Done command → (r ≡ performing p l command)
      × (picture' ≡ painted (shown_by p.body) (shown_by r.panel.body) l.font l.picture)
      × (list' ≡ front (changed (shown_by p.body) (shown_by r.panel.body) l.font) l.list)
      × (reply' ≡ reply_written (carried p.body (scan_packet p l)).reply l.reply)
      × (register' ≡ register)
  unfolding numbers_of is_done answer_in when◌then◌else◌
  done_says command a = go (sym answer_is ∙ a) (outcome p l)
    where
      Says : Type 0
      Says =
          (r ≡ performing p l command) × (picture' ≡ painted (shown_by p.body) (shown_by r.panel.body) l.font l.picture)
          × (list' ≡ front (changed (shown_by p.body) (shown_by r.panel.body) l.font) l.list)
          × (reply' ≡ reply_written (carried p.body (scan_packet p l)).reply l.reply)
          × (register' ≡ register)

      go : {b : Answer} → b ≡ Done command → Outcome p l b → Says
      go e (turned_away f h g) = let z : ◌≡◌ {A = ℕ} 0 1 = cc in absurd (omega arith)
      go e (waits q h g f) = let z : ◌≡◌ {A = ℕ} 0 1 = cc in absurd (omega arith)
      go e (finds q h g f b (strays k)) = let z : ◌≡◌ {A = ℕ} 0 1 = cc in absurd (omega arith)
      go e (finds q h g f b (refuses k v)) = let z : ◌≡◌ {A = ℕ} 0 1 = cc in absurd (omega arith)
      go e (finds q h g f b (does k v)) =
          let w : answer_in (scan_of p l).packet ≡ Done command = ap answer_in f ∙ sym b ∙ e in
          let y : line_done p l ≡ true = ap (λ (x : Heard). is_done x.answer) h ∙ ap is_done w in
          let c : body_after p l ≡ (carried p.body (scan_packet p l)).body =
          when_true (line_done p l) (carried p.body (line_heard p l).packet).body p.body y ∙ ap (λ (x : Heard). (carried p.body x.packet).body) h in
          let n : (line_said p l).reply ≡ reply_length (carried p.body (scan_packet p l)).reply l.reply =
          when_true (line_done p l) _ _ y ∙ ap (λ (x : Heard). reply_length (carried p.body x.packet).reply l.reply) h in
          let s : line_said p l ≡ performing p l command =
          (λ i. said_with (h i) (record { body = c i; reply = n i; listed = length (changed (shown_by p.body) (shown_by (c i)) l.font) }))
          ∙ ap (told p l) w in
          let u = said_as s refl in
          let t : body_after p l ≡ r.panel.body = sym (ap (λ (x : Said). x.panel.body) called.0) in (
            u.0,
            called.1 ∙ ap (λ (x : Body). painted (shown_by p.body) (shown_by x) l.font l.picture) t,
            called.2 ∙ ap (λ (x : Body). front (changed (shown_by p.body) (shown_by x) l.font) l.list) t,
            called.3 ∙ when_true (line_done p l) _ _ y ∙ ap (λ (x : Heard). reply_written (carried p.body x.packet).reply l.reply) h,
            u.1,
          )

  -- The bytes run through the checksum are at most 24 for each byte held before or taken.
  pub checked_bound : r.counts.checked ≤ 24 * (length (held p.line.hold) + r.counts.taken)
  checked_bound = rw called.0 (go (outcome p l))
    where
      Bound : Heard → Type 0
      Bound h = h.counts.checked ≤ 24 * (length (held p.line.hold) + h.counts.taken)

      scanned : Bound (heard_of p.line (scan_of p l) l.reply)
      scanned = framing.checked_bound p.line.hold l.piece (scan_of p l) refl

      go : {a : Answer} → Outcome p l a → Bound (line_heard p l)
      go (turned_away f h g) = rw h (omega arith)
      go (waits q h g f) = rw h scanned
      go (finds q h g f b k) = rw h scanned

  listed_is : r.listed ≡ length (altered p l)
  listed_is = ap (λ (s : Said). s.listed) called.0

  body_is : r.panel.body ≡ body_after p l
  body_is = ap (λ (s : Said). s.panel.body) called.0

  -- a cell is in the list as written if it is in the list as defined, and the other way round
  written_listed : (cell : ℕ) → ListedIn list' r.listed cell → Listed (shown_by p.body) (shown_by (body_after p l)) l.font cell
  written_listed cell o = (front_listed (altered p l) l.list cell).0 (rw (called.2, listed_is) at o)

  listed_written : (cell : ℕ) → Listed (shown_by p.body) (shown_by (body_after p l)) l.font cell → ListedIn list' r.listed cell
  listed_written cell o = rw (called.2, listed_is) ((front_listed (altered p l) l.list cell).1 o)

  -- a call is refused by number, and then leaves picture and list, or the picture has its size
  sized : {P : Type 0} → (length l.picture ≡ 640 → P) → (Left p l → P) → P
  unfolding is_done
  sized {P} f g = go (outcome p l)
    where
      go : {a : Answer} → Outcome p l a → P
      go (turned_away c h e) = g (left_alone p l (ap (λ (x : Heard). is_done x.answer) h))
      go (waits q h e n) = f (eqb-true _ _ q.1.1.0)
      go (finds q h e n b k) = f (eqb-true _ _ q.1.1.0)

  -- The list is rising, so that each cell stands in it once,
  pub list_rises : (i j : ℕ) → i < j → j < r.listed → get_or list' i 0 < get_or list' j 0
  list_rises i j h g =
      rw called.2 (front_rising (altered p l) l.list (listed_rises (shown_by p.body) (shown_by (body_after p l)) l.font) i j h (rw listed_is at g))

  -- and it holds exactly the cells, below 80, whose drawings before and after the call differ.
  pub list_is_the_change : (cell : ℕ) → ListedIn list' r.listed cell ↔ ((cell < 80) × (cell_drawn (shown_by p.body) l.font cell ≢ cell_drawn (shown_by r.panel.body) l.font cell))
  list_is_the_change cell =
      let before = shown_by p.body in
      let after = shown_by (body_after p l) in
      rw body_is (
        λ o. let k = written_listed cell o in let b = listed_inside before after l.font cell k in (b, (listed_differs before after l.font cell b).0 k),
        λ n. listed_written cell ((listed_differs before after l.font cell n.0).1 n.1),
      )

  -- The eight bytes of a listed cell are its new drawing, whatever picture was lent,
  pub listed_cells_are_drawn : (cell k : ℕ) → k < 8 → ListedIn list' r.listed cell → get_or picture' (place_of cell k) 0 ≡ get_or (cell_drawn (shown_by r.panel.body) l.font cell) k 0
  listed_cells_are_drawn cell k h o =
      sized (λ n. rw (body_is, called.1) (listed_drawn (shown_by p.body) (shown_by (body_after p l)) l.font l.picture cell k n h (written_listed cell o)))
      (λ d. absurd (omega (arith, rw d.none at (written_listed cell o).1)))

  -- bytes of cells that are not listed are as they came,
  pub no_other_byte : (cell k : ℕ) → cell < 80 → k < 8 → (ListedIn list' r.listed cell → ⊥) → get_or picture' (place_of cell k) 0 ≡ get_or l.picture (place_of cell k) 0
  no_other_byte cell k h g n =
      sized (λ e. rw called.1 (unlisted_kept (shown_by p.body) (shown_by (body_after p l)) l.font l.picture cell k e h g (λ o. n (listed_written cell o))))
      (λ d. ap (λ (x : List ℕ). get_or x (place_of cell k) 0) (called.1 ∙ d.picture))

  -- and so are those of the list behind its end.
  pub list_behind : (i : ℕ) → r.listed ≤ i → get_or list' i 0 ≡ get_or l.list i 0
  list_behind i h = rw called.2 (front_behind (altered p l) l.list i (rw listed_is at h))

  -- Bytes of the reply buffer behind the reply are as they came.
  pub reply_behind : (i : ℕ) → r.reply ≤ i → get_or reply' i 0 ≡ get_or l.reply i 0
  reply_behind i h = rw called.3 (either_behind i l.reply (line_done p l) _ _ _ _ (composed_behind l.reply _ _ i) (go (outcome p l)) (rw called.0 at h))
    where
      go : {a : Answer} → Outcome p l a → (line_heard p l).reply ≤ i → get_or (reply_heard p l) i 0 ≡ get_or l.reply i 0
      go (turned_away f h g) n = rw g refl
      go (waits q h g f) n = rw g (error_behind (answer_in (scan_of p l).packet) l.reply i (rw h at n))
      go (finds q h g f b k) n = rw g (error_behind (answer_in (scan_of p l).packet) l.reply i (rw h at n))

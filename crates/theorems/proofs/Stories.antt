-- Every story comes to the packets of its line, found without calls, and its other calls, played on the body.
use Prim.Native.Nat.{ℕ, ◌<◌, ◌≤◌}
use mathlib.Core.Path.{◌≡◌, refl, sym, ◌∙◌, ap}
use mathlib.Core.Bool.{Bool, true, false, true≢false}
use mathlib.Core.List.{List, [], ◌∷◌, ◌++◌, map}
use native.Mathlib.Omega.{arith}
use borrow.Author.Tests.{eq-eqb, ne_eqb, eqb-true, le-leb, leb-true}
use lib.ListN.{length, take, drop, replicate}
use lib.Seq.{take_at}
use Rattle.std.specs.Prelude.{Some, None, option_to_list}
use Rattle.lists.specs.Tests.{when◌then◌else◌, ◌=?◌}
use Rattle.lists.proofs.Laws.{when_true, when_false}
use Rattle.packets.specs.declared.Hold.{Hold}
use Rattle.packets.specs.declared.Packet.{Packet}
use Rattle.packets.specs.Packet.{content_of}
use Rattle.framing.specs.declared.Scanned.{Scanned}
use Rattle.framing.specs.declared.Counts.{Counts}
use Rattle.framing.specs.Line.{Tally, nothing_more, packets_in, counted, Calls}
use Rattle.framing.specs.Line as lines
use Rattle.framing.proofs.Theorems as framing
use Rattle.panel.specs.declared.Body.{Body}
use Rattle.panel.specs.declared.Line.{Line}
use Rattle.panel.specs.declared.Panel.{Panel}
use Rattle.panel.specs.State.{with_body, line_holding, line_unfiled}
use Rattle.filing.specs.Filing.{Files, filed_if}
use Rattle.filing.proofs.Theorems.{length-filed}
use Rattle.picture.specs.Repaint.{changed}
use Rattle.picture.proofs.Changes.{length-painted}
use Rattle.answers.specs.declared.Check.{Check}
use Rattle.answers.specs.declared.Answer.{Answer}
use Rattle.answers.specs.declared.Answer.TheVariants.{Waiting, Stray, Done, Refused, CallRefused}
use Rattle.answers.specs.declared.Said.{Said}
use Rattle.answers.specs.Answer.{check_number, numbers_of, is_done, filing_of}
use Rattle.answers.specs.Checks.{Test}
use Rattle.answers.proofs.Checks.{First, here, later, Pass, refused_from_ten}
use Rattle.listen.specs.declared.Heard.{Heard}
use Rattle.listen.specs.Reply.{answer_to, error_type, refused_length, refused_reply}
use Rattle.listen.specs.Listen.{answer_in, heard_of, heard_reply}
use Rattle.perform.specs.Commands.{carried}
use Rattle.perform.specs.Perform.{shown_by, reply_length, reply_written}
use Rattle.linecall.specs.Line.{Lent, lent, line_heard, line_done, body_after, altered, line_said, line_list, line_reply, files_after}
use Rattle.theorems.specs.Other.{Other, room_for, Answers}
use Rattle.theorems.specs.Run.{World, with_panel, files_of}
use Rattle.theorems.specs.Story.{Entry, packet, other, replied, listed, wrote, noted, LineHears, Others, none, one, Story, last, line, call, call_places}
use Rattle.theorems.proofs.Others.{by_row, alike, blanks}
use Rattle.theorems.proofs.Outcomes.{tests_of, scan_of, scan_packet, reply_heard, Answered, strays, does, refuses, Outcome, turned_away, waits, finds, outcome}
use Rattle.theorems.proofs.Runs.{InOrder, hears_in_order, hears_files, answers_in_order, lent_to, said_then, world_then, hears_then}
use Rattle.theorems.proofs.Played.{Item, found, made, bytes_in, composed_bytes, step_body, step_reply, entry_of, body_then, played, body_at_end, played_append, end_append, packets_among, found_among, same_played}

-- what is filed of the packets that a story tells of
abbrev pub filed_by : List Entry → Files → Files
filed_by [] f = f
filed_by (packet a _ _ ∷ entries) f = filed_by entries (filed_if (filing_of a) f)
filed_by (other _ _ _ ∷ entries) f = filed_by entries f

-- a packet is answered by another number than waiting's
not_waiting : {k : Packet} {a : Answer} → Answered k a → ((numbers_of a).number =? 1) ≡ false
unfolding numbers_of
not_waiting (strays h) = refl
not_waiting (does h v) = refl
not_waiting (refuses h v) = refl

-- the front of one buffer or another, by a test
either_taken : (t : Bool) (m n : ℕ) (a b c d : List ℕ) → take m a ≡ c → take n b ≡ d → take (when t then m else n) (when t then a else b) ≡ (when t then c else d)
unfolding when◌then◌else◌
either_taken true m n a b c d e f = e
either_taken false m n a b c d e f = f

-- a packet that is found: its reply and its cells are those of a body and the packet alone
module _ (p : Panel) (l : Lent) (h : line_heard p l ≡ heard_of p.line (scan_of p l) l.reply) (g : reply_heard p l ≡ heard_reply (scan_of p l) l.reply) (f : (scan_of p l).packet ≡ Some (scan_packet p l)) where
  abbrev k : Packet
  k = scan_packet p l

  answer_found : answer_in (scan_of p l).packet ≡ answer_to k
  unfolding answer_in
  answer_found = ap answer_in f

  done_found : line_done p l ≡ is_done (answer_to k)
  done_found = ap (λ (x : Heard). is_done x.answer) h ∙ ap is_done answer_found

  body_found : body_after p l ≡ step_body p.body k
  body_found = λ i. when done_found i then (carried p.body (h i).packet).body else p.body

  cells_found_lem : altered p l ≡ changed (shown_by p.body) (shown_by (step_body p.body k)) l.font
  cells_found_lem = ap (λ (b : Body). changed (shown_by p.body) (shown_by b) l.font) body_found

  reply_found : length l.reply ≡ 26 → take (line_said p l).reply (line_reply p l) ≡ step_reply p.body k
  unfolding refused_length refused_reply
  reply_found n =
      let c = (carried p.body k).reply in
      let error : take (refused_length (answer_to k) l.reply) (refused_reply (answer_to k) l.reply) ≡ (when (numbers_of (answer_to k)).number =? 4 then bytes_in (error_type (answer_to k)) [] else []) =
      either_taken ((numbers_of (answer_to k)).number =? 4) _ _ _ _ _ _ (composed_bytes l.reply (error_type (answer_to k)) [] n) refl in
      (λ i. take (when done_found i then reply_length (carried p.body (h i).packet).reply l.reply else (h i).reply) (when done_found i then reply_written (carried p.body (h i).packet).reply l.reply else g i))
      ∙ either_taken (is_done (answer_to k)) _ _ _ _ _ _ (composed_bytes l.reply c.kind (content_of c) n) (ap (λ (a : Answer). take (refused_length a l.reply) (refused_reply a l.reply)) answer_found ∙ error)

-- what is another line with some unfiled number is that line with its own
own_unfiled : {x : Line} (y : Line) {n : ℕ} → x ≡ line_unfiled y n → x ≡ line_unfiled y x.unfiled
own_unfiled y e = e ∙ ap (line_unfiled y) (sym (ap (λ (x : Line). x.unfiled) e))

-- a call on the line: its packet, if any, played
pub record Turn (font : List ℕ) (p : Panel) (s : Scanned) (r : Said) (list out : List ℕ) : Type 0 where
  pub entries : noted r list out ≡ played font p.body (map found (packets_in s))
  pub line : r.panel.line ≡ line_unfiled (line_holding p.line s.hold) r.panel.line.unfiled
  pub body : r.panel.body ≡ body_at_end font p.body (map found (packets_in s))
  pub counts : r.counts ≡ s.counts
  pub waits : r.answer ≡ Waiting → s.packet ≡ None
  pub silent : s.packet ≡ None → r.answer ≡ Waiting

module _ {font : List ℕ} {w : World} {piece : List ℕ} {r : Said} {list' out' : List ℕ} {v : World} (hears : LineHears font w piece r list' out' v) where
  abbrev p : Panel
  p = w.panel

  abbrev l : Lent
  l = lent piece w.picture font hears.list hears.out (length w.register)

  abbrev s : Scanned
  s = scan_of p l

  -- what the call says, but for what is filed
  said_by : r.answer ≡ (line_heard p l).answer
  said_by = ap (λ (x : Said). x.answer) hears.heard.called.0

  line_by : (line_heard p l).line ≡ line_holding p.line s.hold → r.panel.line ≡ line_unfiled (line_holding p.line s.hold) r.panel.line.unfiled
  line_by e = own_unfiled (line_holding p.line s.hold) (ap (λ (x : Said). x.panel.line) hears.heard.called.0 ∙ ap (λ (x : Line). line_unfiled x (files_after (line_said p l) w.register).unfiled) e)

  pub heard_turn : Turn font p s r list' out'
  unfolding noted numbers_of is_done answer_in
  heard_turn = go (outcome p l) said_by
    where
      go : {a : Answer} → Outcome p l a → r.answer ≡ a → Turn font p s r list' out'
      go (turned_away {c = c} f h g) e = absurd (omega (arith, hears.accepted, refused_from_ten c, ap (λ (x : Answer). (numbers_of x).number) e))
      go (waits q h g f) e =
          let none : packets_in s ≡ [] = ap option_to_list f in
          let d : line_done p l ≡ false = ap (λ (x : Heard). is_done x.answer) h ∙ ap is_done (ap answer_in f) in
          record {
            entries = rw none (when_true _ _ _ (ap (λ (x : Answer). (numbers_of x).number =? 1) e));
            line = line_by (ap (λ (x : Heard). x.line) h);
            body = rw none (ap (λ (x : Said). x.panel.body) hears.heard.called.0 ∙ when_false _ _ _ d);
            counts = ap (λ (x : Said). x.counts) hears.heard.called.0 ∙ ap (λ (x : Heard). x.counts) h;
            waits = λ _. f;
            silent = λ _. e;
          }
      go (finds q h g f b k) e =
          let one : packets_in s ≡ scan_packet p l ∷ [] = ap option_to_list f in
          let n : length hears.out ≡ 26 = eqb-true _ _ q.1.1.1.1.1.0 in
          let t : ((numbers_of r.answer).number =? 1) ≡ false = ap (λ (x : Answer). (numbers_of x).number =? 1) e ∙ not_waiting k in
          let replies : replied r out' ≡ step_reply p.body (scan_packet p l) =
          (λ i. take (hears.heard.called.0 i).reply (hears.heard.called.3 i)) ∙ reply_found p l h g f n in
          let lists : listed r list' ≡ changed (shown_by p.body) (shown_by (step_body p.body (scan_packet p l))) font =
          (λ i. take (hears.heard.called.0 i).listed (hears.heard.called.2 i)) ∙ take_at (altered p l) (drop (length (altered p l)) hears.list) (length (altered p l)) refl ∙ cells_found_lem p l h g f in
          record {
            entries = rw one (when_false _ _ _ t ∙ (λ i. packet ((e ∙ b) i) (replies i) (lists i) ∷ []));
            line = line_by (ap (λ (x : Heard). x.line) h);
            body = rw one (ap (λ (x : Said). x.panel.body) hears.heard.called.0 ∙ body_found p l h g f);
            counts = ap (λ (x : Said). x.counts) hears.heard.called.0 ∙ ap (λ (x : Heard). x.counts) h;
            waits = λ a. absurd (true≢false (sym (ap (λ (x : Answer). (numbers_of x).number =? 1) a) ∙ t));
            silent = λ z. let no : Some (scan_packet p l) ≡ None = sym f ∙ z in cc;
          }

  heard_passed : Pass (tests_of p l)
  unfolding numbers_of
  heard_passed = go (outcome p l) said_by
    where
      go : {a : Answer} → Outcome p l a → r.answer ≡ a → Pass (tests_of p l)
      go (turned_away {c = c} f h g) e = absurd (omega (arith, hears.accepted, refused_from_ten c, ap (λ (x : Answer). (numbers_of x).number) e))
      go (waits q h g f) e = q
      go (finds q h g f b k) e = q

  piece_fits : length piece ≤ 4096
  piece_fits = leb-true _ _ heard_passed.1.0

waiting_files : (a : Answer) → a ≡ Waiting → (f : Files) → filed_if (filing_of a) f ≡ f
unfolding filed_if
waiting_files a e f = rw e

-- what is noted of a call is filed as its answer says: where it waits, nothing is
filed_noted : (r : Said) (list out : List ℕ) (entries : List Entry) (f : Files) → filed_by (noted r list out ++ entries) f ≡ filed_by entries (filed_if (filing_of r.answer) f)
unfolding noted numbers_of filed_if when◌then◌else◌
filed_noted r list out entries f = go r.answer
  where
    note : Answer → Entry
    note a = packet a (replied r out) (listed r list)

    go : (a : Answer) → filed_by ((when (numbers_of a).number =? 1 then [] else note a ∷ []) ++ entries) f ≡ filed_by entries (filed_if (filing_of a) f)
    go Waiting = refl
    go (Stray command) = refl
    go (Done command) = refl
    go (Refused command reason place) = refl
    go (CallRefused c) = rw (ne_eqb (check_number c) 1 (λ (e : check_number c ≡ 1). absurd (omega (arith, refused_from_ten c))))

module _ {c : Other} {p : Panel} {out : List ℕ} {r : Said} {out' : List ℕ} (font : List ℕ) (n : length out ≡ room_for c) (m : Answers c p out r out') (h : InOrder p) where
  made_turn : (other c r.answer (wrote r out') ≡ entry_of font p.body (made c)) × (r.panel ≡ with_body p (body_then font p.body (made c)))
  made_turn =
      let a = alike c p out h.ranges n in
      let b = by_row m in
      (rw (b.0, b.1, a.answer, a.front), rw b.0 a.panel)

-- other calls, played
record PlayedOut (font : List ℕ) (p : Panel) (entries : List Entry) (q : Panel) : Type 0 where
  items : List Item
  no_packets : packets_among items ≡ []
  told : entries ≡ played font p.body items
  panel : q ≡ with_body p (body_at_end font p.body items)
  files : (f : Files) → filed_by entries f ≡ f
  in_order : InOrder q

others_played : (font : List ℕ) {p : Panel} {entries : List Entry} {q : Panel} → InOrder p → Others p entries q → PlayedOut font p entries q
others_played font h none = record { items = []; no_packets = refl; told = refl; panel = refl; files = λ f. refl; in_order = h }
others_played font h (one {c = c} n m others) =
    let t = made_turn font n m h in
    let i = others_played font (answers_in_order m h) others in
    record {
      items = made c ∷ i.items;
      no_packets = i.no_packets;
      told = let e = i.told ∙ ap (λ (x : Panel). played font x.body i.items) t.1 in cc (t.0, e);
      panel = i.panel ∙ ap (λ (x : Panel). with_body x (body_at_end font x.body i.items)) t.1;
      files = i.files;
      in_order = i.in_order;
    }

same_calls : {hold hold' : Hold} {bytes bytes' : List ℕ} {t : Tally} → hold ≡ hold' → bytes ≡ bytes' → Calls 4096 hold bytes t → Calls 4096 hold' bytes' t
same_calls e f c = rw (← e, ← f) c

-- a story, played: the packets are those of the line, and what is filed is filed of the packets told
pub record PlayedOn (font : List ℕ) (w : World) (bytes : List ℕ) (entries : List Entry) (v : World) : Type 0 where
  pub items : List Item
  pub tally : Tally
  pub calls : Calls 4096 w.panel.line.hold bytes tally
  pub packets : packets_among items ≡ tally.packets
  pub told : entries ≡ played font w.panel.body items
  pub line : v.panel.line ≡ line_unfiled (line_holding w.panel.line tally.hold) v.panel.line.unfiled
  pub body : v.panel.body ≡ body_at_end font w.panel.body items
  pub files : files_of v ≡ filed_by entries (files_of w)
  pub in_order : InOrder v.panel

pub story_played : {font : List ℕ} {w : World} {bytes : List ℕ} {entries : List Entry} {v : World} → InOrder w.panel → Story font w bytes entries v → PlayedOn font w bytes entries v
story_played {font} {w} {v = z} o (last {v = v} {bytes = bytes} {r = r} hears t a others) =
    let u = heard_turn hears in
    let s = s hears in
    let f = u.waits a in
    let e : packets_in s ≡ [] = ap option_to_list f in
    let b : v.panel.body ≡ w.panel.body = ap (λ (x : Panel). x.body) hears.heard.panel ∙ rw e at u.body in
    let i = others_played font (hears_in_order hears.heard o) others in
    record {
      items = i.items;
      tally = counted s (nothing_more s.hold);
      calls = lines.last (piece_fits hears) refl (sym (ap (λ (x : Counts). x.taken) u.counts) ∙ t) f;
      packets = rw e i.no_packets;
      told = i.told ∙ ap (λ (x : Body). played font x i.items) b;
      line = own_unfiled (line_holding w.panel.line s.hold) (ap (λ (x : Panel). x.line) i.panel ∙ ap (λ (x : Panel). x.line) hears.heard.panel ∙ u.line);
      body = ap (λ (x : Panel). x.body) i.panel ∙ ap (λ (x : Body). body_at_end font x i.items) b;
      files =
          ap (λ (x : Panel). record { register = v.register; unfiled = x.line.unfiled }) i.panel
          ∙ hears_files hears.heard ∙ waiting_files r.answer a (files_of w) ∙ sym (i.files (files_of w));
      in_order = i.in_order;
    }
story_played {font} {w} {v = z} o (line {u = v} piece more {r = r} {list'} {out'} {entries} hears story) =
    let u = heard_turn hears in
    let s = s hears in
    let i = story_played (hears_in_order hears.heard o) story in
    let g : v.panel.line.hold ≡ s.hold = ap (λ (x : Panel). x.line.hold) hears.heard.panel ∙ ap (λ (x : Line). x.hold) u.line in
    let c : Calls 4096 s.hold (drop s.counts.taken (piece ++ more)) i.tally =
    same_calls g (ap (λ (n : Counts). drop n.taken (piece ++ more)) u.counts) i.calls in
    let first = map found (packets_in s) in
    let b : v.panel.body ≡ body_at_end font w.panel.body first = ap (λ (x : Panel). x.body) hears.heard.panel ∙ u.body in
    record {
      items = first ++ i.items;
      tally = counted s i.tally;
      calls = lines.next piece more (piece_fits hears) refl c;
      packets = found_among (packets_in s) i.items ∙ rw i.packets;
      told =
          let e = i.told ∙ ap (λ (x : Body). played font x i.items) b in
          let a : noted r list' out' ++ entries ≡ played font w.panel.body first ++ played font (body_at_end font w.panel.body first) i.items = cc (u.entries, e) in
          a ∙ sym (played_append font w.panel.body first i.items);
      line = i.line ∙ ap (λ (x : Line). line_unfiled (line_holding x i.tally.hold) z.panel.line.unfiled) (ap (λ (x : Panel). x.line) hears.heard.panel ∙ u.line);
      body = i.body ∙ ap (λ (x : Body). body_at_end font x i.items) b ∙ sym (end_append font w.panel.body first i.items);
      files = i.files ∙ ap (filed_by entries) (hears_files hears.heard) ∙ sym (filed_noted r list' out' entries (files_of w));
      in_order = i.in_order;
    }
story_played {font} {w} {v = z} o (call {c = c} {entries = entries} n m story) =
    let t = made_turn font n m o in
    let i = story_played (answers_in_order m o) story in
    record {
      items = made c ∷ i.items;
      tally = i.tally;
      calls = same_calls (ap (λ (x : Panel). x.line.hold) t.1) refl i.calls;
      packets = i.packets;
      told = let e = i.told ∙ ap (λ (x : Panel). played font x.body i.items) t.1 in cc (t.0, e);
      line = i.line ∙ ap (λ (x : Panel). line_unfiled (line_holding x.line i.tally.hold) z.panel.line.unfiled) t.1;
      body = i.body ∙ ap (λ (x : Panel). body_at_end font x.body i.items) t.1;
      files = i.files ∙ ap (λ (x : Panel). filed_by entries (record { register = w.register; unfiled = x.line.unfiled })) t.1;
      in_order = i.in_order;
    }

pub same_story : {font : List ℕ} {w : World} {bytes : List ℕ} {entries entries' : List Entry} {v v' : World} → InOrder w.panel → Story font w bytes entries v → Story font w bytes entries' v'
    → call_places 0 entries ≡ call_places 0 entries' → (entries ≡ entries') × (v.panel ≡ v'.panel) × (v.register ≡ v'.register)
same_story {font} {w = w} {v = v} {v' = v'} h s s' e =
    let i = story_played h s in
    let j = story_played h s' in
    let t : i.tally ≡ j.tally = framing.cut_anywhere i.calls j.calls in
    let b = w.panel.body in
    let k : i.items ≡ j.items =
    same_played font b i.items j.items (i.packets ∙ ap (λ (x : Tally). x.packets) t ∙ sym j.packets) (rw (i.told, j.told) at e) in
    let same = i.told ∙ ap (played font b) k ∙ sym j.told in
    let files = i.files ∙ ap (λ (x : List Entry). filed_by x (files_of w)) same ∙ sym j.files in
    let line : v.panel.line ≡ v'.panel.line = i.line ∙ (λ n. line_unfiled (line_holding w.panel.line (t n).hold) (files n).unfiled) ∙ sym j.line in
    let body = i.body ∙ ap (body_at_end font b) k ∙ sym j.body in (
      same,
      λ n. record { line = line n; body = body n },
      λ n. (files n).register,
    )

-- where all checks pass, none fails
no_first : {tests : List Test} {c : Check} → Pass tests → First tests c → ⊥
no_first q (here e) = true≢false (sym q.0 ∙ e)
no_first q (later e f) = no_first q.1 f

-- a world that line calls with this font are not refused in
pub record Ready (font : List ℕ) (w : World) : Type 0 where
  pub panel : InOrder w.panel
  pub picture : length w.picture ≡ 640
  pub rows : length font ≡ 2048
  pub register : length w.register ≡ 64

module _ (font : List ℕ) (w : World) (ready : Ready font w) (piece : List ℕ) (fits : length piece ≤ 4096) where
  abbrev lends : Lent
  lends = lent_to font w piece (replicate 80 0) blanks

  let_pass : Pass (tests_of w.panel lends)
  let_pass =
      (ready.panel.ranges, (le-leb _ _ fits, (eq-eqb _ _ ready.picture, (eq-eqb _ _ ready.rows, (refl, (refl, (eq-eqb _ _ ready.register, tt)))))))

  abbrev says : Said
  says = said_then font w piece (replicate 80 0) blanks

  abbrev afterwards : World
  afterwards = world_then font w piece (replicate 80 0) blanks

  pub not_refused : (numbers_of (line_heard w.panel lends).answer).number < 10
  unfolding numbers_of
  not_refused = go (outcome w.panel lends)
    where
      go : {a : Answer} → Outcome w.panel lends a → (numbers_of a).number < 10
      go (turned_away f h g) = absurd (no_first let_pass f)
      go (waits q h g f) = omega arith
      go (finds q h g f b (strays k)) = omega arith
      go (finds q h g f b (does k v)) = omega arith
      go (finds q h g f b (refuses k v)) = omega arith

  lets_hear : LineHears font w piece says (line_list w.panel lends) (line_reply w.panel lends) afterwards
  lets_hear = record { list = replicate 80 0; out = blanks; heard = hears_then font w piece (replicate 80 0) blanks; accepted = not_refused }

  pub still_ready : Ready font afterwards
  still_ready =
      record {
        panel = hears_in_order lets_hear.heard ready.panel;
        picture = length-painted _ _ font w.picture ∙ ready.picture;
        rows = ready.rows;
        register = length-filed _ (record { register = w.register; unfiled = (line_said w.panel lends).panel.line.unfiled }) ∙ ready.register;
      }

-- the bytes left, from the world after a call
rest : {font : List ℕ} {w : World} {bytes bytes' : List ℕ} {entries : List Entry} {v : World} → bytes ≡ bytes' → Story font w bytes entries v → Story font w bytes' entries v
rest e s = rw e at s

-- calls on the line alone make a story
pub story_of : (font : List ℕ) {hold : Hold} {bytes : List ℕ} {t : Tally} → Calls 4096 hold bytes t → (w : World) → Ready font w → hold ≡ w.panel.line.hold
    → (entries : List Entry) × ((v : World) × Story font w bytes entries v)
story_of font (lines.last {bytes = bytes} {r = s} n e t f) w o h =
    let m = lets_hear font w o bytes n in
    let u = heard_turn m in
    let g : s ≡ scan_of w.panel (lends font w o bytes n) = rw h at e in
    let v = afterwards font w o bytes n in
    ([], (with_panel v v.panel, last m (ap (λ (x : Counts). x.taken) u.counts ∙ rw g at t) (u.silent (rw g at f)) none))
story_of font (lines.next piece more {r = s} n e c) w o h =
    let m = lets_hear font w o piece n in
    let u = heard_turn m in
    let g : s ≡ scan_of w.panel (lends font w o piece n) = rw h at e in
    let v = afterwards font w o piece n in
    let a : s.hold ≡ v.panel.line.hold = ap (λ (x : Scanned). x.hold) g ∙ sym (ap (λ (x : Line). x.hold) u.line) in
    let b : s.counts.taken ≡ (says font w o piece n).counts.taken = ap (λ (x : Scanned). x.counts.taken) g ∙ sym (ap (λ (x : Counts). x.taken) u.counts) in
    let i = story_of font c v (still_ready font w o piece n) a in
    (_, (i.1.0, line piece more m (rest (ap (λ (n : ℕ). drop n (piece ++ more)) b) i.1.1)))

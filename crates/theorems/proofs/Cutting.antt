-- A story of the library's calls is one of the panel's own, on what the bytes stand for, and tells the same.
use Prim.Native.Nat.{ℕ, suc, ◌+◌, ◌≤◌}
use mathlib.Core.Path.{◌≡◌, refl, sym, ◌∙◌, ap, subst}
use mathlib.Core.Bool.{Bool, true, false}
use mathlib.Core.List.{List, [], ◌∷◌, ◌++◌, map}
use native.Mathlib.Omega.{arith}
use lib.ListN.{length, take, drop, replicate}
use Rattle.lists.specs.Tests.{when◌then◌else◌, ◌=?◌}
use Rattle.packets.specs.declared.Hold.{Hold}
use Rattle.framing.specs.declared.Scanned.{Scanned}
use Rattle.framing.specs.declared.Counts.{Counts}
use Rattle.framing.specs.Line.{Tally, Calls}
use Rattle.framing.specs.Line as lines
use Rattle.panel.specs.declared.Line.{Line}
use Rattle.panel.specs.declared.Panel.{Panel}
use Rattle.answers.specs.declared.Answer.{Answer}
use Rattle.answers.specs.declared.Answer.TheVariants.{Waiting, Stray, Done, Refused, CallRefused}
use Rattle.answers.specs.declared.Said.{Said}
use Rattle.answers.specs.Answer.{numbers_of}
use Rattle.answers.proofs.Checks.{refused_from_ten}
use Rattle.registerbytes.specs.Register.{records_lent}
use Rattle.statebytes.specs.State.{on_state}
use Rattle.saidbytes.specs.Says.{number_of, bytes_said, no_state}
use Rattle.linebytes.specs.Line.{records_in, faults_after, state_after, line_filed}
use Rattle.linecall.specs.Line.{Lent, lent, line_said, line_picture, line_list, line_reply}
use Rattle.theorems.specs.Other.{Other, AnswersBytes}
use Rattle.theorems.specs.Run.{World, with_panel, with_register}
use Rattle.theorems.specs.Story as story
use Rattle.theorems.specs.Story.{Entry, replied, listed, wrote, Place, after, call_places}
use Rattle.theorems.specs.Library.{Kept, with_state, LineOn, StandsFor}
use Rattle.theorems.specs.Cuts as cuts
use Rattle.theorems.specs.Cuts.{answer_bytes, taken_in, wrote_in, Note, HearsBytes, Cut, places_in}
use Rattle.theorems.proofs.Others as others
use Rattle.theorems.proofs.Said.{numbers_in}
use Rattle.theorems.proofs.Outcomes.{scan_of}
use Rattle.theorems.proofs.Stories.{Turn, heard_turn, Ready, not_refused, still_ready}
use Rattle.theorems.proofs.Standing as standing
use Rattle.theorems.proofs.Registers.{RegisterStands, line_filed_lem}

-- what a story of the panel tells, as the library says it
abbrev pub note_of : Entry → Note
note_of (story.packet a reply cells) = cuts.packet (numbers_in a) reply cells
note_of (story.other c a reply) = cuts.other c (numbers_in a) reply

pub same_places : (n : ℕ) (entries : List Entry) → places_in n (map note_of entries) ≡ call_places n entries
same_places n [] = refl
same_places n (story.packet a reply cells ∷ entries) = same_places (suc n) entries
same_places n (story.other c a reply ∷ entries) = ap (λ (x : List Place). after n c ∷ x) (same_places n entries)

map_both : (xs ys : List Entry) → map note_of (xs ++ ys) ≡ map note_of xs ++ map note_of ys
map_both [] ys = refl
map_both (x ∷ xs) ys = ap (λ (z : List Note). note_of x ∷ z) (map_both xs ys)

-- only waiting is told by 1
is_waiting : (a : Answer) → (numbers_of a).number ≡ 1 → a ≡ Waiting
unfolding numbers_of
is_waiting Waiting e = refl
is_waiting (Stray command) e = absurd (omega arith)
is_waiting (Done command) e = absurd (omega arith)
is_waiting (Refused command reason place) e = absurd (omega arith)
is_waiting (CallRefused c) e = absurd (omega (arith, refused_from_ten c))

-- bytes and the world that they stand for, the register among it
pub record Standing (k : Kept) (w : World) : Type 0 where
  pub stands : StandsFor k w
  pub filed : RegisterStands k w

-- a world whose register is the records that the bytes are
lent_world : {k : Kept} {w : World} → RegisterStands k w → with_register w (records_lent k.faults) ≡ w
lent_world {k} {w} f = λ i. record { panel = w.panel; picture = w.picture; register = sym f.records i }

-- a line call
module _ (font : List ℕ) {k : Kept} {w : World} (s : Standing k w) {piece said list' out' : List ℕ} {l : Kept} (h : HearsBytes font k piece said list' out' l) where
  abbrev r : Said
  r = standing.r s.stands font h.called

  abbrev v : World
  v = standing.v s.stands font h.called

  abbrev list : List ℕ
  list = line_list w.panel (standing.o s.stands font h.called)

  abbrev out : List ℕ
  out = line_reply w.panel (standing.o s.stands font h.called)

  hears : story.LineHears font w piece r list out v
  hears =
      subst (λ (x : World). story.LineHears font x piece r list out v) (lent_world s.filed)
      record { list = h.list; out = h.out; heard = standing.heard s.stands font h.called; accepted = rw (standing.number_is s.stands font h.called) at h.accepted }

  then_stands : Standing l v
  then_stands = record { stands = standing.line_stands s.stands font h.called; filed = line_filed_lem font s.stands s.filed h.called }

  noted_is : map note_of (story.noted r list out) ≡ cuts.noted_in said list' out'
  unfolding story.noted cuts.noted_in when◌then◌else◌
  noted_is =
      let b = standing.said_is s.stands font h.called in
      go ((numbers_of r.answer).number =? 1) r.answer (replied r out) (listed r list)
      ∙ (λ i. when sym b.number i =? 1 then [] else cuts.packet (sym b.answer i) (take (sym b.reply i) (sym (standing.reply_is s.stands font h.called) i)) (take (sym b.listed i) (sym (standing.list_is s.stands font h.called) i)) ∷ [])
    where
      go : (b : Bool) (a : Answer) (reply cells : List ℕ) → map note_of (when b then [] else story.packet a reply cells ∷ []) ≡ when b then [] else cuts.packet (numbers_in a) reply cells ∷ []
      go true a reply cells = refl
      go false a reply cells = refl

-- another call: what the panel says of it, and that the library says the same
module _ {c : Other} {k : Kept} {w : World} (s : Standing k w) {out : List ℕ} {n : ℕ} {state' out' said : List ℕ} (m : AnswersBytes c k.state out n state' out' said) where
  abbrev says : Said
  says = others.said_by c w.panel out

  made_stands : Standing (with_state k state') (with_panel w says.panel)
  made_stands = record { stands = standing.other_stands s.stands m; filed = record { records = s.filed.records; small = s.filed.small } }

  made_note : cuts.other c (numbers_in says.answer) (wrote says (others.left_by c w.panel out)) ≡ cuts.other c (answer_bytes said) (wrote_in said out')
  made_note =
      let b = standing.other_said s.stands m in
      λ i. cuts.other c (sym b.answer i) (take (sym b.reply i + sym b.listed i) (sym (standing.other_reply s.stands m) i))

-- other calls, one after the other
others_alike : {k l : Kept} {notes : List Note} → cuts.OthersBytes k notes l → (w : World) → Standing k w
    → (entries : List Entry) × (q : Panel) × story.Others w.panel entries q × Standing l (with_panel w q) × (map note_of entries ≡ notes)
others_alike cuts.none w s = ([], w.panel, story.none, s, refl)
others_alike (cuts.one {c = c} {out = out} n m rest) w s =
    let y = others_alike rest (with_panel w (says s m).panel) (made_stands s m) in (
      story.other c (says s m).answer (wrote (says s m) (others.left_by c w.panel out)) ∷ y.0,
      y.1,
      story.one n (others.from_row c w.panel out) y.2,
      y.3,
      λ i. made_note s m i ∷ y.4 i,
    )

-- the whole story
pub as_a_story : {font : List ℕ} {k l : Kept} {bytes : List ℕ} {notes : List Note} → Cut font k bytes notes l → (w : World) → Standing k w
    → (entries : List Entry) × (v : World) × story.Story font w bytes entries v × Standing l v × (map note_of entries ≡ notes)
as_a_story {font} (cuts.last h all one rest) w s =
    let b = standing.said_is s.stands font h.called in
    let y = others_alike rest (v font s h) (then_stands font s h) in (
      y.0,
      with_panel (v font s h) y.1,
      story.last (hears font s h) (sym b.taken ∙ all) (is_waiting (r font s h).answer (sym b.number ∙ one)) y.2,
      y.3,
      y.4,
    )
as_a_story {font} (cuts.line piece rest h c) w s =
    let b = standing.said_is s.stands font h.called in
    let u = v font s h in
    let y = as_a_story c u (then_stands font s h) in
    let st = subst (λ (n : ℕ). story.Story font u (drop n (piece ++ rest)) y.0 y.1) b.taken y.2 in
    let noted = story.noted (r font s h) (list font s h) (out font s h) in (
      noted ++ y.0,
      y.1,
      story.line piece rest (hears font s h) st,
      y.3,
      map_both noted y.0 ∙ (λ i. noted_is font s h i ++ y.4 i),
    )
as_a_story (cuts.call {c = c} {out = out} n m rest) w s =
    let y = as_a_story rest (with_panel w (says s m).panel) (made_stands s m) in (
      story.other c (says s m).answer (wrote (says s m) (others.left_by c w.panel out)) ∷ y.0,
      y.1,
      story.call n (others.from_row c w.panel out) y.2,
      y.3,
      λ i. made_note s m i ∷ y.4 i,
    )

-- what a line call makes of any bytes
module _ (font : List ℕ) (k : Kept) (piece list out : List ℕ) where
  abbrev lends : Lent
  lends = lent piece k.picture font list out (records_in (length k.faults))

  abbrev pub number_then : ℕ
  number_then = on_state k.state 10 (λ p. number_of (line_said p lends))

  abbrev pub kept_then : Kept
  kept_then =
      record {
        state = on_state k.state k.state (λ p. state_after k.state (line_filed p lends k.faults));
        picture = on_state k.state k.picture (λ p. line_picture p lends);
        faults = on_state k.state k.faults (λ p. faults_after (line_said p lends).answer (line_said p lends).panel.line.unfiled k.faults);
      }

  abbrev pub list_then : List ℕ
  list_then = on_state k.state list (λ p. line_list p lends)

  abbrev pub reply_then : List ℕ
  reply_then = on_state k.state out (λ p. line_reply p lends)

  abbrev pub bytes_then : List ℕ
  bytes_then = on_state k.state no_state (λ p. bytes_said (line_said p lends))

  pub line_on : LineOn font k piece list out number_then kept_then list_then reply_then bytes_then
  line_on = record { number = refl; state = refl; picture = refl; list = refl; reply = refl; faults = refl; said = refl }

-- a line call on bytes that are ready for it
module _ (font : List ℕ) {k : Kept} {w : World} (s : Standing k w) (ready : Ready font (with_register w (records_lent k.faults))) (piece : List ℕ) (fits : length piece ≤ 4096) where
  abbrev m : LineOn font k piece (replicate 80 0) others.blanks (number_then font k piece (replicate 80 0) others.blanks) (kept_then font k piece (replicate 80 0) others.blanks) (list_then font k piece (replicate 80 0) others.blanks) (reply_then font k piece (replicate 80 0) others.blanks) (bytes_then font k piece (replicate 80 0) others.blanks)
  m = line_on font k piece (replicate 80 0) others.blanks

  abbrev l : Kept
  l = kept_then font k piece (replicate 80 0) others.blanks

  abbrev told : Said
  told = standing.r s.stands font m

  lets_hear : HearsBytes font k piece (bytes_then font k piece (replicate 80 0) others.blanks) (list_then font k piece (replicate 80 0) others.blanks) (reply_then font k piece (replicate 80 0) others.blanks) l
  lets_hear = record { list = replicate 80 0; out = others.blanks; number = number_then font k piece (replicate 80 0) others.blanks; called = m; accepted = rw (standing.number_is s.stands font m) (not_refused font (with_register w (records_lent k.faults)) ready piece fits) }

  turn : Turn font w.panel (scan_of w.panel (standing.o s.stands font m)) told (line_list w.panel (standing.o s.stands font m)) (line_reply w.panel (standing.o s.stands font m))
  turn =
      heard_turn {w = with_register w (records_lent k.faults)} {v = standing.v s.stands font m}
      record { list = replicate 80 0; out = others.blanks; heard = standing.heard s.stands font m; accepted = not_refused font (with_register w (records_lent k.faults)) ready piece fits }

  made_standing : Standing l (standing.v s.stands font m)
  made_standing = record { stands = standing.line_stands s.stands font m; filed = line_filed_lem font s.stands s.filed m }

  made_ready : Ready font (with_register (standing.v s.stands font m) (records_lent l.faults))
  made_ready = subst (Ready font) (sym (lent_world made_standing.filed)) (still_ready font (with_register w (records_lent k.faults)) ready piece fits)

-- calls on the line alone can be made over bytes, until all is taken and the number is 1
pub cut_of : (font : List ℕ) {hold : Hold} {bytes : List ℕ} {t : Tally} → Calls 4096 hold bytes t → (k : Kept) (w : World) → Standing k w → Ready font (with_register w (records_lent k.faults)) → hold ≡ w.panel.line.hold
    → (notes : List Note) × ((l : Kept) × Cut font k bytes notes l)
unfolding numbers_of
cut_of font (lines.last {bytes = bytes} {r = x} n e t f) k w s o h =
    let g : x ≡ scan_of w.panel (standing.o s.stands font (m font s o bytes n)) = rw h at e in
    let u = turn font s o bytes n in
    let b = standing.said_is s.stands font (m font s o bytes n) in
    let a = u.silent (rw g at f) in
    ([], (l font s o bytes n, cuts.last (lets_hear font s o bytes n) (b.taken ∙ ap (λ (y : Counts). y.taken) u.counts ∙ rw g at t) (b.number ∙ ap (λ (y : Answer). (numbers_of y).number) a) cuts.none))
cut_of font (lines.next piece more {r = x} n e c) k w s o h =
    let g : x ≡ scan_of w.panel (standing.o s.stands font (m font s o piece n)) = rw h at e in
    let u = turn font s o piece n in
    let b = standing.said_is s.stands font (m font s o piece n) in
    let v = standing.v s.stands font (m font s o piece n) in
    let d : x.hold ≡ v.panel.line.hold = ap (λ (y : Scanned). y.hold) g ∙ sym (ap (λ (y : Line). y.hold) u.line) in
    let z : x.counts.taken ≡ taken_in (bytes_then font k piece (replicate 80 0) others.blanks) = ap (λ (y : Scanned). y.counts.taken) g ∙ sym (ap (λ (y : Counts). y.taken) u.counts) ∙ sym b.taken in
    let i = cut_of font c (l font s o piece n) v (made_standing font s o piece n) (made_ready font s o piece n) d in
    (_, (i.1.0, cuts.line piece more (lets_hear font s o piece n) (subst (λ (y : ℕ). Cut font (l font s o piece n) (drop y (piece ++ more)) i.0 i.1.0) z i.1.1)))

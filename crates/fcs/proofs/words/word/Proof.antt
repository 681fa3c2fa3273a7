-- `word` meets its promise: the table's rule, and a walk of the MIR with one argument for all 256 arms of the match.
use mathlib.Core.Path.{◌≡◌, refl, sym, ap, subst}
use mathlib.Core.Bool.{Bool, true, false}
use mathlib.Core.List.{List, [], ◌∷◌}
use Prim.Native.Nat.{ℕ, zero, suc, ◌+◌, ◌-◌, ◌<◌, ◌≤◌, ◌^◌}
use native.Mathlib.Omega.{arith}
use seplogic.Ra.Ura.{Ura}
use base.Fraction.{full_share}
use lib.Dec.{ltb, leb, lt→ltb, le→leb}
use mir.Facts.{yes_and}
use mir.Syntax.{w8, w16, ty_int, place, copy, int, int_neg, int_big, Opd, assign, rv_opd, Body, seq, return, switch, Arms, arm, default}
use mir.Val.{Val, Fits, vint}
use base.Logic.{SProp, ent, emp, via, fst∗, guard_i}
use base.Fml.{ftrue, fat, froom, fdies}
use prog.Memory.{Memory}
use prog.Routine.{Routine}
use prog.Wp.{Env, Calls, Loops, Wp, WpFn, Tables, after_seq, at_return}
use types.Logic.{Logic}
use contract.Monad.{Fun}
use contract.Running.{tables, tables_of}
use types.Kit as Kit
use types.Kit.{Go, Item, Sq, runs, any_q, at_ret, ‵, ◌$◌, ◌∵◌, !, qed, by, move, drop, fjoin, suffices, frame, done}
use types.Run.{look, init, forget, stop, from, load, lit, neg_lit, of_opd, bin, un, assigns, assigns_last, first, OneOf, Cases, switches, exec, returns, enter, alloc1, alloc0, params1, pass1, pass0, free1, free0}
use types.Run as Run
use denote.Exit.{yes}
use denote.RattleType.{owns}
use denote.Laws.{Is}
use denote.Plain.{uint_Makes, uint_vals, uint_Tells}
use denote.Builtin.{u8, u16}
use denote.Steps.{owned, nothing}
use denote.Triple.Entry.{on_entry}
use denote.Triple.Spec.{Meets, triple_of}
use denote.Triple.Table.{entered}
use denote.Triple.Walked.{says, Stays, stay_none, walk_of, Goes-none, Walks, ends_at, walked, walk_Meets}
use sound.WpLaws.{WpFn-mono}
use Rattle.lists.specs.Tests.{when◌then◌else◌, ◌<?◌}
use Rattle.fcs.specs.Fcs.{after_bit, after_bits}
use Rattle.fcs.proofs.Steps.{bits_fit}
use Rattle.fcs.specs.contracts.words.word as word
use Rattle.fcs.specs.contracts.words.word.Key.{name as #word}
use Rattle.fcs.proofs.words.word.Statement as stated
use Rattle.fcs.proofs.words.word.Code as code
use Rattle.fcs.proofs.words.word.Code.Mir as written

-- how MIR writes a number of sixteen bits: one near 2 ^ 16 by what it lacks, and one near neither end as a big one
abbrev literal : (low high : Bool) → ℕ → Opd
literal true high w = int w16 w
literal false true w = int_neg w16 (2 ^ 16 - w)
literal false false w = int_big w16 w

abbrev near : ℕ → Bool
near n = n <? 1024

abbrev gives : ℕ → Body
gives w = assign (place 4 []) (rv_opd (literal (near w) (near (2 ^ 16 - w)) w))

-- n arms from number k on, by the rule of the table: the word of a number is eight steps on it
abbrev arms_from : ℕ → ℕ → Arms
arms_from zero k = default (gives 0)
arms_from (suc n) k = arm ((256 + k) ∷ []) (gives (after_bits 8 k)) (arms_from n (suc k))

-- The table's rule, for all its words: the checker computes the table of the polynomial, and the code's match is that.
rule : written.s-3 ≡ switch (copy (place 2 [])) (arms_from 256 0)
unfolding after_bit when◌then◌else◌
rule = refl

same_number : (i k : ℕ) → 256 + i ≡ 256 + k → i ≡ k
same_number i k e = omega arith

later_number : (i k : ℕ) → k ≤ i → (256 + i ≡ 256 + k → ⊥) → k < i
later_number i k most other = omega arith

abbrev stayed : Stays (word.ended).signature.params (word.ended).kept
stayed = (stay_none (λ _. u8) yes, tt)

abbrev ending : Body
ending = seq (assign (place 0 []) (rv_opd (copy (place 4 [])))) return

module _ {M : Type 1} {𝓤 : Ura M} (𝓛 : Logic 𝓤) (mem : Memory → SProp 𝓤) (run : Routine → Fun 𝓤) (i : ℕ) (fits : i < 2 ^ 8) where
  open 𝓛 use {H}

  abbrev Post : Val → SProp 𝓤
  Post = (walk_of 𝓛 word.ended stayed (word.clauses 𝓛 mem run)).post ((tt, tt, tt, (i, tt), (vint w8 i ∷ [], tt)), tt)

  exits : (w : ℕ) → w < 2 ^ 16 → w ≡ after_bits 8 i → ent 𝓤 (emp 𝓤) (Post (vint w16 w))
  exits w h e =
      qed 𝓛 [] ∵ suffices ! _ (ends_at 𝓛 word.ended stayed (word.clauses 𝓛 mem run) ((tt, tt, tt, (i, tt), (vint w8 i ∷ [], tt)), tt) (vint w16 w) w (tt, tt) (tt, tt)) $ says ! e $ nothing ! $ frame ! $
      owned ! u8 (Is u8) (uint_Makes 𝓛 w8) i _ (refl, fits) $
      nothing ! $ move ! (1 ∷ 0 ∷ []) $ fjoin ! $ frame ! $ owned ! u16 (Is u16) (uint_Makes 𝓛 w16) w _ (refl, h) $ done !

  module _ (C : Calls 𝓤 H) (Λ : Loops 𝓤 H) (l₀ l₁ l₂ l₃ l₄ : ℕ) where
    abbrev E : Env 𝓤 H
    E = (ty_int w16, l₀) ∷ (ty_int w8, l₁) ∷ (ty_int w16, l₂) ∷ (ty_int w16, l₃) ∷ (ty_int w16, l₄) ∷ []

    -- what the body goes on to behind the match
    abbrev Onward : Kit.Post 𝓤 H
    Onward = any_q (after_seq 𝓤 H (Wp 𝓤 H C Λ E ending (at_return 𝓤 H E Post)) (at_return 𝓤 H E Post))

    -- what is owned at the match, the word still without a value: locals 4 to 0, and each one's end
    abbrev Owned : List (Item 𝓤)
    Owned =
        ‵ (froom (ty_int w16) l₄ 0) ∷ ‵ (fdies (ty_int w16) l₄) ∷ ‵ (fat full_share (ty_int w16) l₃ 0 (vint w16 i)) ∷ ‵ (fdies (ty_int w16) l₃) ∷ ‵ (fat full_share (ty_int w16) l₂ 0 (vint w16 (256 + i))) ∷ ‵ (fdies (ty_int w16) l₂)
        ∷ ‵ (fat full_share (ty_int w8) l₁ 0 (vint w8 i)) ∷ ‵ (fdies (ty_int w8) l₁) ∷ ‵ (froom (ty_int w16) l₀ 0) ∷ ‵ (fdies (ty_int w16) l₀) ∷ []

    operand : (w : ℕ) → w < 2 ^ 16 → (low high : Bool) → Run.Opd Go 𝓛 Owned E (literal low high w) (vint w16 w)
    operand w h true high = lit ! (lt→ltb w (2 ^ 16) h)
    operand w h false true =
        let e : 2 ^ 16 - (2 ^ 16 - w) ≡ w = omega arith in
        subst (λ (v : ℕ). Run.Opd Go 𝓛 Owned E (int_neg w16 (2 ^ 16 - w)) (vint w16 v)) e (neg_lit ! (yes_and (ltb 0 (2 ^ 16 - w)) (leb (2 ^ 16 - w) (2 ^ 16)) (lt→ltb 0 (2 ^ 16 - w) (omega arith)) (le→leb (2 ^ 16 - w) (2 ^ 16) (omega arith))))
    operand w h false false = record { go = λ Kt k. via 𝓤 (Kt (vint w16 w)) k (guard_i 𝓤 (Fits w16 w) (Kt (vint w16 w)) (record { fits = h })) }

    -- an arm that gives the word of i: the word is copied to the result and returned
    runs_arm : (w : ℕ) → w < 2 ^ 16 → w ≡ after_bits 8 i → Sq 𝓛 Owned (runs C Λ E (gives w) Onward)
    runs_arm w h e =
        assigns_last ! (of_opd ! (operand w h (near w) (near (2 ^ 16 - w)))) (from ! (stop !)) (init ! 0 refl (tt, record { fits = h })) $
        exec ! C Λ E ending (at_ret E Post) $ assigns ! (of_opd ! (load ! (from ! (stop !)) (look ! 0 refl))) (from ! (stop !)) (init ! 8 refl (tt, record { fits = h })) $
        returns ! (look ! 8 refl) $ forget ! 0 refl $ forget ! 2 refl $ forget ! 4 refl $ forget ! 6 refl $ forget ! 8 refl $
        move ! (8 ∷ 9 ∷ []) $ free1 ! $ move ! (6 ∷ 7 ∷ []) $ free1 ! $ move ! (4 ∷ 5 ∷ []) $ free1 ! $ move ! (2 ∷ 3 ∷ []) $ free1 ! $ free1 ! $ free0 ! $ by ! (exits w h e)

    -- The rule carried to each word: the arms from number k on, where i is none of the numbers before.
    each_word : (n k : ℕ) → n + k ≡ 256 → (N : Type 0) → (N → k ≤ i) → Cases Go 𝓛 Owned C Λ E Onward N (arms_from n k) (256 + i)
    each_word zero k e N past = λ none. absurd (omega (arith, past none))
    each_word (suc n) k e N past = (
      λ same. runs_arm (after_bits 8 k) (bits_fit 8 k (omega arith)) (ap (after_bits 8) (sym (same_number i k same))),
      each_word n (suc k) (omega arith) (N × (OneOf ((256 + k) ∷ []) (256 + i) → ⊥)) (λ none. later_number i k (past none.0) none.1),
    )

  module _ (C : Calls 𝓤 H) (Λ : Loops 𝓤 H) where
    walk : ent 𝓤 (on_entry 𝓛 word.signature tt tt (i, tt) (vint w8 i ∷ [], tt)) (WpFn 𝓤 H C Λ code.function (vint w8 i ∷ []) Post)
    walk =
        qed 𝓛 (‵ ftrue ∷ ‵ (owns (u8 ∷ []) (i, tt) (vint w8 i ∷ [], tt)) ∷ []) ∵ drop ! $ drop ! $ enter ! C Λ code.function (vint w8 i ∷ []) _ $
        alloc1 ! (λ l₀. alloc1 ! (λ l₁. alloc1 ! (λ l₂. alloc1 ! (λ l₃. alloc1 ! (λ l₄. alloc0 ! $ params1 ! $ pass1 ! (init ! 6 refl (tt, record { fits = fits })) $ pass0 ! $
        assigns ! (un ! (load ! (from ! (stop !)) (look ! 6 refl)) (record { fits = omega arith })) (from ! (stop !)) (init ! 2 refl (tt, record { fits = omega arith })) $
        assigns ! (bin ! (lit ! tt) (load ! (from ! (stop !)) (look ! 2 refl)) (record { fits = omega arith })) (from ! (stop !)) (init ! 4 refl (tt, record { fits = omega arith })) $
        first ! $ subst (λ (b : Body). Sq 𝓛 (Owned C Λ l₀ l₁ l₂ l₃ l₄) (runs C Λ (E C Λ l₀ l₁ l₂ l₃ l₄) b (Onward C Λ l₀ l₁ l₂ l₃ l₄))) (sym rule)
        (switches ! (load ! (from ! (stop !)) (look ! 4 refl)) (each_word C Λ l₀ l₁ l₂ l₃ l₄ 256 0 refl (Unit {0}) (λ _. omega arith))))))))

module _ {M : Type 1} {𝓤 : Ura M} (𝓛 : Logic 𝓤) (mem : Memory → SProp 𝓤) (run : Routine → Fun 𝓤) (𝓣 : Tables 𝓤 𝓛.H) where
  open 𝓛 use {H}

  word_walks : Walks 𝓛 word.ended stayed (WpFn 𝓤 H 𝓣.C 𝓣.Λ code.function) (word.clauses 𝓛 mem run)
  word_walks = walked 𝓛 word.ended stayed (word.clauses 𝓛 mem run) (WpFn 𝓤 H 𝓣.C 𝓣.Λ code.function) (λ κs. (uint_vals w8, tt)) (λ κs. (uint_Tells w8, tt))
      (λ κs qs bounds a g are. via 𝓤 _ (fst∗ 𝓤 _ (emp 𝓤)) (walk 𝓛 mem run a.0 are.0.1 𝓣.C 𝓣.Λ))

  word_meets : Meets 𝓛 word.signature (WpFn 𝓤 H 𝓣.C 𝓣.Λ code.function) (word.spec 𝓛 mem run)
  word_meets = walk_Meets 𝓛 word.ended stayed (Goes-none 𝓛 0 (λ _. u8) yes (λ κs x f. refl), tt) (word.clauses 𝓛 mem run) (WpFn 𝓤 H 𝓣.C 𝓣.Λ code.function) (WpFn-mono 𝓤 H 𝓛.laws 𝓣 code.function) word_walks

pub word_spec : {M : Type 1} → stated.statement M
unfolding tables_of
word_spec 𝓤 𝓛 𝓜 𝓡 w =
    entered 𝓤 𝓛.H (triple_of 𝓛 word.signature (word.spec 𝓛 𝓜.mem 𝓡.run))
    (tables 𝓤 𝓛.H 𝓜 𝓡 𝓡.env).C (tables 𝓤 𝓛.H 𝓜 𝓡 𝓡.env).Λ #word code.function (code.unfolded 𝓤 𝓛.H 𝓜 𝓡 w)
    (word_meets 𝓛 𝓜.mem 𝓡.run (tables_of 𝓤 𝓛.H 𝓜 (tables 𝓤 𝓛.H 𝓜 𝓡 𝓡.env)))

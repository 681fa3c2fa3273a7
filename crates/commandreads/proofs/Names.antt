-- Every packet that the panel allows is a command's: some command is named, and its code and data are those of the packet.
use Prim.Native.Nat.{ℕ, ◌≤◌}
use mathlib.Core.Path.{◌≡◌, refl, sym, ap, subst}
use mathlib.Core.Logic.{dite}
use mathlib.Core.Bool.{Bool, true, false, ◌&&◌, and-eq-true_iff}
use mathlib.Core.List.{List, [], ◌∷◌, ◌++◌}
use native.Mathlib.Decide.{dec_le}
use native.Mathlib.Omega.{arith}
use lib.ListN.{length, drop, get_or}
use borrow.Author.Tests.{eqb-true, eq-eqb, ne_eqb, leb-true, le-leb}
use Rattle.std.specs.Prelude.{Option, Some, None, Ok}
use Rattle.lists.specs.Tests.{when◌then◌else◌, ◌≤?◌, ◌=?◌}
use Rattle.lists.proofs.Laws.{when_either}
use Rattle.table.specs.declared.Row.{Row}
use Rattle.table.specs.declared.Rule.TheVariants as rules
use Rattle.table.specs.Table.{TableRow, row, table, look_up}
use Rattle.verdict.specs.declared.Reason.TheVariants as reasons
use Rattle.verdict.specs.Verdict.{is_reboot, whole_verdict, refused, verdict_of}
use Rattle.verdict.proofs.Reasons.{Seen, together, see}
use Rattle.composer.proofs.Verdicts.{allowed_fits}
use Rattle.commands.specs.declared.Command.{Command}
use Rattle.commands.specs.Commands.{form_of, code_of, data_of, bytes_in}
use Rattle.commandreads.specs.Backwards.{has_form, candidates, first_with}

-- R, given what P says of each of a list: as many arguments as the list is long
abbrev Given : {A : Type 0} → (A → Type 0) → List A → Type 0 → Type 0
Given P [] R = R
Given P (x ∷ xs) R = P x → Given P xs R

goes_on : {A R S : Type 0} (P : A → Type 0) (xs : List A) → (R → S) → Given P xs R → Given P xs S
goes_on P [] f r = f r
goes_on P (x ∷ xs) f g = λ p. goes_on P xs f (g p)

-- what holds of each command of a list that has a code and so many data bytes holds of the one that is named
named_holds : (P : Command → Type 0) (code n : ℕ) (c : Command) (cs : List Command)
    → Given (λ c. has_form code n (form_of c) ≡ true → P c) cs (first_with code n cs ≡ Some c → P c)
unfolding first_with
named_holds P code n c [] = λ q. cc
named_holds P code n c (x ∷ xs) =
    λ here. goes_on (λ c. has_form code n (form_of c) ≡ true → P c) xs
    (λ later. when_either (λ (r : Option Command). r ≡ Some c → P c) (has_form code n (form_of x)) (Some x) (first_with code n xs) (λ t q. let same : x ≡ c = cc in rw same at (here t)) (λ _. later))
    (named_holds P code n c xs)

-- what holds of each row of a table holds of the row that a code has
abbrev OfRow : (ℕ → ℕ → ℕ → Type 0) → TableRow → Type 0
OfRow P (row code shortest longest rule) = P code shortest longest

row_holds : (P : ℕ → ℕ → ℕ → Type 0) (code : ℕ) (r : Row) (rows : List TableRow) → Given (OfRow P) rows (look_up code rows ≡ Some r → P code r.shortest r.longest)
unfolding look_up
row_holds P code r [] = λ k. cc
row_holds P code r (row c shortest longest rule ∷ rows) =
    λ here. goes_on (OfRow P) rows
    (λ later. when_either (λ (o : Option Row). o ≡ Some r → P code r.shortest r.longest) (code =? c) _ _
    (λ t k.
    let x : Row = record { shortest = shortest; longest = longest; rule = rule } in
    let same : c ≡ code = sym (eqb-true code c t) in
    let this : x ≡ r = let q : Some x ≡ Some r = k in cc in
    subst (λ (y : Row). P code y.shortest y.longest) this (rw same at here))
    (λ _. later))
    (row_holds P code r rows)

-- some command is named, whatever values it has
abbrev Named : Option Command → Type 0
Named (Some c) = Unit
Named None = ⊥

module _ (a b c : ℕ) where
  abbrev Names : ℕ → ℕ → ℕ → Type 0
  Names code shortest longest = (n : ℕ) → shortest ≤ n → n ≤ longest → Named (first_with code n (candidates a b c))

  some_command : (code : ℕ) (r : Row) → look_up code table ≡ Some r → Names code r.shortest r.longest
  unfolding first_with form_of when◌then◌else◌
  some_command code r =
      row_holds Names code r table
      (λ n s l. rw (le-leb 0 n s) tt)
      (λ n s l. rw (eq-eqb n 0 (omega arith)) tt)
      (λ n s l. rw (le-leb 0 n (omega arith)) tt)
      (λ n s l. rw (eq-eqb n 0 (omega arith)) tt)
      (λ n s l. rw (eq-eqb n 0 (omega arith)) tt)
      (λ n s l. rw (eq-eqb n 3 (omega arith)) tt)
      (λ n s l. rw (eq-eqb n 0 (omega arith)) tt)
      (λ n s l. rw (le-leb 1 n (omega arith)) tt)
      (λ n s l. rw (eq-eqb n 1 (omega arith)) tt)
      (λ n s l. rw (eq-eqb n 2 (omega arith)) tt)
      (λ n s l. rw (eq-eqb n 1 (omega arith)) tt)
      (λ n s l. rw (eq-eqb n 1 (omega arith)) tt)
      (λ n s l. rw (eq-eqb n 1 (omega arith)) tt)
      (λ n s l. rw (eq-eqb n 2 (omega arith)) tt)
      (λ n s l. rw (eq-eqb n 0 (omega arith)) tt)
      (λ n s l. rw (le-leb 2 n (omega arith)) tt)
      (λ n s l. dite (dec_le n 2) (λ h. rw (eq-eqb n 2 (omega arith)) tt) (λ h. rw (ne_eqb n 2 (λ e. h (omega arith)), eq-eqb n 3 (omega arith)) tt))
      (λ n s l. rw (eq-eqb n 1 (omega arith)) tt)

-- data spelled out, as many bytes as they are
spelled_0 : (d : List ℕ) → length d ≡ 0 → [] ≡ d
spelled_0 [] e = refl
spelled_0 (x ∷ d) e = absurd (omega arith)

begins : (d : List ℕ) → 1 ≤ length d → get_or d 0 0 ∷ drop 1 d ≡ d
begins [] h = absurd (omega arith)
begins (x ∷ d) h = refl

begins_2 : (d : List ℕ) → 2 ≤ length d → get_or d 0 0 ∷ get_or d 1 0 ∷ drop 2 d ≡ d
begins_2 [] h = absurd (omega arith)
begins_2 (x ∷ d) h = ap (λ (l : List ℕ). x ∷ l) (begins d (omega arith))

spelled_1 : (d : List ℕ) → length d ≡ 1 → get_or d 0 0 ∷ [] ≡ d
spelled_1 [] e = absurd (omega arith)
spelled_1 (x ∷ d) e = ap (λ (l : List ℕ). x ∷ l) (spelled_0 d (omega arith))

spelled_2 : (d : List ℕ) → length d ≡ 2 → get_or d 0 0 ∷ get_or d 1 0 ∷ [] ≡ d
spelled_2 [] e = absurd (omega arith)
spelled_2 (x ∷ d) e = ap (λ (l : List ℕ). x ∷ l) (spelled_1 d (omega arith))

spelled_3 : (d : List ℕ) → length d ≡ 3 → get_or d 0 0 ∷ get_or d 1 0 ∷ get_or d 2 0 ∷ [] ≡ d
spelled_3 [] e = absurd (omega arith)
spelled_3 (x ∷ d) e = ap (λ (l : List ℕ). x ∷ l) (spelled_2 d (omega arith))

-- The command that is named has the code and the data that it was named from, where the panel allows them.
module _ (code : ℕ) (d : List ℕ) (v : verdict_of code d ≡ Ok tt) where
  abbrev Stands : Command → Type 0
  Stands c = (code_of c ≡ code) × (data_of c (bytes_in c d) ≡ d)

  -- the three bytes of a reboot are those that it asks for
  rebooting : code ≡ 5 → 8 ∷ 18 ∷ 99 ∷ [] ≡ d
  unfolding look_up whole_verdict is_reboot when◌then◌else◌
  rebooting e = go (see (look_up 5 table) d _ (rw e at v))
    where
      told : (t : Bool) → when t then Ok tt else refused reasons.NotTheReboot 2 ≡ Ok tt → t ≡ true
      told true q = refl
      told false q = cc

      asked : Row
      asked = record { shortest = 3; longest = 3; rule = rules.Reboot }

      go : Seen (look_up 5 table) d (Ok tt) → 8 ∷ 18 ∷ 99 ∷ [] ≡ d
      go (together f h {v = x} q') =
          let same : f.row ≡ asked = let w : Some asked ≡ Some f.row = f.command in cc in
          let q : whole_verdict rules.Reboot d ≡ Ok tt = rw same at q' in
          let third = (and-eq-true_iff ((length d =? 3) && (get_or d 0 0 =? 8) && (get_or d 1 0 =? 18)) (get_or d 2 0 =? 99)).0 (told (is_reboot d) q) in
          let second = (and-eq-true_iff ((length d =? 3) && (get_or d 0 0 =? 8)) (get_or d 1 0 =? 18)).0 third.0 in
          let first = (and-eq-true_iff (length d =? 3) (get_or d 0 0 =? 8)).0 second.0 in
          rw (eqb-true (get_or d 0 0) 8 first.1, eqb-true (get_or d 1 0) 18 second.1, eqb-true (get_or d 2 0) 99 third.1) at (spelled_3 d (eqb-true (length d) 3 first.0))

  module _ (k : ℕ) where
    as_exactly : (values : List ℕ) → (length d ≡ length values → values ≡ d) → (code =? k) && (length d =? length values) ≡ true → (k ≡ code) × (values ≡ d)
    as_exactly values f t =
        let q = (and-eq-true_iff (code =? k) (length d =? length values)).0 t in
        (sym (eqb-true code k q.0), f (eqb-true (length d) (length values) q.1))

    as_followed : (values : List ℕ) → (length values ≤ length d → values ++ drop (length values) d ≡ d) → (code =? k) && (length values ≤? length d) ≡ true → (k ≡ code) × (values ++ drop (length values) d ≡ d)
    as_followed values f t =
        let q = (and-eq-true_iff (code =? k) (length values ≤? length d)).0 t in
        (sym (eqb-true code k q.0), f (leb-true (length values) (length d) q.1))

  abbrev found : Option Command
  found = first_with code (length d) (candidates (get_or d 0 0) (get_or d 1 0) (get_or d 2 0))

  named_stands : (c : Command) → found ≡ Some c → Stands c
  unfolding form_of
  named_stands c =
      named_holds Stands code (length d) c (candidates (get_or d 0 0) (get_or d 1 0) (get_or d 2 0))
      (as_followed 0 [] (λ _. refl))
      (as_exactly 1 [] (spelled_0 d))
      (as_followed 2 [] (λ _. refl))
      (as_exactly 3 [] (spelled_0 d))
      (as_exactly 4 [] (spelled_0 d))
      (λ t. let q = (and-eq-true_iff (code =? 5) (length d =? 3)).0 t in let e = eqb-true code 5 q.0 in (sym e, rebooting e))
      (as_exactly 6 [] (spelled_0 d))
      (as_followed 9 (get_or d 0 0 ∷ []) (begins d))
      (as_exactly 10 (get_or d 0 0 ∷ []) (spelled_1 d))
      (as_exactly 11 (get_or d 0 0 ∷ get_or d 1 0 ∷ []) (spelled_2 d))
      (as_exactly 12 (get_or d 0 0 ∷ []) (spelled_1 d))
      (as_exactly 13 (get_or d 0 0 ∷ []) (spelled_1 d))
      (as_exactly 14 (get_or d 0 0 ∷ []) (spelled_1 d))
      (as_exactly 23 (get_or d 0 0 ∷ get_or d 1 0 ∷ []) (spelled_2 d))
      (as_exactly 24 [] (spelled_0 d))
      (as_followed 31 (get_or d 0 0 ∷ get_or d 1 0 ∷ []) (begins_2 d))
      (as_exactly 34 (get_or d 0 0 ∷ get_or d 1 0 ∷ []) (spelled_2 d))
      (as_exactly 34 (get_or d 0 0 ∷ get_or d 1 0 ∷ get_or d 2 0 ∷ []) (spelled_3 d))
      (as_exactly 35 (get_or d 0 0 ∷ []) (spelled_1 d))

  pub named : (c : Command) × ((found ≡ Some c) × Stands c)
  named =
      let f = allowed_fits code d v in
      go found refl (some_command (get_or d 0 0) (get_or d 1 0) (get_or d 2 0) code f.row f.command (length d) f.enough f.few)
    where
      go : (r : Option Command) → found ≡ r → Named r → (c : Command) × ((found ≡ Some c) × Stands c)
      go (Some c) e s = (c, (e, named_stands c e))
      go None e s = absurd s

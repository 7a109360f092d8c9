-- The lines of a written formula, each read word by word: the `p` line, quantifier lines, clauses.
-- Assumes nothing.
use mathlib.Core.Path.{◌≡◌, refl}
use mathlib.Core.Bool.{Bool, true, false}
use mathlib.Core.List.{List, [], ◌∷◌, ◌++◌, append_assoc, append-nil}
use mathlib.Core.Option.{some}
use Prim.Native.Nat.{ℕ, ◌+◌, ◌*◌, ◌%◌, ◌≤◌, ◌<◌}
use Prim.Native.Char.{code}
use native.Mathlib.Omega.{arith}
use borrow.Author.Tests.{eqb-true, ne_eqb, le-ltb, leb-true}
use lib.Dec.{leb, eqb}
use lib.ListN.{length}
use lib.Seq.{append_snoc}
use Rattle.meaning.specs.Lists.{all_of}
use Rattle.meaning.specs.Formula.{plain, negated, var, odd, mentions}
use Rattle.meaning.specs.Tidy.{build}
use Rattle.meaning.specs.WellFormed.{bound, good_prefix, literals, max_variables, max_clauses, max_literals}
use Rattle.qdimacs.specs.Faults.{RANGE}
use Rattle.qdimacs.specs.Words.{variable_of, plain_of, literal_of}
use Rattle.qdimacs.specs.Decide.{on_p, on_cnf, on_m, on_c, on_variable, on_literal, on_line, decide}
use Rattle.qdimacs.specs.Read.{State, start, after_clause, passes_literals, act, move_of}
use Rattle.qdimacs.specs.Write.{decimal, letter, line_rest, prefix_lines, literal_text, clause_line, header}
use Rattle.qdimacs.specs.declared.Word.TheVariants.{P, Cnf, Plain}
use Rattle.qdimacs.specs.declared.Phase.{Phase}
use Rattle.qdimacs.specs.declared.Phase.TheVariants.{AtCnf, AtM, AtC, Line, Open, Vars, Clause}
use Rattle.qdimacs.specs.declared.Move.{Move}
use Rattle.qdimacs.specs.declared.Move.TheVariants.{Fault, Go}
use Rattle.meaning.proofs.Basics.{by_cases, and_l, and_r}
use Rattle.meaning.proofs.Literals.{odd_is, even_is, plain-is, negated-is}
use Rattle.meaning.proofs.Weight.{build-less}
use Rattle.meaning.proofs.Prefix.{good-next, mentioned-all, mentioned-some}
use Rattle.qdimacs.proofs.Tokens.{Takes, Leads, spaced, ended, leads-on, spells-plain, spells-zero, spells-p, spells-cnf, quantifier_word, literal_word, spells-letter, spells-literal}

abbrev pub mk : Phase → ℕ → ℕ → List ℕ → List (List ℕ) → List ℕ → State
mk ph m c p cs ls = record { phase = ph; m = m; c = c; prefix = p; clauses = cs; pending = ls }

-- The `p` line -----------------------------------------------------------------------------------------------
takes-p : Takes start P (mk AtCnf 0 0 [] [] [])
unfolding start act move_of decide on_p
takes-p = record { takes = λ i. refl }

takes-cnf : Takes (mk AtCnf 0 0 [] [] []) Cnf (mk AtM 0 0 [] [] [])
unfolding act move_of decide on_cnf
takes-cnf = record { takes = λ i. refl }

takes-m : (m : ℕ) → m ≤ max_variables → Takes (mk AtM 0 0 [] [] []) (Plain m) (mk AtC m 0 [] [] [])
unfolding act move_of decide on_m plain_of
takes-m m h = record { takes = λ i. rw (le-ltb max_variables m h) }

takes-c : (m c : ℕ) → c ≤ max_clauses → Takes (mk AtC m 0 [] [] []) (Plain c) (mk Line m c [] [] [])
unfolding act move_of decide on_c plain_of
takes-c m c h = record { takes = λ i. rw (le-ltb max_clauses c h) }

pub header_read : (m c : ℕ) (rest : List ℕ) → m ≤ max_variables → c ≤ max_clauses → Leads start (header m c rest) (mk Line m c [] [] []) rest
unfolding header
header_read m c rest h k =
    leads-on (spaced _ spells-p takes-p) (leads-on (spaced _ spells-cnf takes-cnf)
    (leads-on (spaced _ (spells-plain m) (takes-m m h)) (ended rest (spells-plain c) (takes-c m c k))))

-- Quantifier lines -------------------------------------------------------------------------------------------
module _ (m c : ℕ) where
  takes-letter : (p : List ℕ) (e : ℕ) → Takes (mk Line m c p [] []) (quantifier_word e) (mk (Open (e % 2)) m c p [] [])
  unfolding act move_of decide on_line quantifier_word
  takes-letter p e =
      by_cases (odd e)
      (λ o. rw (o, odd_is e o) (record { takes = λ i. refl }))
      (λ o. rw (o, even_is e o) (record { takes = λ i. refl }))

  takes-zero : (p : List ℕ) (q : ℕ) → Takes (mk (Vars q) m c p [] []) (Plain 0) (mk Line m c p [] [])
  unfolding act move_of decide on_variable plain_of
  takes-zero p q = record { takes = λ i. refl }

  -- a variable that may stand next in a line
  takes-entry : (p : List ℕ) (e : ℕ) (es : List ℕ) → good_prefix (p ++ (e ∷ es)) ≡ true → var e ≤ m → (ph : Phase) (z : Move)
      → ((b : Bool) (n : ℕ) → decide ph m c b (Plain n) ≡ on_variable (e % 2) m b z (some n))
      → Takes (mk ph m c p [] []) (Plain (var e)) (mk (Vars (e % 2)) m c (p ++ (e ∷ [])) [] [])
  unfolding act move_of on_variable variable_of
  takes-entry p e es g le ph z d =
      let r = good-next p e es g in
      let y : 2 * var e + e % 2 ≡ e = unfold var in omega arith in
      record { takes = λ i. rw (d (mentions p (var e)) (var e), ne_eqb (var e) 0 (omega arith), le-ltb m (var e) le, r.1, y) }

  -- a letter, a variable and the space after it
  opened-read : (p : List ℕ) (e : ℕ) (es rest : List ℕ) → good_prefix (p ++ (e ∷ es)) ≡ true → var e ≤ m
      → Leads (mk Line m c p [] []) (letter e ∷ code " " ∷ (decimal (var e) ++ (code " " ∷ rest))) (mk (Vars (e % 2)) m c (p ++ (e ∷ [])) [] []) rest
  unfolding decide plain_of
  opened-read p e es rest g le =
      leads-on (spaced _ (spells-letter e) (takes-letter p e)) (spaced rest (spells-plain (var e)) (takes-entry p e es g le (Open (e % 2)) (Fault RANGE) (λ b n. refl)))

  line_read : (es p : List ℕ) (q : ℕ) (rest : List ℕ) → good_prefix (p ++ es) ≡ true → all_of (λ e. leb (var e) m) es ≡ true
      → Leads (mk (Vars (q % 2)) m c p [] []) (line_rest q es ++ rest) (mk Line m c (p ++ es) [] []) rest
  unfolding line_rest all_of
  line_read [] p q rest g h = rw (append-nil p) (ended rest spells-zero (takes-zero p (q % 2)))
  line_read (e ∷ es) p q rest g h =
      rw (← append_snoc p e es)
      (leads-on step (line_read es (p ++ (e ∷ [])) e rest (rw (append_snoc p e es) g) (search and_r)))
    where
      le : var e ≤ m
      le = leb-true (var e) m (and_l (leb (var e) m) (all_of (λ e. leb (var e) m) es) h)

      step : Leads (mk (Vars (q % 2)) m c p [] []) (line_rest q (e ∷ es) ++ rest) (mk (Vars (e % 2)) m c (p ++ (e ∷ [])) [] []) (line_rest e es ++ rest)
      step =
          by_cases (eqb (q % 2) (e % 2))
          (λ z. rw (z, append_assoc (decimal (var e)) (code " " ∷ line_rest e es) rest)
          (spaced _ (spells-plain (var e)) (takes-entry p e es g le (Vars (q % 2)) (Go Line) (λ b n. unfold decide plain_of in rw (eqb-true (q % 2) (e % 2) z)))))
          (λ z. rw (z, append_assoc (decimal (var e)) (code " " ∷ line_rest e es) rest)
          (leads-on (ended _ spells-zero (takes-zero p (q % 2))) (opened-read p e es (line_rest e es ++ rest) g le)))

  pub prefix-read : (p rest : List ℕ) → good_prefix p ≡ true → all_of (λ e. leb (var e) m) p ≡ true
      → Leads (mk Line m c [] [] []) (prefix_lines p ++ rest) (mk Line m c p [] []) rest
  unfolding prefix_lines all_of
  prefix-read [] rest g h = record { leads = λ i. (i, refl) }
  prefix-read (e ∷ es) rest g h =
      rw (append_assoc (decimal (var e)) (code " " ∷ line_rest e es) rest)
      (leads-on (opened-read [] e es (line_rest e es ++ rest) g (leb-true (var e) m (search and_l))) (line_read es (e ∷ []) e rest g (search and_r)))

-- Clauses ----------------------------------------------------------------------------------------------------
-- a phase in which a number is judged as in a clause
unfoldable pub Starts : Phase → ℕ → Type 0
Starts ph c = (m : ℕ) (b : Bool) (l : ℕ) → decide ph m c b (literal_word l) ≡ on_literal m b (some l)

pub starts-clause : (c : ℕ) → Starts Clause c
unfolding Starts decide literal_word literal_of plain negated
starts-clause c m b l = by_cases (odd l) (λ o. rw (o, ← negated-is l o)) (λ o. rw (o, ← plain-is l o))

pub starts-line : (c : ℕ) → 0 < c → Starts Line c
unfolding Starts decide on_line literal_word plain negated
starts-line c h m b l =
    let z : eqb c 0 ≡ false = ne_eqb c 0 (omega arith) in
    by_cases (odd l) (λ o. rw (o, z, ← negated-is l o)) (λ o. rw (o, z, ← plain-is l o))

word-variable : (l : ℕ) → variable_of (literal_word l) ≡ var l
unfolding literal_word variable_of
word-variable l = by_cases (odd l) (λ o. rw o) (λ o. rw o)

module _ (m c : ℕ) (p : List ℕ) (good : good_prefix p ≡ true) (numbers : all_of (λ q. leb (var q) m) p ≡ true) where
  takes-literal : (ph : Phase) → Starts ph c → (cs : List (List ℕ)) (ls : List ℕ) (l : ℕ) → mentions p (var l) ≡ true
      → Takes (mk ph m c p cs ls) (literal_word l) (mk Clause m c p cs (ls ++ (l ∷ [])))
  unfolding act move_of on_literal Starts
  takes-literal ph starts cs ls l b =
      let v = mentioned-some p (var l) good b in
      let le = leb-true (var l) m (mentioned-all (λ v. leb v m) p (var l) numbers b) in
      record { takes = λ i. rw (word-variable l, starts m (mentions p (var l)) l, ne_eqb l 0 (unfold var in omega arith), le-ltb m (var l) le, b) }

  takes-close : (ph : Phase) → Starts ph c → (cs : List (List ℕ)) (ls : List ℕ) → literals (cs ++ (ls ∷ [])) ≤ max_literals
      → Takes (mk ph m c p cs ls) (Plain 0) (mk (after_clause (length cs + 1) c) m c p (cs ++ (ls ∷ [])) [])
  unfolding act move_of on_literal Starts literal_word odd var variable_of
  takes-close ph starts cs ls h =
      let room : passes_literals p (cs ++ (ls ∷ [])) ≡ false = unfold passes_literals in le-ltb _ (literals (build p (cs ++ (ls ∷ [])))) (omega (arith, (build-less p (cs ++ (ls ∷ []))).1)) in
      record { takes = λ i. rw (starts m (mentions p 0) 0, room) }

  pub clause-read : (d : List ℕ) (ph : Phase) → Starts ph c → (cs : List (List ℕ)) (ls rest : List ℕ) → bound p d ≡ true
      → literals (cs ++ ((ls ++ d) ∷ [])) ≤ max_literals
      → Leads (mk ph m c p cs ls) (clause_line d ++ rest) (mk (after_clause (length cs + 1) c) m c p (cs ++ ((ls ++ d) ∷ [])) []) rest
  unfolding clause_line bound all_of
  clause-read [] ph starts cs ls rest b h =
      rw (append-nil ls) (ended rest spells-zero (takes-close ph starts cs ls (rw (append-nil ls) at h)))
  clause-read (l ∷ d) ph starts cs ls rest b h =
      let k : mentions p (var l) ≡ true = search and_l in
      rw (append_assoc (literal_text l) (code " " ∷ clause_line d) rest, ← append_snoc ls l d)
      (leads-on (spaced _ (spells-literal l (mentioned-some p (var l) good k)) (takes-literal ph starts cs ls l k))
      (clause-read d Clause (starts-clause c) cs (ls ++ (l ∷ [])) rest (search and_r) (rw (append_snoc ls l d) h)))

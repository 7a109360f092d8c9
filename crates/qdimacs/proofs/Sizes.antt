-- What is written of a formula within the limits is at most 62,463 bytes: it may be read.
-- Assumes nothing.
use mathlib.Core.Path.{◌≡◌, ap}
use mathlib.Core.Bool.{Bool, true}
use mathlib.Core.List.{List, [], ◌∷◌, ◌++◌}
use Prim.Native.Nat.{ℕ, suc, ◌+◌, ◌*◌, ◌/◌, ◌%◌, ◌≤◌, ◌<◌}
use Prim.Native.Char.{code}
use native.Mathlib.Omega.{arith}
use borrow.Author.Tests.{ltb-true, ltb-false, leb-true}
use lib.Dec.{leb, ltb, eqb}
use lib.ListN.{length, length-append}
use Rattle.meaning.specs.Lists.{all_of}
use Rattle.meaning.specs.Formula.{Formula, var, odd}
use Rattle.meaning.specs.WellFormed.{bound, well_formed, literals, fits, max_variables, max_text}
use Rattle.qdimacs.specs.Write.{decimal, largest, line_rest, prefix_lines, literal_text, clause_line, clause_lines, header, write}
use Rattle.meaning.proofs.Basics.{by_cases, and_l, and_r}
use Rattle.meaning.proofs.Lists.{all-le}
use Rattle.meaning.proofs.Parts.{bound_all, room_of}
use Rattle.meaning.proofs.Prefix.{bound-numbers}
use Rattle.qdimacs.proofs.Words.{decimal-short, decimal-long}

-- numbers within the limits: a numeral of at most four digits
size-next : (b j : ℕ) → ((n : ℕ) → n < b → length (decimal n) ≤ j) → 1 ≤ j → (n : ℕ) → n < 10 * b → length (decimal n) ≤ suc j
size-next b j h k n l =
    by_cases (ltb n 10)
    (λ e. omega (arith, ap length (decimal-short n (ltb-true n 10 e))))
    (λ e. let g = ltb-false n 10 e in omega (arith, ap length (decimal-long n g), length-append (decimal (n / 10)) ((code "0" + n % 10) ∷ []), h (n / 10) (omega arith)))

pub decimal-four : (n : ℕ) → n < 10000 → length (decimal n) ≤ 4
decimal-four =
    size-next 1000 3 (size-next 100 2 (size-next 10 1 (λ n h. omega (arith, ap length (decimal-short n h))) (omega arith)) (omega arith)) (omega arith)

abbrev small : ℕ → Bool
small l = leb (var l) max_variables

small-four : (l : ℕ) → small l ≡ true → length (decimal (var l)) ≤ 4
small-four l h = decimal-four (var l) (omega (arith, leb-true (var l) max_variables h))

literal-five : (l : ℕ) → small l ≡ true → length (literal_text l) ≤ 5
unfolding literal_text
literal-five l h = by_cases (odd l) (λ e. rw e (omega (arith, small-four l h))) (λ e. rw e (omega (arith, small-four l h)))

-- clauses
clause-size : (c : List ℕ) → all_of small c ≡ true → length (clause_line c) ≤ 6 * length c + 2
unfolding clause_line all_of
clause-size [] h = omega arith
clause-size (l ∷ ls) h =
    omega (arith, length-append (literal_text l) (code " " ∷ clause_line ls), literal-five l (search and_l), clause-size ls (search and_r))

clauses-size : (cs : List (List ℕ)) → all_of (all_of small) cs ≡ true → length (clause_lines cs) ≤ 6 * literals cs + 2 * length cs
unfolding clause_lines all_of literals
clauses-size [] h = omega arith
clauses-size (c ∷ cs) h =
    omega (arith, length-append (clause_line c) (clause_lines cs), clause-size c (search and_l), clauses-size cs (search and_r))

-- quantifier lines: an entry with a line of its own has the line's letter, blank, 0 and LF
rest-size : (q : ℕ) (es : List ℕ) → all_of small es ≡ true → length (line_rest q es) ≤ 9 * length es + 2
unfolding line_rest all_of
rest-size q [] h = omega arith
rest-size q (e ∷ es) h =
    let n = rest-size e es (search and_r) in
    let d = small-four e (search and_l) in
    let l = length-append (decimal (var e)) (code " " ∷ line_rest e es) in
    by_cases (eqb (q % 2) (e % 2)) (λ z. rw z (omega arith)) (λ z. rw z (omega arith))

prefix-size : (p : List ℕ) → all_of small p ≡ true → length (prefix_lines p) ≤ 9 * length p
unfolding prefix_lines all_of
prefix-size [] h = omega arith
prefix-size (e ∷ es) h = omega (arith, length-append (decimal (var e)) (code " " ∷ line_rest e es), small-four e (search and_l), rest-size e es (search and_r))

pub largest-small : (m : ℕ) (p : List ℕ) → all_of (λ q. leb (var q) m) p ≡ true → largest p ≤ m
unfolding largest all_of
largest-small m [] h = omega arith
largest-small m (e ∷ es) h = omega (arith, leb-true (var e) m (search and_l), largest-small m es (search and_r))

-- the whole text
pub write-size : (φ : Formula) → well_formed φ ≡ true → fits φ ≡ true → length (write φ) ≤ 62463
unfolding write header
write-size φ w f =
    let r = room_of φ f in
    omega (
      arith,
      length-append (decimal (largest φ.prefix)) (code " " ∷ (decimal (length φ.clauses) ++ (code "\n" ∷ (prefix_lines φ.prefix ++ clause_lines φ.clauses)))),
      length-append (decimal (length φ.clauses)) (code "\n" ∷ (prefix_lines φ.prefix ++ clause_lines φ.clauses)),
      length-append (prefix_lines φ.prefix) (clause_lines φ.clauses),
      decimal-four (largest φ.prefix) (omega (arith, largest-small max_variables φ.prefix r.numbers)),
      decimal-four (length φ.clauses) (omega arith),
      prefix-size φ.prefix r.numbers,
      clauses-size φ.clauses (all-le (bound φ.prefix) (all_of small) φ.clauses (λ c. bound-numbers (λ v. leb v max_variables) φ.prefix c r.numbers) (bound_all φ w)),
    )

pub write-short : (φ : Formula) → well_formed φ ≡ true → fits φ ≡ true → length (write φ) ≤ max_text
write-short φ w f = omega (arith, write-size φ w f)

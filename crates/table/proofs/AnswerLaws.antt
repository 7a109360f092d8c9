-- The answers of the functions that add to a table, and what a caller learns from them.
-- Assumes nothing.
use Prim.Native.Nat.{ℕ, ◌+◌, ◌-◌, ◌/◌, ◌≤◌, ◌<◌}
use mathlib.Core.Path.{◌≡◌, sym, ap, ◌∙◌}
use mathlib.Core.Bool.{Bool, true, false, ◌&&◌}
use mathlib.Core.List.{List, [], ◌∷◌, ◌++◌}
use lib.ListN.{length, take, drop, set, length-append}
use lib.Dec.{leb}
use borrow.Author.Tests.{le-leb, leb-true}
use borrow.Rule.Slice.PartMut.{put_mid}
use native.Mathlib.Omega.{arith}
use Rattle.meaning.specs.Lists.{all_of, any_of, same}
use Rattle.meaning.specs.Formula.{Formula, var}
use Rattle.meaning.specs.Tidy.{add_tidied}
use Rattle.meaning.specs.WellFormed.{literals, fits}
use Rattle.table.specs.Table.{table_of, counts_of, clause_more, variable_more, with_clause, with_new_clause, with_variable, Holds}
use Rattle.table.specs.Answer.{Became}
use Rattle.table.specs.declared.Counts.{Counts}
use Rattle.std.specs.Prelude.{Option, Some, None}
use Rattle.meaning.proofs.Basics.{by_cases, false_of, and_l, and_r}
use Rattle.meaning.proofs.Lists.{all_append, all_snoc}
use Rattle.meaning.proofs.Parts.{Room, room_of, of_room}
use Rattle.table.proofs.ListLaws.{tail_written}
use Rattle.table.proofs.PadLaws.{literals-snoc}
use Rattle.table.proofs.TableLaws.{table-pushed, table-variable}
use Rattle.table.proofs.HoldLaws.{room, count-variables, count-clauses, count-literals, second_is, counts-second}

-- To give an answer -------------------------------------------------------------------------------------------
pub granted : (φ ψ : Formula) (second : Bool) (d : Counts) (t : List ℕ) → fits ψ ≡ true → d ≡ counts_of ψ second → t ≡ table_of ψ → Became φ ψ second (Some d) t
granted φ ψ second d t f e q = record { answer = rw f (ap Some e); table = rw f q }

pub refused : (φ ψ : Formula) (second : Bool) (t : List ℕ) → fits ψ ≡ false → t ≡ table_of φ → Became φ ψ second None t
refused φ ψ second t f q = record { answer = rw f; table = rw f q }

-- what was to be is there already
pub unchanged : {φ : Formula} {t : List ℕ} {c : Counts} → Holds φ t c → (ψ : Formula) → ψ ≡ φ → Became φ ψ c.second (Some c) t
unchanged {φ} {t} {c} h ψ e = rw e (granted φ φ c.second c t h.fitting h.counts h.table)

-- To use an answer --------------------------------------------------------------------------------------------
module _ (φ ψ : Formula) (second : Bool) (r : Option Counts) (t : List ℕ) (b : Became φ ψ second r t) where
  -- counts: the formula that was to come fits, and is there
  module _ (d : Counts) (e : r ≡ Some d) where
    pub became-fits : fits ψ ≡ true
    became-fits =
        by_cases (fits ψ) (λ q. q)
        (λ q. let p : Some d ≡ None = sym e ∙ b.answer ∙ rw q in let z : ◌≡◌ {A = ℕ} 0 1 = cc in absurd (omega arith))

    counted : d ≡ counts_of ψ second
    counted =
        let p : Some d ≡ Some (counts_of ψ second) = sym e ∙ b.answer ∙ rw became-fits in
        cc

    pub became-done : Holds ψ t d
    became-done = record { table = b.table ∙ rw became-fits; counts = second_is ψ second d counted; fitting = became-fits }

    pub became-second : d.second ≡ second
    became-second = counts-second ψ second d counted

  -- no counts: it does not fit, and what was there is there
  module _ (e : r ≡ None) where
    pub became-full : fits ψ ≡ false
    became-full =
        by_cases (fits ψ)
        (λ q. let p : None ≡ Some (counts_of ψ second) = sym e ∙ b.answer ∙ rw q in let z : ◌≡◌ {A = ℕ} 0 1 = cc in absurd (omega arith))
        (λ q. q)

    pub became-left : t ≡ table_of φ
    became-left = b.table ∙ rw became-full

-- A clause more -----------------------------------------------------------------------------------------------
pub pushed-clauses : (φ : Formula) (s : List ℕ) → length (with_clause φ s).clauses ≡ length φ.clauses + 1
unfolding with_clause
pushed-clauses φ s = length-append φ.clauses (s ∷ [])

pub pushed-literals : (φ : Formula) (s : List ℕ) → literals (with_clause φ s).clauses ≡ literals φ.clauses + length s
unfolding with_clause
pushed-literals φ s = literals-snoc φ.clauses s

push-fits : (φ : Formula) (s : List ℕ) → Room φ → length φ.clauses < 2047 → literals φ.clauses + length s ≤ 8191 → fits (with_clause φ s) ≡ true
push-fits φ s f h k =
    of_room (with_clause φ s)
    (record { variables = unfold with_clause in f.variables; numbers = unfold with_clause in f.numbers; clauses = omega (arith, pushed-clauses φ s); literals = omega (arith, pushed-literals φ s) })

push-counts : (φ : Formula) (s : List ℕ) (b : Bool) → clause_more (counts_of φ b) (length s) ≡ counts_of (with_clause φ s) b
unfolding counts_of with_clause
push-counts φ s b = rw (pushed-clauses φ s, pushed-literals φ s)

-- A variable more ---------------------------------------------------------------------------------------------
pub variables-more : (φ : Formula) (q : ℕ) → length (with_variable φ q).prefix ≡ length φ.prefix + 1
unfolding with_variable
variables-more φ q = length-append φ.prefix (q ∷ [])

small : (q : ℕ) → q ≤ 2047 → leb (var q) 1023 ≡ true
unfolding var
small q h = le-leb (q / 2) 1023 (omega arith)

small-back : (q : ℕ) → leb (var q) 1023 ≡ true → q ≤ 2047
unfolding var
small-back q h = let k : q / 2 ≤ 1023 = leb-true (q / 2) 1023 h in omega arith

variable-fits : (φ : Formula) (q : ℕ) → Room φ → length φ.prefix < 1023 → q ≤ 2047 → fits (with_variable φ q) ≡ true
variable-fits φ q f h k =
    of_room (with_variable φ q)
    (record { variables = omega (arith, variables-more φ q); numbers = unfold with_variable in all_snoc (λ q. leb (var q) 1023) φ.prefix q f.numbers (small q k); clauses = unfold with_variable in f.clauses; literals = unfold with_variable in f.literals })

variable-in-range : (φ : Formula) (q : ℕ) → Room (with_variable φ q) → q ≤ 2047
unfolding with_variable all_of
variable-in-range φ q f =
    let h = and_r (all_of (λ q. leb (var q) 1023) φ.prefix) (leb (var q) 1023 && true) (sym (all_append (λ q. leb (var q) 1023) φ.prefix (q ∷ [])) ∙ f.numbers) in
    small-back q (and_l (leb (var q) 1023) true h)

variable-counts : (φ : Formula) (q : ℕ) (b : Bool) → variable_more (counts_of φ b) ≡ counts_of (with_variable φ q) b
unfolding counts_of with_variable
variable-counts φ q b = rw (length-append φ.prefix (q ∷ []))

-- The needs of the code ---------------------------------------------------------------------------------------
module _ {φ : Formula} {t : List ℕ} {c : Counts} (h : Holds φ t c) where
  -- a clause that does not fit
  pub full-clauses : (s : List ℕ) → 2047 ≤ c.clauses → Became φ (with_clause φ s) c.second None t
  full-clauses s k =
      refused φ (with_clause φ s) c.second t
      (false_of (fits (with_clause φ s)) (λ f. omega (arith, (room_of (with_clause φ s) f).clauses, pushed-clauses φ s, count-clauses h)))
      h.table

  pub full-literals : (s : List ℕ) → 8191 - c.literals < length s → Became φ (with_clause φ s) c.second None t
  full-literals s k =
      refused φ (with_clause φ s) c.second t
      (false_of (fits (with_clause φ s)) (λ f. omega (arith, (room_of (with_clause φ s) f).literals, pushed-literals φ s, count-literals h)))
      h.table

  -- a clause that fits: t₁ is the table after the first store, r the counts
  done : (s t₁ : List ℕ) (r : Counts) → c.clauses < 2047 → c.literals + length s ≤ 8191
      → t₁ ≡ take (3070 + c.literals) t ++ (s ++ drop (length s) (drop (3070 + c.literals) t))
      → r ≡ clause_more c (length s)
      → Became φ (with_clause φ s) c.second (Some r) (set t₁ (1023 + c.clauses) (c.literals + length s))
  done s t₁ r k l e q =
      let more : length φ.clauses < 2047 = omega (arith, count-clauses h) in
      granted φ (with_clause φ s) c.second r (set t₁ (1023 + c.clauses) (c.literals + length s))
      (push-fits φ s (room h) more (omega (arith, count-literals h)))
      (q ∙ ap (λ (d : Counts). clause_more d (length s)) h.counts ∙ push-counts φ s c.second)
      (rw (e, h.table, count-clauses h, count-literals h) (table-pushed φ (room h) s more))

  -- the same as the code has it: the tail was lent to a call, and came back as ys
  pub done-lent : (s ys : List ℕ) (r : Counts) → c.clauses < 2047 → c.literals + length s ≤ 8191
      → ys ≡ s ++ drop (length s) (take (length t - (3070 + c.literals)) (drop (3070 + c.literals) t))
      → r ≡ clause_more c (length s)
      → Became φ (with_clause φ s) c.second (Some r) (set (put_mid (3070 + c.literals) (length t - (3070 + c.literals)) t ys) (1023 + c.clauses) (c.literals + length s))
  done-lent s ys r k l e q =
      done s (put_mid (3070 + c.literals) (length t - (3070 + c.literals)) t ys) r k l (tail_written t s ys (3070 + c.literals) e) q

  -- a clause that is there already, and one that is not
  pub add-there : (s : List ℕ) → any_of (same s) φ.clauses ≡ true → Became φ (with_new_clause φ s) c.second (Some c) t
  unfolding with_new_clause add_tidied
  add-there s e = unchanged h (with_new_clause φ s) (rw e)

  pub add-new : (s t' : List ℕ) (r : Option Counts) → any_of (same s) φ.clauses ≡ false → Became φ (with_clause φ s) c.second r t' → Became φ (with_new_clause φ s) c.second r t'
  unfolding with_new_clause with_clause add_tidied
  add-new s t' r e b = rw e b

  -- a variable that does not fit, and one that does
  pub full-variables : (q : ℕ) → 1023 ≤ c.variables → Became φ (with_variable φ q) c.second None t
  full-variables q k =
      refused φ (with_variable φ q) c.second t
      (false_of (fits (with_variable φ q)) (λ f. omega (arith, (room_of (with_variable φ q) f).variables, variables-more φ q, count-variables h)))
      h.table

  pub full-number : (q : ℕ) → 2047 < q → Became φ (with_variable φ q) c.second None t
  full-number q k =
      refused φ (with_variable φ q) c.second t
      (false_of (fits (with_variable φ q)) (λ f. omega (arith, variable-in-range φ q (room_of (with_variable φ q) f))))
      h.table

  pub done-variable : (q : ℕ) (r : Counts) → c.variables < 1023 → q ≤ 2047 → r ≡ variable_more c → Became φ (with_variable φ q) c.second (Some r) (set t c.variables q)
  done-variable q r k l p =
      let more : length φ.prefix < 1023 = omega (arith, count-variables h) in
      granted φ (with_variable φ q) c.second r (set t c.variables q)
      (variable-fits φ q (room h) more l)
      (p ∙ ap variable_more h.counts ∙ variable-counts φ q c.second)
      (rw (h.table, count-variables h) (table-variable φ q more))

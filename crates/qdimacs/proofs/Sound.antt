-- What is read is right: each variable once, each clause of the prefix's variables, within the limits. So the formula read is
-- well formed, fits, and is as true as what is written.
-- Assumes nothing.
use mathlib.Core.Path.{◌≡◌, refl, sym, ◌∙◌, subst}
use mathlib.Core.Bool.{Bool, true, false, cond}
use mathlib.Core.List.{List}
use Prim.Native.Nat.{ℕ, ◌≤◌}
use native.Mathlib.Omega.{arith}
use borrow.Author.Tests.{leb-true, le-leb}
use lib.Dec.{leb, ltb}
use lib.ListN.{length}
use Rattle.meaning.specs.Lists.{all_of}
use Rattle.meaning.specs.Formula.{Formula, var}
use Rattle.meaning.specs.Tidy.{build, tidied}
use Rattle.meaning.specs.WellFormed.{bound, good_prefix, well_formed, literals, fits, max_variables, max_clauses, max_literals, max_text}
use Rattle.qdimacs.specs.Faults.{LENGTH, SHORT}
use Rattle.meaning.specs.Game.{is_true}
use Rattle.qdimacs.specs.Bytes.{tokens}
use Rattle.qdimacs.specs.Read.{State, Reading, reads, faulty, start, on_tokens, complete, Answer, fault, good, finish, as_written, tidied_answer, read}
use Rattle.meaning.proofs.Lists.{all-le}
use Rattle.meaning.proofs.Tidy.{tidied-truth}
use Rattle.meaning.proofs.WellFormed.{tidied-well-formed}
use Rattle.meaning.proofs.Parts.{of_room}
use Rattle.meaning.proofs.Weight.{build-less}
use Rattle.meaning.proofs.Prefix.{prefix-few}
use Rattle.qdimacs.proofs.Right.{Right, RightSoFar, reading-right}

-- What is written ----------------------------------------------------------------------------------------------
pub record Written (r : Formula) : Type 0 where
  pub good : good_prefix r.prefix ≡ true
  pub numbers : all_of (λ q. leb (var q) max_variables) r.prefix ≡ true
  pub variables : length r.prefix ≤ max_variables
  pub closed : all_of (bound r.prefix) r.clauses ≡ true
  pub clauses : length r.clauses ≤ max_clauses
  pub literals : literals (build r.prefix r.clauses) ≤ max_literals

state-written : (s : State) → Right s → Written (record { prefix = s.prefix; clauses = s.clauses })
state-written s h =
    record {
      good = h.good;
      numbers = numbers;
      variables = prefix-few max_variables s.prefix h.good numbers;
      closed = h.closed;
      clauses = h.clauses;
      literals = h.literals;
    }
  where
    numbers : all_of (λ q. leb (var q) max_variables) s.prefix ≡ true
    numbers =
        all-le (λ q. leb (var q) s.m) (λ q. leb (var q) max_variables) s.prefix
        (λ q e. le-leb (var q) max_variables (omega (arith, leb-true (var q) s.m e, h.small))) h.numbers

no-fault : (k at : ℕ) (r : Formula) → fault k at ≡ good r → ⊥
no-fault k at r e = let z : ◌≡◌ {A = ℕ} 0 1 = cc in omega arith

good-path : {r φ : Formula} → good r ≡ good φ → r ≡ φ
good-path e = cc

-- whatever text gives a formula, it is right as it is written
pub written-right : (s : List ℕ) (r : Formula) → as_written s ≡ good r → Written r
unfolding as_written finish RightSoFar
written-right s r e = go (ltb max_text (length s)) (on_tokens (reads start) (tokens s)) (reading-right (tokens s)) e
  where
    go : (t : Bool) (o : Reading) → RightSoFar o → cond t (fault LENGTH 0) (finish (length s) o) ≡ good r → Written r
    go true o h q = absurd (no-fault LENGTH 0 r q)
    go false (faulty k at) h q = absurd (no-fault k at r q)
    go false (reads st) h q = at-end (complete st.phase st.c) q
      where
        at-end : (t : Bool) → cond t (good (record { prefix = st.prefix; clauses = st.clauses })) (fault SHORT (length s)) ≡ good r → Written r
        at-end true k = subst Written (good-path k) (state-written st h)
        at-end false k = absurd (no-fault SHORT (length s) r k)

-- What is read -------------------------------------------------------------------------------------------------
pub read_of : (s : List ℕ) (r : Formula) → as_written s ≡ good r → read s ≡ good (tidied r)
unfolding read tidied_answer
read_of s r e = rw e

pub of-read : (s : List ℕ) (φ : Formula) → read s ≡ good φ → (r : Formula) × (as_written s ≡ good r) × (φ ≡ tidied r)
unfolding read tidied_answer
of-read s φ e = go (as_written s) refl e
  where
    go : (a : Answer) → as_written s ≡ a → tidied_answer a ≡ good φ → (r : Formula) × (as_written s ≡ good r) × (φ ≡ tidied r)
    go (fault k at) p q = absurd (no-fault k at φ q)
    go (good r) p q = (r, p, sym (good-path q))

module _ (s : List ℕ) (φ : Formula) (e : read s ≡ good φ) where
  pub read-well-formed : well_formed φ ≡ true
  read-well-formed =
      let w = of-read s φ e in
      let h = written-right s w.0 w.1 in
      rw w.2 (tidied-well-formed w.0 h.good h.closed)

  pub read_fits : fits φ ≡ true
  read_fits =
      let w = of-read s φ e in
      let h = written-right s w.0 w.1 in
      rw w.2 (of_room (tidied w.0) (unfold tidied in record {
        variables = h.variables;
        numbers = h.numbers;
        clauses = omega (arith, (build-less w.0.prefix w.0.clauses).0, h.clauses);
        literals = h.literals;
      }))

pub read-truth : (s : List ℕ) (r φ : Formula) → as_written s ≡ good r → read s ≡ good φ → is_true φ ≡ is_true r
unfolding is_true
read-truth s r φ p e = rw (sym (good-path (sym (read_of s r p) ∙ e))) (tidied-truth r (written-right s r p).good (λ _. false))

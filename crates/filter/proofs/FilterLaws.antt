-- A filter that covers a table, and stays so with a clause more.
-- Assumes nothing.
use Prim.Native.Nat.{ℕ, ◌+◌, ◌≤◌, ◌<◌}
use mathlib.Core.Path.{◌≡◌, refl, sym, ◌∙◌, subst}
use mathlib.Core.Bool.{Bool, true, false, cond}
use mathlib.Core.List.{List, [], ◌∷◌, ◌++◌}
use native.Mathlib.Omega.{arith}
use lib.ListN.{length, get_or, take}
use lib.Seq.{take_all}
use Rattle.meaning.specs.Lists.{all_of, any_of, same}
use Rattle.meaning.specs.Formula.{Formula}
use Rattle.meaning.specs.Tidy.{kept, add_tidied}
use Rattle.stamps.specs.Stamp.{with_stamp, stamped}
use Rattle.table.specs.Table.{with_new_clause, Holds}
use Rattle.table.specs.Answer.{Became}
use Rattle.table.specs.declared.Counts.{Counts}
use Rattle.std.specs.Prelude.{Option}
use Rattle.std.specs.Prelude.{Some, None}
use Rattle.meaning.proofs.Lists.{all_snoc}
use Rattle.stamps.proofs.StampLaws.{stamp-length, stamp-own, every-stays, every-next, not_there}
use Rattle.table.proofs.AnswerLaws.{became-done}
use Rattle.table.proofs.DecodeLaws.{decode-holds}
use Rattle.filter.specs.Filter.{Covers}

-- Clauses that pass a test ------------------------------------------------------------------------------------------
module _ (t : List ℕ → Bool) (x : List ℕ) (cs : List (List ℕ)) (a : all_of t cs ≡ true) where
  -- one more that passes, unless it is there
  pub all-added : t x ≡ true → all_of t (add_tidied cs (kept x)) ≡ true
  unfolding add_tidied
  all-added e = go (any_of (same x) cs)
    where
      go : (b : Bool) → all_of t (cond b cs (cs ++ (x ∷ []))) ≡ true
      go true = a
      go false = all_snoc t cs x a e

-- a filter of 8 words has one
pub filter-some : (f : List ℕ) → length f ≡ 8 → 0 < length f
filter-some f e = omega arith

-- A filter that covers a table ------------------------------------------------------------------------------------
-- the stamps of the first i clauses are in
pub record Covered (cs : List (List ℕ)) (i : ℕ) (f : List ℕ) : Type 0 where
  pub long : length f ≡ 8
  pub every : all_of (stamped f) (take i cs) ≡ true

pub covered_none : (cs : List (List ℕ)) (f : List ℕ) → length f ≡ 8 → Covered cs 0 f
unfolding all_of
covered_none cs f e = record { long = e; every = refl }

module _ {cs : List (List ℕ)} {i : ℕ} {f : List ℕ} (k : Covered cs i f) where
  -- one clause more
  pub covered_next : i < length cs → (x f' : List ℕ) → x ≡ get_or cs i [] → f' ≡ with_stamp f x → Covered cs (i + 1) f'
  covered_next h x f' e q =
      rw q
      (record {
        long = stamp-length f x ∙ k.long;
        every = every-next f x (omega arith) cs i h e k.every;
      })

  -- all clauses
  pub covered-all : {φ : Formula} {t : List ℕ} {c : Counts} → Holds φ t c → φ.clauses ≡ cs → length cs ≤ i → Covers t c f
  covered-all {φ} {t} {c} h e n =
      record { long = k.long; every = rw (decode-holds φ t c h, e) (rw (take_all i cs n) at k.every) }

module _ {φ : Formula} {t : List ℕ} {c : Counts} (h : Holds φ t c) where
  module _ {f : List ℕ} (k : Covers t c f) (x : List ℕ) where
    every-is : all_of (stamped f) φ.clauses ≡ true
    every-is = rw (decode-holds φ t c h) at k.every

    -- the clause is new where its stamp was missing
    pub covers_new : (b : Bool) → b ≡ stamped f x → b ≡ false → any_of (same x) φ.clauses ≡ false
    covers_new b e n = not_there (stamped f) x φ.clauses every-is (sym e ∙ n)

    -- with its stamp, the filter covers the table after it
    pub covers_more : (s : Bool) (r : Option Counts) (t' f' : List ℕ) → Became φ (with_new_clause φ x) s r t' → f' ≡ with_stamp f x
        → (d : Counts) → r ≡ Some d → Covers t' d f'
    covers_more s r t' f' b e d q =
        rw e
        (record {
          long = stamp-length f x ∙ k.long;
          every =
              rw (decode-holds (with_new_clause φ x) t' d (became-done φ (with_new_clause φ x) s r t' b d q))
              (unfold with_new_clause in all-added (stamped (with_stamp f x)) x φ.clauses (every-stays f x (filter-some f k.long) φ.clauses every-is)
              (stamp-own f x (filter-some f k.long)));
        })

-- no answer that it is done
pub covers-full : {t f : List ℕ} (d : Counts) → None ≡ Some d → Covers t d f
covers-full d e = let z : ◌≡◌ {A = ℕ} 0 1 = cc in absurd (omega arith)

-- the same counts, by their answer
pub covers-same : {t : List ℕ} {c : Counts} {f : List ℕ} → Covers t c f → (d : Counts) → Some c ≡ Some d → Covers t d f
covers-same {t} {c} {f} k d e = subst (λ (x : Counts). Covers t x f) (cc) k

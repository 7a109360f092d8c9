-- A table whose clauses are all among some others: no stamp is wanted.
-- Assumes nothing.
use Prim.Native.Nat.{ℕ}
use mathlib.Core.Path.{◌≡◌, refl, ◌∙◌}
use mathlib.Core.Bool.{Bool, true, false}
use mathlib.Core.List.{List, [], ◌∷◌, ◌++◌}
use native.Mathlib.Omega.{arith}
use lib.ListN.{length}
use Rattle.meaning.specs.Lists.{all_of, any_of, same}
use Rattle.meaning.specs.Formula.{Formula}
use Rattle.meaning.proofs.Basics.{or-il, or-ir}
use Rattle.meaning.proofs.Lists.{all-le, any_append, same_self}
use Rattle.table.specs.Table.{decode, with_clause, with_new_clause, Holds}
use Rattle.table.specs.Answer.{Became}
use Rattle.table.specs.declared.Counts.{Counts}
use Rattle.std.specs.Prelude.{Option}
use Rattle.std.specs.Prelude.{Some}
use Rattle.table.proofs.AnswerLaws.{add-new, became-done}
use Rattle.table.proofs.HoldLaws.{count-clauses}
use Rattle.table.proofs.DecodeLaws.{decode-holds, holds-decoded}
use Rattle.stamps.specs.Stamp.{stamped}
use Rattle.stamps.proofs.StampLaws.{not_there}
use Rattle.filter.specs.Filter.{known, CoversBut, one_of, Among}
use Rattle.filter.proofs.FilterLaws.{all-added}

one-own : (others : List (List ℕ)) (x : List ℕ) → one_of (others ++ (x ∷ [])) x ≡ true
unfolding one_of
one-own others x =
    any_append (same x) others (x ∷ []) ∙ or-ir (any_of (same x) others) (any_of (same x) (x ∷ [])) (unfold any_of in or-il (same x x) false (same_self x))

one-more : (others : List (List ℕ)) (x c : List ℕ) → one_of others c ≡ true → one_of (others ++ (x ∷ [])) c ≡ true
unfolding one_of
one-more others x c e = any_append (same c) others (x ∷ []) ∙ or-il (any_of (same c) others) (any_of (same c) (x ∷ [])) e

all-of-none : (f : List ℕ → Bool) (cs : List (List ℕ)) → length cs ≡ 0 → all_of f cs ≡ true
unfolding all_of
all-of-none f [] e = refl
all-of-none f (c ∷ cs) e = absurd (omega arith)

-- there is no clause
pub among_none : {ψ : Formula} {t : List ℕ} {c : Counts} → Holds ψ t c → c.clauses ≡ 0 → Among [] t c
among_none {ψ} {t} {c} h e =
    record { every = all-of-none (one_of []) (decode t c).clauses (omega (arith, count-clauses (holds-decoded h))) }

module _ {others : List (List ℕ)} {t : List ℕ} {c : Counts} (k : Among others t c) where
  -- one of the others more
  pub among-other : (x : List ℕ) → Among (others ++ (x ∷ [])) t c
  among-other x = record { every = all-le (one_of others) (one_of (others ++ (x ∷ []))) (decode t c).clauses (one-more others x) k.every }

  -- whatever the filter
  pub among-covers : (f : List ℕ) → length f ≡ 8 → CoversBut others t c f
  unfolding known one_of
  among-covers f e =
      record {
        long = e;
        every = all-le (one_of others) (known others f) (decode t c).clauses (λ x q. or-il (any_of (same x) others) (stamped f x) q) k.every;
      }

module _ {φ : Formula} {others : List (List ℕ)} {t : List ℕ} {c : Counts} (h : Holds φ t c) (k : Among others t c) (x : List ℕ) where
  all_one : all_of (one_of others) φ.clauses ≡ true
  all_one = rw (decode-holds φ t c h) at k.every

  -- a clause that is none of the others is new
  pub among-new : any_of (same x) others ≡ false → (r : Option Counts) (t' : List ℕ) → Became φ (with_clause φ x) c.second r t' → Became φ (with_new_clause φ x) c.second r t'
  among-new out r t' b = add-new h x t' r (not_there (one_of others) x φ.clauses all_one (unfold one_of in out)) b

  -- it comes, and is one of the others
  pub among-more : (s : Bool) (r : Option Counts) (t' : List ℕ) → Became φ (with_new_clause φ x) s r t' → (d : Counts) → r ≡ Some d → Among (others ++ (x ∷ [])) t' d
  among-more s r t' b d q =
      record {
        every =
            rw (decode-holds (with_new_clause φ x) t' d (became-done φ (with_new_clause φ x) s r t' b d q))
            (unfold with_new_clause in all-added (one_of (others ++ (x ∷ []))) x φ.clauses
            (all-le (one_of others) (one_of (others ++ (x ∷ []))) φ.clauses (one-more others x) all_one) (one-own others x));
      }

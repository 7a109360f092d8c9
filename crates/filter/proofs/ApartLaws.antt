-- A filter that has the stamps of a table's clauses but for some others.
-- Assumes nothing.
use Prim.Native.Nat.{ℕ}
use mathlib.Core.Path.{◌≡◌, ◌∙◌, subst}
use mathlib.Core.Bool.{Bool, true, false}
use mathlib.Core.List.{List, [], ◌∷◌, ◌++◌}
use lib.ListN.{length}
use Rattle.meaning.specs.Lists.{all_of, any_of, same}
use Rattle.meaning.specs.Formula.{Formula}
use Rattle.table.specs.Table.{decode, with_new_clause, Holds}
use Rattle.table.specs.Answer.{Became}
use Rattle.table.specs.declared.Counts.{Counts}
use Rattle.std.specs.Prelude.{Option}
use Rattle.std.specs.Prelude.{Some}
use Rattle.meaning.proofs.Basics.{or-il, or-ir, or_elim}
use Rattle.meaning.proofs.Lists.{all-le, any_append, same_self}
use Rattle.table.proofs.AnswerLaws.{became-done}
use Rattle.table.proofs.DecodeLaws.{decode-holds}
use Rattle.stamps.specs.Stamp.{with_stamp, stamped}
use Rattle.stamps.proofs.StampLaws.{stamp-length, stamp-own, stamp-stays, not_there}
use Rattle.filter.specs.Filter.{known, Covers, CoversBut}
use Rattle.filter.proofs.FilterLaws.{all-added, filter-some}

-- one of the others more
module _ (others : List (List ℕ)) (x f : List ℕ) where
  abbrev more : List (List ℕ)
  more = others ++ (x ∷ [])

  known-own : known more f x ≡ true
  unfolding known
  known-own =
      or-il (any_of (same x) more) (stamped f x)
      (any_append (same x) others (x ∷ []) ∙ or-ir (any_of (same x) others) (any_of (same x) (x ∷ [])) (unfold any_of in or-il (same x x) false (same_self x)))

  known_more : (c : List ℕ) → known others f c ≡ true → known more f c ≡ true
  unfolding known
  known_more c e =
      or_elim (any_of (same c) others) (stamped f c) e
      (λ q. or-il (any_of (same c) more) (stamped f c) (any_append (same c) others (x ∷ []) ∙ or-il (any_of (same c) others) (any_of (same c) (x ∷ [])) q))
      (λ q. or-ir (any_of (same c) more) (stamped f c) q)

-- one stamp more
module _ (others : List (List ℕ)) (x f : List ℕ) (long : length f ≡ 8) where
  known-stamp : known others (with_stamp f x) x ≡ true
  unfolding known
  known-stamp = or-ir (any_of (same x) others) (stamped (with_stamp f x) x) (stamp-own f x (filter-some f long))

  known-stays : (c : List ℕ) → known others f c ≡ true → known others (with_stamp f x) c ≡ true
  unfolding known
  known-stays c e =
      or_elim (any_of (same c) others) (stamped f c) e
      (λ q. or-il (any_of (same c) others) (stamped (with_stamp f x) c) q)
      (λ q. or-ir (any_of (same c) others) (stamped (with_stamp f x) c) (stamp-stays f x (filter-some f long) c q))

-- all stamps are there
pub apart_none : {t f : List ℕ} {c : Counts} → Covers t c f → CoversBut [] t c f
apart_none {t} {f} {c} k =
    record {
      long = k.long;
      every = all-le (stamped f) (known [] f) (decode t c).clauses (λ x e. unfold known in or-ir (any_of (same x) []) (stamped f x) e) k.every;
    }

module _ {others : List (List ℕ)} {t f : List ℕ} {c : Counts} (k : CoversBut others t c f) where
  -- the same counts, by their answer
  pub apart-same : (d : Counts) → Some c ≡ Some d → CoversBut others t d f
  apart-same d e = subst (λ (x : Counts). CoversBut others t x f) (cc) k

  -- one of the others more
  pub apart_other : (x : List ℕ) → CoversBut (others ++ (x ∷ [])) t c f
  apart_other x =
      record { long = k.long; every = all-le (known others f) (known (others ++ (x ∷ [])) f) (decode t c).clauses (known_more others x f) k.every }

module _ {φ : Formula} {others : List (List ℕ)} {t f : List ℕ} {c : Counts} (h : Holds φ t c) (k : CoversBut others t c f) (x : List ℕ) where
  all_known : all_of (known others f) φ.clauses ≡ true
  all_known = rw (decode-holds φ t c h) at k.every

  -- a clause that is none of the others is new where its stamp is missing
  pub apart-new : any_of (same x) others ≡ false → (b : Bool) → b ≡ stamped f x → b ≡ false → any_of (same x) φ.clauses ≡ false
  unfolding known
  apart-new out b e n = not_there (known others f) x φ.clauses all_known (rw (out, ← e, n))

  module _ (s : Bool) (r : Option Counts) (t' : List ℕ) (b : Became φ (with_new_clause φ x) s r t') (d : Counts) (q : r ≡ Some d) where
    after : (g : List (List ℕ)) (f' : List ℕ) → all_of (known g f') φ.clauses ≡ true → known g f' x ≡ true → all_of (known g f') (decode t' d).clauses ≡ true
    after g f' a e =
        rw (decode-holds (with_new_clause φ x) t' d (became-done φ (with_new_clause φ x) s r t' b d q))
        (unfold with_new_clause in all-added (known g f') x φ.clauses a e)

    -- the clause comes, with its stamp
    pub apart-stamped : (f' : List ℕ) → f' ≡ with_stamp f x → CoversBut others t' d f'
    apart-stamped f' e =
        rw e
        (record {
          long = stamp-length f x ∙ k.long;
          every =
              after others (with_stamp f x)
              (all-le (known others f) (known others (with_stamp f x)) φ.clauses (known-stays others x f k.long) all_known)
              (known-stamp others x f k.long);
        })

    -- it comes without its stamp, and is one of the others
    pub apart_more : CoversBut (others ++ (x ∷ [])) t' d f
    apart_more =
        record {
          long = k.long;
          every =
              after (others ++ (x ∷ [])) f (all-le (known others f) (known (others ++ (x ∷ [])) f) φ.clauses (known_more others x f) all_known)
              (known-own others x f);
        }

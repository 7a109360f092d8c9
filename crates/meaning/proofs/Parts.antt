-- The parts of being well formed, and of fitting. Assumes nothing.
use mathlib.Core.Path.{◌≡◌}
use Prim.Native.Nat.{ℕ, ◌≤◌}
use mathlib.Core.Bool.{true, ◌&&◌}
use mathlib.Core.List.{List}
use lib.Dec.{leb}
use lib.ListN.{length}
use borrow.Author.Tests.{leb-true, le-leb}
use Rattle.meaning.specs.Lists.{all_of}
use Rattle.meaning.specs.Formula.{Formula, var}
use Rattle.meaning.specs.WellFormed.{ascends, bound, reduced, tidy_clause, good_prefix, distinct, well_formed, literals, fits, max_variables, max_clauses, max_literals}
use Rattle.meaning.proofs.Basics.{and_l, and_r, and_i}
use Rattle.meaning.proofs.Lists.{all-le}

module _ (φ : Formula) (w : well_formed φ ≡ true) where
  pub good_of : good_prefix φ.prefix ≡ true
  unfolding well_formed
  good_of = search and_l

  pub tidy_of : all_of (tidy_clause φ.prefix) φ.clauses ≡ true
  unfolding well_formed
  tidy_of = search (and_l, and_r)

  pub distinct_of : distinct φ.clauses ≡ true
  unfolding well_formed
  distinct_of = search (and_l, and_r)

module _ (p c : List ℕ) (t : tidy_clause p c ≡ true) where
  pub ascends-of : ascends c ≡ true
  unfolding tidy_clause
  ascends-of = search and_l

  pub bound_of : bound p c ≡ true
  unfolding tidy_clause
  bound_of = search (and_l, and_r)

  pub reduced-of : reduced p c ≡ true
  unfolding tidy_clause
  reduced-of = search (and_l, and_r)

pub bound_all : (φ : Formula) → well_formed φ ≡ true → all_of (bound φ.prefix) φ.clauses ≡ true
bound_all φ w = all-le (tidy_clause φ.prefix) (bound φ.prefix) φ.clauses (bound_of φ.prefix) (tidy_of φ w)

-- within each limit
pub record Room (φ : Formula) : Type 0 where
  pub variables : length φ.prefix ≤ max_variables
  pub numbers : all_of (λ q. leb (var q) max_variables) φ.prefix ≡ true
  pub clauses : length φ.clauses ≤ max_clauses
  pub literals : literals φ.clauses ≤ max_literals

pub room_of : (φ : Formula) → fits φ ≡ true → Room φ
unfolding fits
room_of φ h =
    record {
      variables = leb-true (length φ.prefix) max_variables (search (and_l, and_r));
      numbers = search (and_l, and_r);
      clauses = leb-true (length φ.clauses) max_clauses (search (and_l, and_r));
      literals = leb-true (literals φ.clauses) max_literals (search (and_l, and_r));
    }

pub of_room : (φ : Formula) → Room φ → fits φ ≡ true
unfolding fits
of_room φ r =
    and_i (leb (length φ.prefix) max_variables && all_of (λ q. leb (var q) max_variables) φ.prefix) (leb (length φ.clauses) max_clauses && leb (literals φ.clauses) max_literals)
    (and_i (leb (length φ.prefix) max_variables) (all_of (λ q. leb (var q) max_variables) φ.prefix) (le-leb (length φ.prefix) max_variables r.variables) r.numbers)
    (and_i (leb (length φ.clauses) max_clauses) (leb (literals φ.clauses) max_literals) (le-leb (length φ.clauses) max_clauses r.clauses) (le-leb (literals φ.clauses) max_literals r.literals))

-- The candidate of kinds 1 to 5: the first a with its first b that is permitted, as the loop over a goes through them.
-- Assumes nothing.
use Prim.Native.Nat.{ℕ, zero, suc, ◌+◌, ◌/◌, ◌≤◌, ◌<◌}
use mathlib.Core.Path.{◌≡◌, refl, sym, ap, ◌∙◌, fun_ext}
use mathlib.Core.Bool.{Bool, true, false, ◌&&◌}
use mathlib.Core.List.{List}
use lib.ListN.{length, get_or, drop, length-map, get_or-map}
use native.Mathlib.Omega.{arith}
use native.Mathlib.Nat.{zero-add}
use Rattle.meaning.specs.Lists.{up_from}
use Rattle.meaning.specs.Formula.{Formula, var}
use Rattle.meaning.specs.WellFormed.{weight}
use Rattle.rules.specs.Entry.{Kind, unit, pure, subsume, strengthen, equality, resolve, expand, uses_b}
use Rattle.rules.specs.Step.{permitted, result_of}
use Rattle.rules.specs.Choice as rules
use Rattle.rules.specs.Choice.{costly, light, wanted, allowed_call, indices, variables, firsts, seconds, first_b, first_pair, candidate}
use Rattle.table.specs.Table.{Holds}
use Rattle.table.specs.declared.Counts.{Counts}
use Rattle.search.specs.Candidates.{found_as, first_for}
use Rattle.std.specs.Prelude.{Option, Some, None}
use Rattle.std.specs.Option.{is_some}
use Rattle.meaning.proofs.Basics.{clash}
use Rattle.table.proofs.HoldLaws.{count-variables, count-clauses}
use Rattle.search.proofs.PrefixLaws.{entry_at}
use Rattle.search.proofs.FirstLaws.{a-next, a-found, a-end}

-- Every permitted step of these kinds counts -------------------------------------------------------------------
always-light : (E : ℕ) (k : Kind) (old new : ℕ) → costly k ≡ false → light E k old new ≡ true
unfolding costly light
always-light E unit old new e = refl
always-light E pure old new e = refl
always-light E subsume old new e = refl
always-light E strengthen old new e = refl
always-light E equality old new e = refl
always-light E resolve old new e = clash refl e
always-light E expand old new e = clash refl e

pub counts-if : (E : ℕ) (φ : Formula) (k : Kind) (a b : ℕ) → costly k ≡ false → allowed_call E φ k a b ≡ permitted φ k a b
unfolding allowed_call wanted
counts-if E φ k a b e = rw (always-light E k (weight φ) (weight (result_of φ k a b)) e, e) (go (permitted φ k a b))
  where
    go : (x : Bool) → ((x && true) && true) ≡ x
    go true = refl
    go false = refl

-- what the search for the candidate finds from the a at index i on
unfoldable pub candidate_from : Formula → Kind → ℕ → rules.Found
candidate_from φ k i = first_pair (permitted φ k) (drop i (firsts φ k)) (seconds φ k)

pub from_start : (E : ℕ) (φ : Formula) (k : Kind) → costly k ≡ false → candidate E φ k ≡ candidate_from φ k 0
unfolding candidate candidate_from
from_start E φ k e =
    rw e (ap (λ (t : ℕ → ℕ → Bool). first_pair t (firsts φ k) (seconds φ k)) (fun_ext (λ a. fun_ext (λ b. counts-if E φ k a b e))))

-- in a kind that has no use for b, the first b is 0; m is what the test says
module _ (φ : Formula) (k : Kind) (a : ℕ) (no-b : uses_b k ≡ false) (m : Bool) (is : m ≡ permitted φ k a 0) where
  pub only_none : m ≡ false → None ≡ found_as (first_for φ k a)
  unfolding first_for seconds first_b found_as
  only_none e = rw (no-b, ← is, e)

  pub only-found : m ≡ true → Some (a, 0) ≡ found_as (first_for φ k a)
  unfolding first_for seconds first_b found_as
  only-found e = rw (no-b, ← is, e)

-- The loop over a ----------------------------------------------------------------------------------------------
-- there are n of them, and that at index i is at i
pub record Walk (φ : Formula) (k : Kind) (n : ℕ) (at : ℕ → ℕ) : Type 0 where
  pub count : length (firsts φ k) ≡ n
  pub is : (i : ℕ) → i < n → get_or (firsts φ k) i 0 ≡ at i

module _ {φ : Formula} {k : Kind} {n : ℕ} {at : ℕ → ℕ} (w : Walk φ k n at) (E i : ℕ) (inv : candidate E φ k ≡ candidate_from φ k i) where
  module _ (h : i < n) (f : Option (ℕ × ℕ)) (is : f ≡ found_as (first_for φ k (at i))) where
    pub walk-next : is_some f ≡ false → candidate E φ k ≡ candidate_from φ k (i + 1)
    unfolding candidate_from first_for
    walk-next e = a-next (permitted φ k) (firsts φ k) (seconds φ k) i inv (omega (arith, w.count)) f (rw (w.is i h) is) e

    pub walk-found : is_some f ≡ true → f ≡ found_as (candidate E φ k)
    unfolding candidate_from first_for
    walk-found e = a-found (permitted φ k) (firsts φ k) (seconds φ k) i inv (omega (arith, w.count)) f (rw (w.is i h) is) e

  pub walk_end : n ≤ i → None ≡ found_as (candidate E φ k)
  unfolding candidate_from
  walk_end h = a-end (permitted φ k) (firsts φ k) (seconds φ k) i inv (omega (arith, w.count))

-- through the clauses
up-length : (s n : ℕ) → length (up_from s n) ≡ n
unfolding up_from
up-length s zero = refl
up-length s (suc n) = ap suc (up-length (suc s) n)

up_at : (s n i : ℕ) → i < n → get_or (up_from s n) i 0 ≡ s + i
unfolding up_from
up_at s zero i h = absurd (omega arith)
up_at s (suc n) zero h = omega arith
up_at s (suc n) (suc i) h = up_at (suc s) n i (omega arith) ∙ omega arith

module _ {φ : Formula} {t : List ℕ} {c : Counts} (h : Holds φ t c) (k : Kind) where
  pub by-clause : firsts φ k ≡ indices φ → Walk φ k c.clauses (λ i. i)
  unfolding indices
  by-clause e =
      let n = length φ.clauses in
      record {
        count = ap length e ∙ up-length 0 n ∙ sym (count-clauses h);
        is = λ i l. ap (λ (s : List ℕ). get_or s i 0) e ∙ up_at 0 n i (omega (arith, count-clauses h)) ∙ zero-add i;
      }

  -- through the variables: those of the entries that the table begins with
  pub by-variable : firsts φ k ≡ variables φ → Walk φ k c.variables (λ i. get_or t i 0 / 2)
  unfolding variables var
  by-variable e =
      record {
        count = ap length e ∙ length-map φ.prefix var ∙ sym (count-variables h);
        is = λ i l. ap (λ (s : List ℕ). get_or s i 0) e ∙ get_or-map var φ.prefix i 0 ∙ ap var (entry_at h i l);
      }

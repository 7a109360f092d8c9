-- A loop that tries the clauses with a literal among the first ones, by the list of their numbers: one for all tests.
-- Assumes nothing.
use Prim.Native.Nat.{ℕ, ◌+◌, ◌≤◌, ◌<◌}
use mathlib.Core.Path.{◌≡◌, refl}
use mathlib.Core.Bool.{Bool, true, false, ◌&&◌}
use mathlib.Core.List.{List, []}
use lib.ListN.{length, get_or, take, drop}
use lib.Dec.{ltb}
use native.Mathlib.Omega.{arith}
use Rattle.meaning.specs.Lists.{any_of}
use Rattle.meaning.specs.Formula.{Formula}
use Rattle.rules.specs.Eliminate.{with_lit}
use Rattle.table.specs.declared.Counts.{Counts}
use Rattle.index.specs.Index.{clauses_with, Indexes}
use Rattle.index.specs.Study.{Studied, Study}
use Rattle.table.proofs.HoldLaws.{count-clauses}
use Rattle.index.proofs.ReadLaws.{studied-indexes}
use Rattle.earlier.proofs.ListedLaws.{below, listed_start, listed_found, listed-turn, listed-end, listed-low}

-- one of the first b clauses with the literal l passes
abbrev pub passes : (Formula → List ℕ → Bool) → ℕ → ℕ → Formula → Bool
passes test l b φ = any_of (test φ) (with_lit l (take b φ.clauses))

-- The loop's invariant: the numbers from i on decide.
pub record Tries (test : Formula → List ℕ → Bool) (l b : ℕ) (t : List ℕ) (c : Counts) (ranks index list : List ℕ) (i : ℕ) : Type 0 where
  pub rest : (φ : Formula) → Studied φ t c ranks index → passes test l b φ ≡ any_of (below (test φ) l b φ.clauses) (drop i list)

module _ (l : ℕ) {t : List ℕ} {c : Counts} {ranks index list : List ℕ} (told : (φ : Formula) → Indexes φ index → list ≡ clauses_with φ.clauses l) where
  is : (φ : Formula) → Studied φ t c ranks index → list ≡ clauses_with φ.clauses l
  is φ g = told φ (studied-indexes g)

  pub tries-start : (test : Formula → List ℕ → Bool) (b : ℕ) → Tries test l b t c ranks index list 0
  tries-start test b = record { rest = λ φ g. listed_start (test φ) l b φ.clauses list (is φ g) }

  -- each is the number of a clause
  pub tries-low : Study t c ranks index → (i : ℕ) → i < length list → get_or list i 0 < c.clauses
  tries-low g i h =
      omega (arith, count-clauses g.studied.holds, listed-low l g.formula.clauses list (is g.formula g.studied) i h)

  module _ (test : Formula → List ℕ → Bool) (b : ℕ) (i : ℕ) (inv : Tries test l b t c ranks index list i) where
    module _ (h : i < length list) (r : Bool)
        (said : (φ : Formula) → Studied φ t c ranks index → r ≡ (ltb (get_or list i 0) b && test φ (get_or φ.clauses (get_or list i 0) []))) where
      pub tries-found : r ≡ true → (φ : Formula) → Studied φ t c ranks index → true ≡ passes test l b φ
      tries-found e φ g = listed_found (test φ) l b φ.clauses list (is φ g) i (inv.rest φ g) h _ refl r (said φ g) e

      pub tries-turn : r ≡ false → Tries test l b t c ranks index list (i + 1)
      tries-turn e = record { rest = λ φ g. listed-turn (test φ) l b φ.clauses list (is φ g) i (inv.rest φ g) h _ refl r (said φ g) e }

    pub tries-end : length list ≤ i → (φ : Formula) → Studied φ t c ranks index → false ≡ passes test l b φ
    tries-end h φ g = listed-end (test φ) l b φ.clauses list (is φ g) i (inv.rest φ g) h

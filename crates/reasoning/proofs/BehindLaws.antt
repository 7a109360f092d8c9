-- The first entry behind some entries of a prefix that passes a test; and what stands right of a variable, by its place.
-- Assumes nothing.
use Prim.Native.Nat.{ℕ}
use mathlib.Core.Path.{◌≡◌, refl, ap, ◌∙◌}
use mathlib.Core.Bool.{Bool, true, false, not, cond}
use mathlib.Core.List.{List, [], ◌∷◌}
use lib.ListN.{take, drop}
use Rattle.std.specs.Prelude.{Some, unwrap_or}
use Rattle.std.proofs.Common.{◌%◌, eqb, tests, arith}
use Rattle.std.specs.List.{find}
use Rattle.meaning.specs.Lists.{first_passing}
use Rattle.meaning.specs.Formula.{Formula, var, odd, mentions, right_of}
use Rattle.table.specs.Table.{Holds}
use Rattle.table.specs.declared.Counts.{Counts}
use Rattle.permits.specs.Places.{place_of}
use Rattle.reasons.specs.Reason.{universal_after, existential_after}
use Rattle.table.proofs.HoldLaws.{prefix-is}
use Rattle.permits.proofs.PlaceLaws.{place-right}

-- What the library finds, where g is the test f --------------------------------------------------------------------
pub first-is : (f g : ℕ → Bool) → ((q : ℕ) → g q ≡ f q) → (p : List ℕ) → unwrap_or (find g p) 0 ≡ first_passing f p
unfolding first_passing
first-is f g same [] = refl
first-is f g same (q ∷ p) = rw (same q) (go (f q) (first-is f g same p))
  where
    go : (b : Bool) → unwrap_or (find g p) 0 ≡ first_passing f p → unwrap_or (cond b (Some q) (find g p)) 0 ≡ cond b q (first_passing f p)
    go true ih = refl
    go false ih = ih

pub even-is : (q : ℕ) → eqb (q % 2) 0 ≡ not (odd q)
unfolding odd
even-is q = grind (arith, tests)

pub odd-is : (q : ℕ) → eqb (q % 2) 1 ≡ odd q
unfolding odd
odd-is q = refl

-- Right of a variable: m is its place -----------------------------------------------------------------------------
module _ {φ : Formula} {t : List ℕ} {c : Counts} (h : Holds φ t c) (x m : ℕ) (at : m ≡ place_of φ.prefix x) (there : mentions φ.prefix x ≡ true) where
  pub right_is : drop m (take c.variables t) ≡ right_of x φ.prefix
  right_is = rw (prefix-is h, at) (place-right φ.prefix x there)

  pub universal-is : (r : ℕ) → r ≡ var (first_passing odd (drop m (take c.variables t))) → r ≡ universal_after φ x
  unfolding universal_after
  universal-is r q = q ∙ ap (λ (s : List ℕ). var (first_passing odd s)) right_is

  pub existential-is : (r : ℕ) → r ≡ var (first_passing (λ q. not (odd q)) (drop m (take c.variables t))) → r ≡ existential_after φ x
  unfolding existential_after
  existential-is r q = q ∙ ap (λ (s : List ℕ). var (first_passing (λ e. not (odd e)) s)) right_is

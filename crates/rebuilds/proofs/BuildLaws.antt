-- Laws of building in order: what is built only grows, and loops that give up where it does not fit.
-- Assumes nothing.
use Prim.Native.Nat.{ℕ, ◌≤◌}
use mathlib.Core.Path.{◌≡◌, refl, sym, ap, ◌∙◌}
use mathlib.Core.Bool.{Bool, true, false, cond}
use mathlib.Core.List.{List, [], ◌∷◌, ◌++◌}
use lib.ListN.{length, length-append}
use native.Mathlib.Omega.{arith}
use Rattle.meaning.specs.Lists.{any_of, same}
use Rattle.meaning.specs.Formula.{Formula}
use Rattle.meaning.specs.Tidy.{Tidied, dropped, kept, tidy, add_tidied, build_on}
use Rattle.meaning.specs.WellFormed.{literals, fits}
use Rattle.table.specs.Table.{table_of, counts_of, with_raw, Holds}
use Rattle.table.specs.Answer.{Became, Built}
use Rattle.table.specs.declared.Counts.{Counts}
use Rattle.std.specs.Prelude.{Option, Some, None}
use Rattle.rebuilds.specs.Raws.{with_raws, Going}
use Rattle.meaning.proofs.Basics.{by_cases, clash, false_of}
use Rattle.meaning.proofs.Parts.{room_of, of_room}
use Rattle.table.proofs.PadLaws.{literals-snoc}
use Rattle.table.proofs.HoldLaws.{second_is, counts-second}

-- Built -----------------------------------------------------------------------------------------------------------
pub built_of : {φ ψ : Formula} {second : Bool} {r : Option Counts} {t : List ℕ} → Became φ ψ second r t → Built ψ second r t
built_of {φ} {ψ} {second} {r} {t} b = record { answer = b.answer; table = λ f. b.table ∙ rw f }

pub built-not : (ψ : Formula) (second : Bool) (t : List ℕ) → fits ψ ≡ false → Built ψ second None t
built-not ψ second t f = record { answer = rw f; table = λ g. clash g f }

pub built-there : {ψ : Formula} {t : List ℕ} {c : Counts} → Holds ψ t c → Built ψ c.second (Some c) t
built-there {ψ} {t} {c} h = record { answer = rw h.fitting (ap Some h.counts); table = λ f. h.table }

module _ (ψ : Formula) (second : Bool) (r : Option Counts) (t : List ℕ) (b : Built ψ second r t) where
  module _ (d : Counts) (e : r ≡ Some d) where
    built-fits : fits ψ ≡ true
    built-fits =
        by_cases (fits ψ) (λ q. q)
        (λ q. let p : Some d ≡ None = sym e ∙ b.answer ∙ rw q in let z : ◌≡◌ {A = ℕ} 0 1 = cc in absurd (omega arith))

    counted : d ≡ counts_of ψ second
    counted = let p : Some d ≡ Some (counts_of ψ second) = sym e ∙ b.answer ∙ rw built-fits in cc

    pub built-done : Holds ψ t d
    built-done = record { table = b.table built-fits; counts = second_is ψ second d counted; fitting = built-fits }

    pub built-second : d.second ≡ second
    built-second = counts-second ψ second d counted

  pub built-full : r ≡ None → fits ψ ≡ false
  built-full e =
      by_cases (fits ψ)
      (λ q. let p : None ≡ Some (counts_of ψ second) = sym e ∙ b.answer ∙ rw q in let z : ◌≡◌ {A = ℕ} 0 1 = cc in absurd (omega arith))
      (λ q. q)

-- What is built only grows ------------------------------------------------------------------------------------------
pub raws-append : (ψ : Formula) (xs ys : List (List ℕ)) → with_raws ψ (xs ++ ys) ≡ with_raws (with_raws ψ xs) ys
unfolding with_raws build_on with_raw
raws-append ψ [] ys = refl
raws-append ψ (x ∷ xs) ys = raws-append (with_raw ψ x) xs ys

pub raws-none : (ψ : Formula) → with_raws ψ [] ≡ ψ
unfolding with_raws build_on
raws-none ψ = refl

pub raws-one : (ψ : Formula) (x : List ℕ) → with_raws ψ (x ∷ []) ≡ with_raw ψ x
unfolding with_raws build_on with_raw
raws-one ψ x = refl

pub record Grown (cs ds : List (List ℕ)) : Type 0 where
  pub clauses : length cs ≤ length ds
  pub literals : literals cs ≤ literals ds

grown-add : (cs : List (List ℕ)) (x : Tidied) → Grown cs (add_tidied cs x)
unfolding add_tidied
grown-add cs dropped = record { clauses = omega arith; literals = omega arith }
grown-add cs (kept c) = go (any_of (same c) cs)
  where
    go : (b : Bool) → Grown cs (cond b cs (cs ++ (c ∷ [])))
    go true = record { clauses = omega arith; literals = omega arith }
    go false = record { clauses = omega (arith, length-append cs (c ∷ [])); literals = omega (arith, literals-snoc cs c) }

grown-build : (p : List ℕ) (cs raws : List (List ℕ)) → Grown cs (build_on p cs raws)
unfolding build_on
grown-build p cs [] = record { clauses = omega arith; literals = omega arith }
grown-build p cs (r ∷ raws) =
    let a = grown-add cs (tidy p r) in
    let b = grown-build p (add_tidied cs (tidy p r)) raws in
    record { clauses = omega arith; literals = omega arith }

raws-fit : (ψ : Formula) (raws : List (List ℕ)) → fits (with_raws ψ raws) ≡ true → fits ψ ≡ true
unfolding with_raws
raws-fit ψ raws f =
    let r = room_of (with_raws ψ raws) f in
    let g = grown-build ψ.prefix ψ.clauses raws in
    of_room ψ (record { variables = r.variables; numbers = r.numbers; clauses = omega (arith, r.clauses); literals = omega (arith, r.literals) })

pub raws-not : (ψ : Formula) (raws : List (List ℕ)) → fits ψ ≡ false → fits (with_raws ψ raws) ≡ false
raws-not ψ raws f = false_of (fits (with_raws ψ raws)) (λ t. clash (raws-fit ψ raws t) f)

-- The loops ----------------------------------------------------------------------------------------------------------------
pub going_start : (ψ : Formula) (all : List (List ℕ)) (t : List ℕ) (d : Counts) → Holds ψ t d → Going ψ all all d.second t d
going_start ψ all t d h = record { formula = ψ; holds = h; second = refl; prefix = refl; left = refl }

module _ (ψ : Formula) (all now : List (List ℕ)) (b : Bool) (t : List ℕ) (e : Counts) (g : Going ψ all now b t e) where
  pub going_end : now ≡ [] → Built (with_raws ψ all) b (Some e) t
  going_end none =
      let x : g.formula ≡ with_raws ψ all = sym (raws-none g.formula) ∙ ap (with_raws g.formula) (sym none) ∙ g.left in
      let f : fits (with_raws ψ all) ≡ true = ap fits (sym x) ∙ g.holds.fitting in
      record {
        answer = rw f (ap Some (g.holds.counts ∙ ap (counts_of g.formula) g.second ∙ ap (λ (χ : Formula). counts_of χ b) x));
        table = λ z. g.holds.table ∙ ap table_of x;
      }

  module _ (some rest : List (List ℕ)) (split : now ≡ some ++ rest) (r : Option Counts) (t' : List ℕ) (k : Built (with_raws g.formula some) e.second r t') where
    onward : with_raws (with_raws g.formula some) rest ≡ with_raws ψ all
    onward = sym (raws-append g.formula some rest) ∙ ap (with_raws g.formula) (sym split) ∙ g.left

    pub going_next : (e' : Counts) → r ≡ Some e' → Going ψ all rest b t' e'
    unfolding with_raws
    going_next e' q =
        record {
          formula = with_raws g.formula some;
          holds = built-done (with_raws g.formula some) e.second r t' k e' q;
          second = built-second (with_raws g.formula some) e.second r t' k e' q ∙ g.second;
          prefix = g.prefix;
          left = onward;
        }

    pub going-full : r ≡ None → Built (with_raws ψ all) b None t'
    going-full q =
        built-not (with_raws ψ all) b t'
        (ap fits (sym onward) ∙ raws-not (with_raws g.formula some) rest (built-full (with_raws g.formula some) e.second r t' k q))

-- One list of raw clauses after another; the second goes by the prefix -----------------------------------------------------
module _ (ψ : Formula) (xs : List (List ℕ)) (s : Bool) (r : Option Counts) (t : List ℕ) (k : Built (with_raws ψ xs) s r t) (f : List ℕ → List (List ℕ)) where
  pub then-full : r ≡ None → (t' : List ℕ) → Built (with_raws ψ (xs ++ f ψ.prefix)) s None t'
  then-full q t' =
      built-not (with_raws ψ (xs ++ f ψ.prefix)) s t'
      (ap fits (raws-append ψ xs (f ψ.prefix)) ∙ raws-not (with_raws ψ xs) (f ψ.prefix) (built-full (with_raws ψ xs) s r t k q))

  pub then-done : (e : Counts) → r ≡ Some e → (r' : Option Counts) (t' : List ℕ)
      → Built (with_raws (with_raws ψ xs) (f (with_raws ψ xs).prefix)) e.second r' t' → Built (with_raws ψ (xs ++ f ψ.prefix)) s r' t'
  then-done e q r' t' m = rw (built-second (with_raws ψ xs) s r t k e q, append) at m
    where
      append : with_raws (with_raws ψ xs) (f (with_raws ψ xs).prefix) ≡ with_raws ψ (xs ++ f ψ.prefix)
      append = unfold with_raws in sym (raws-append ψ xs (f ψ.prefix))

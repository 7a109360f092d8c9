-- Laws of the resolvents.
-- Assumes nothing.
use Prim.Native.Nat.{ℕ, ◌+◌, ◌-◌, ◌≤◌, ◌<◌}
use mathlib.Core.Path.{◌≡◌, refl, ap, ◌∙◌, subst}
use mathlib.Core.Bool.{Bool, true, false, cond}
use mathlib.Core.List.{List, [], ◌∷◌, ◌++◌}
use lib.ListN.{length, get_or, drop, drop_of_length-le}
use lib.Seq.{drop-cons}
use native.Mathlib.Numerals.{add-one}
use native.Mathlib.Omega.{arith}
use Rattle.meaning.specs.Lists.{keep_if, has, without}
use Rattle.meaning.specs.Formula.{Formula, plain, negated}
use Rattle.meaning.specs.Tidy.{build_on}
use Rattle.meaning.specs.WellFormed.{well_formed}
use Rattle.rules.specs.Eliminate.{with_lit, resolvents_of, resolvents}
use Rattle.table.specs.Table.{decode, with_raw, Holds}
use Rattle.table.specs.Answer.{Became, Built}
use Rattle.table.specs.declared.Counts.{Counts}
use Rattle.std.specs.Prelude.{Option, Some, None}
use Rattle.rebuilds.specs.Raws.{with_raws, Going}
use Rattle.resolving.specs.Pairs.{each_of, of_pair, of_clause, Phases, Silent, Within}
use Rattle.merging.specs.Merging.{joined, Ordered}
use Rattle.merging.proofs.OrderedLaws.{ordered_at}
use Rattle.table.proofs.HoldLaws.{count-clauses}
use Rattle.table.proofs.DecodeLaws.{decode-holds, holds-decoded}
use Rattle.rebuilds.proofs.BuildLaws.{built_of, built-there, going_start, going_next, going-full, going_end}

-- One pair --------------------------------------------------------------------------------------------------------
pub pair_made : {l m : ℕ} → Phases l m → (x y : List ℕ) → has m y ≡ true → {ψ : Formula} {s : Bool} {r : Option Counts} {t : List ℕ} → Became ψ (with_raw ψ (joined l (l + 1) x y)) s r t → Built (with_raws ψ (of_pair l m x y)) s r t
unfolding of_pair with_raws build_on with_raw
pair_made {l} {m} p x y n k = rw (n, p.next) (built_of k)

-- One clause ------------------------------------------------------------------------------------------------------
module _ (l m : ℕ) (cs : List (List ℕ)) (x : List ℕ) (b : Bool) (is : b ≡ has l x) where
  pub clause-left : {ψ : Formula} {t : List ℕ} {d : Counts} → Holds ψ t d → b ≡ false → Built (with_raws ψ (of_clause l m cs x)) d.second (Some d) t
  unfolding of_clause with_raws build_on
  clause-left {ψ} {t} {d} h n = rw (← is, n) (built-there h)

  pub clause-taken : (ψ : Formula) (s : Bool) (r : Option Counts) (t : List ℕ) → b ≡ true → Built (with_raws ψ (each_of (of_pair l m x) cs)) s r t → Built (with_raws ψ (of_clause l m cs x)) s r t
  unfolding of_clause
  clause-taken ψ s r t n k = rw (← is, n) k

-- All clauses -----------------------------------------------------------------------------------------------------
module _ (f : List ℕ → List (List ℕ)) (ψ : Formula) (cs : List (List ℕ)) (b : Bool) (t : List ℕ) (e : Counts) (i : ℕ)
    (g : Going ψ (each_of f cs) (each_of f (drop i cs)) b t e) where
  pub each-end : length cs ≤ i → Built (with_raws ψ (each_of f cs)) b (Some e) t
  unfolding each_of
  each-end h = going_end ψ (each_of f cs) (each_of f (drop i cs)) b t e g (rw (drop_of_length-le cs {i = i} h))

  module _ (h : i < length cs) (some : List (List ℕ)) (is : some ≡ f (get_or cs i [])) (r : Option Counts) (t' : List ℕ) (k : Built (with_raws g.formula some) e.second r t') where
    split : each_of f (drop i cs) ≡ some ++ each_of f (drop (i + 1) cs)
    unfolding each_of
    split = rw (add-one, drop-cons cs i [] h, is)

    pub each_next : (e' : Counts) → r ≡ Some e' → Going ψ (each_of f cs) (each_of f (drop (i + 1) cs)) b t' e'
    each_next = going_next ψ (each_of f cs) (each_of f (drop i cs)) b t e g some (each_of f (drop (i + 1) cs)) split r t' k

    pub each-full : r ≡ None → Built (with_raws ψ (each_of f cs)) b None t'
    each-full = going-full ψ (each_of f cs) (each_of f (drop i cs)) b t e g some (each_of f (drop (i + 1) cs)) split r t' k

-- Clauses without m -----------------------------------------------------------------------------------------------
pub pair-silent : (l m : ℕ) (x : List ℕ) → Silent m (of_pair l m x)
unfolding of_pair
pair-silent l m x y n = rw n

module _ (m : ℕ) (cs : List (List ℕ)) (i : ℕ) (h : i < length cs) (y : List ℕ) (is : y ≡ get_or cs i []) (n : has m y ≡ false) where
  pub silent-next : (f : List ℕ → List (List ℕ)) → Silent m f → each_of f (drop i cs) ≡ each_of f (drop (i + 1) cs)
  unfolding each_of
  silent-next f s = rw (add-one, drop-cons cs i [] h, ← is, s y n)

pub each_none : (f : List ℕ → List (List ℕ)) (cs : List (List ℕ)) (i : ℕ) → length cs ≤ i → each_of f (drop i cs) ≡ []
unfolding each_of
each_none f cs i h = rw (drop_of_length-le cs {i = i} h)

pub silent-back : (m : ℕ) (cs : List (List ℕ)) (i : ℕ) → 0 < i → i ≤ length cs → (y : List ℕ) → y ≡ get_or cs (i - 1) [] → has m y ≡ false
    → (f : List ℕ → List (List ℕ)) → Silent m f → each_of f (drop i cs) ≡ [] → each_of f (drop (i - 1) cs) ≡ []
silent-back m cs i h k y is n f s e =
    let up : i - 1 + 1 ≡ i = omega arith in
    silent-next m cs (i - 1) (omega arith) y is n f s ∙ ap (λ (x : ℕ). each_of f (drop x cs)) up ∙ e

pub within_of : {φ : Formula} {source : List ℕ} {c : Counts} → Holds φ source c → well_formed (decode source c) ≡ true → (l m from to : ℕ) → Phases l m → from ≤ to → to ≤ c.clauses
    → ((χ : Formula) (f : List ℕ → List (List ℕ)) → Holds χ source c → Silent m f → each_of f χ.clauses ≡ each_of f (drop from χ.clauses))
    → ((χ : Formula) (f : List ℕ → List (List ℕ)) → Holds χ source c → Silent m f → each_of f (drop to χ.clauses) ≡ []) → Within l m (decode source c) from to
within_of {φ} {source} {c} h w l m from to p o n a b =
    record {
      well = w;
      phases = p;
      order = o;
      few = omega (arith, n, count-clauses (holds-decoded h));
      skips = λ f s. a (decode source c) f (holds-decoded h) s;
      ends = λ f s. b (decode source c) f (holds-decoded h) s;
    }

module _ {φ : Formula} {source : List ℕ} {c : Counts} (h : Holds φ source c) {l m from to : ℕ} (w : Within l m (decode source c) from to) where
  pub within-few : to ≤ c.clauses
  within-few = omega (arith, w.few, count-clauses (holds-decoded h))

  -- its clauses can be merged
  pub within-ordered : (i : ℕ) (y : List ℕ) → y ≡ get_or φ.clauses i [] → Ordered y
  within-ordered i y e =
      rw e (ordered_at φ (rw (decode-holds φ source c h) at w.well) h.fitting i)

  module _ (f : List ℕ → List (List ℕ)) (s : Silent m f) where
    -- what comes of the clauses before is nothing, and of those behind
    pub each_start : {ψ : Formula} {t : List ℕ} {d : Counts} → Holds ψ t d → Going ψ (each_of f φ.clauses) (each_of f (drop from φ.clauses)) d.second t d
    each_start {ψ} {t} {d} k =
        let e : each_of f φ.clauses ≡ each_of f (drop from φ.clauses) = rw (decode-holds φ source c h) at (w.skips f s) in
        subst (λ (rest : List (List ℕ)). Going ψ (each_of f φ.clauses) rest d.second t d) e (going_start ψ (each_of f φ.clauses) t d k)

    pub each-stop : (ψ : Formula) (b : Bool) (t : List ℕ) (e : Counts) (i : ℕ) → Going ψ (each_of f φ.clauses) (each_of f (drop i φ.clauses)) b t e → i ≡ to → Built (with_raws ψ (each_of f φ.clauses)) b (Some e) t
    each-stop ψ b t e i g q =
        let z : each_of f (drop to φ.clauses) ≡ [] = rw (decode-holds φ source c h) at (w.ends f s) in
        going_end ψ (each_of f φ.clauses) (each_of f (drop i φ.clauses)) b t e g (ap (λ (x : ℕ). each_of f (drop x φ.clauses)) q ∙ z)

-- They are document 01's resolvents -----------------------------------------------------------------------------------
module _ (a : ℕ) where
  pairs-are : (x : List ℕ) (ys : List (List ℕ)) → each_of (of_pair (plain a) (negated a) x) ys ≡ resolvents_of a x (with_lit (negated a) ys)
  unfolding each_of of_pair joined with_lit keep_if resolvents_of
  pairs-are x [] = refl
  pairs-are x (y ∷ ys) = go (has (negated a) y) (pairs-are x ys)
    where
      rest : List (List ℕ)
      rest = each_of (of_pair (plain a) (negated a) x) ys

      go : (b : Bool) → rest ≡ resolvents_of a x (with_lit (negated a) ys) → cond b ((without (plain a) x ++ without (negated a) y) ∷ []) [] ++ rest ≡ resolvents_of a x (cond b (y ∷ with_lit (negated a) ys) (with_lit (negated a) ys))
      go true ih = ap (λ (z : List (List ℕ)). (without (plain a) x ++ without (negated a) y) ∷ z) ih
      go false ih = ih

  pub resolvents-are : (xs ys : List (List ℕ)) → each_of (of_clause (plain a) (negated a) ys) xs ≡ resolvents a (with_lit (plain a) xs) (with_lit (negated a) ys)
  unfolding each_of of_clause with_lit keep_if resolvents
  resolvents-are [] ys = refl
  resolvents-are (x ∷ xs) ys = go (has (plain a) x) (pairs-are x ys) (resolvents-are xs ys)
    where
      rest : List (List ℕ)
      rest = each_of (of_clause (plain a) (negated a) ys) xs

      go : (b : Bool) → each_of (of_pair (plain a) (negated a) x) ys ≡ resolvents_of a x (with_lit (negated a) ys) → rest ≡ resolvents a (with_lit (plain a) xs) (with_lit (negated a) ys)
          → cond b (each_of (of_pair (plain a) (negated a) x) ys) [] ++ rest ≡ resolvents a (cond b (x ∷ with_lit (plain a) xs) (with_lit (plain a) xs)) (with_lit (negated a) ys)
      go true e ih = rw (e, ih)
      go false e ih = ih

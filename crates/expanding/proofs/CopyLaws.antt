-- Laws of the copies: the entries that are left make the whole.
-- Assumes nothing.
use Prim.Native.Nat.{ℕ, zero, suc, ◌+◌, ◌-◌, ◌*◌, ◌≤◌, ◌<◌}
use mathlib.Core.Path.{◌≡◌, refl, sym, ap, ◌∙◌}
use mathlib.Core.Bool.{Bool, true, false, not, cond}
use mathlib.Core.List.{List, [], ◌∷◌, ◌++◌, map, append-nil, append_assoc}
use lib.ListN.{length, take, length-append}
use lib.Dec.{leb}
use native.Mathlib.Omega.{arith}
use Rattle.meaning.specs.Lists.{all_of, keep_if, up_from}
use Rattle.meaning.specs.Formula.{Formula, var, plain, mentions}
use Rattle.meaning.specs.WellFormed.{fits, max_variables}
use Rattle.rules.specs.Eliminate.{fresh}
use Rattle.table.specs.Table.{table_of, counts_of, with_variable, Holds}
use Rattle.table.specs.Answer.{Became, Built}
use Rattle.table.specs.declared.Counts.{Counts}
use Rattle.std.specs.Prelude.{Option, Some, None}
use Rattle.expanding.specs.Copies.{with_entries, copies_from}
use Rattle.meaning.proofs.Basics.{and_l, clash, false_of}
use Rattle.meaning.proofs.Lists.{all_append}
use Rattle.meaning.proofs.Parts.{room_of, of_room}
use Rattle.table.proofs.HoldLaws.{count-variables}
use Rattle.rebuilds.proofs.BuildLaws.{built_of, built-there, built-not, built-done, built-second, built-full}

entries_none : (ψ : Formula) → with_entries ψ [] ≡ ψ
unfolding with_entries
entries_none ψ = λ i. record { prefix = append-nil ψ.prefix i; clauses = ψ.clauses }

entries-append : (ψ : Formula) (xs ys : List ℕ) → with_entries ψ (xs ++ ys) ≡ with_entries (with_entries ψ xs) ys
unfolding with_entries
entries-append ψ xs ys = λ i. record { prefix = sym (append_assoc ψ.prefix xs ys) i; clauses = ψ.clauses }

entries_fit : (ψ : Formula) (es : List ℕ) → fits (with_entries ψ es) ≡ true → fits ψ ≡ true
unfolding with_entries
entries_fit ψ es f =
    let r = room_of (with_entries ψ es) f in
    of_room ψ
    (record {
      variables = omega (arith, r.variables, length-append ψ.prefix es);
      numbers = and_l (all_of (λ q. leb (var q) max_variables) ψ.prefix) (all_of (λ q. leb (var q) max_variables) es) (sym (all_append (λ q. leb (var q) max_variables) ψ.prefix es) ∙ r.numbers);
      clauses = r.clauses;
      literals = r.literals;
    })

entries-not : (ψ : Formula) (es : List ℕ) → fits ψ ≡ false → fits (with_entries ψ es) ≡ false
entries-not ψ es f = false_of (fits (with_entries ψ es)) (λ t. clash (entries_fit ψ es t) f)

no_copies : (n : ℕ) → map plain (take {A = ℕ} n []) ≡ []
no_copies zero = refl
no_copies (suc n) = refl

plain-is : (x : ℕ) → plain x ≡ 2 * x
unfolding plain
plain-is x = refl

one-copy : (n v : ℕ) → map plain (take (suc n) (v ∷ [])) ≡ plain v ∷ []
one-copy n v = ap (λ (l : List ℕ). plain v ∷ l) (no_copies n)

-- One number ---------------------------------------------------------------------------------------------------------
module _ (p : List ℕ) {ψ : Formula} {t : List ℕ} {e : Counts} (h : Holds ψ t e) (enough v : ℕ) where
  pub copy-enough : enough ≤ e.variables → Built (with_entries ψ (copies_from p (enough - e.variables) v 1)) e.second (Some e) t
  unfolding copies_from
  copy-enough k =
      let z : enough - e.variables ≡ 0 = omega arith in
      rw (z, entries_none ψ) (built-there h)

  pub copy-there : (b : Bool) → b ≡ mentions p v → b ≡ true → Built (with_entries ψ (copies_from p (enough - e.variables) v 1)) e.second (Some e) t
  unfolding copies_from keep_if up_from
  copy-there b is k = rw (← is, k) (rw (no_copies (enough - e.variables), entries_none ψ) (built-there h))

  pub copy-new : (b : Bool) → b ≡ mentions p v → b ≡ false → e.variables < enough → (r : Option Counts) (t' : List ℕ) → Became ψ (with_variable ψ (2 * v)) e.second r t' → Built (with_entries ψ (copies_from p (enough - e.variables) v 1)) e.second r t'
  unfolding copies_from keep_if up_from with_entries with_variable
  copy-new b is k m r t' q =
      let z : enough - e.variables ≡ suc (enough - e.variables - 1) = omega arith in
      rw (← is, k, z, one-copy (enough - e.variables - 1) v, plain-is v) (built_of q)

-- All numbers --------------------------------------------------------------------------------------------------------
pub record Copying (p : List ℕ) (ψ : Formula) (enough v m : ℕ) (all : List ℕ) (b : Bool) (t : List ℕ) (e : Counts) : Type 0 where
  pub formula : Formula
  pub holds : Holds formula t e
  pub second : e.second ≡ b
  pub left : with_entries formula (copies_from p (enough - e.variables) v m) ≡ with_entries ψ all

-- the first number apart from the others
split-copies : (p : List ℕ) (n v m : ℕ) → copies_from p n v (suc m) ≡ copies_from p n v 1 ++ copies_from p (n - length (copies_from p n v 1)) (suc v) m
unfolding copies_from keep_if up_from
split-copies p n v m = go (mentions p v) n
  where
    rest : List ℕ
    rest = keep_if (λ w. not (mentions p w)) (up_from (suc v) m)

    go : (b : Bool) (n : ℕ) → map plain (take n (cond (not b) (v ∷ rest) rest)) ≡ map plain (take n (cond (not b) (v ∷ []) [])) ++ map plain (take (n - length (map plain (take n (cond (not b) (v ∷ []) [])))) rest)
    go true zero = refl
    go true (suc n) = let d : suc n ≡ suc n - 0 = omega arith in ap (λ (k : ℕ). map plain (take k rest)) d
    go false zero = refl
    go false (suc n) = let d : n ≡ suc n - 1 = omega arith in rw (no_copies n) (ap (λ (k : ℕ). plain v ∷ map plain (take k rest)) d)

pub copying-start : (p : List ℕ) {ψ : Formula} {t : List ℕ} {d : Counts} → Holds ψ t d → (n k enough m : ℕ) → length p ≡ k → enough ≡ d.variables + n → m ≡ k + n → Copying p ψ enough 1 m (map plain (fresh p n)) d.second t d
unfolding copies_from fresh
copying-start p {ψ} {t} {d} h n k enough m l e q =
    let z : enough - d.variables ≡ n = omega arith in
    record { formula = ψ; holds = h; second = refl; left = rw (z, q, ← l) }

module _ (p : List ℕ) (ψ : Formula) (enough v m : ℕ) (all : List ℕ) (b : Bool) (t : List ℕ) (e : Counts) (g : Copying p ψ enough v m all b t e) where
  pub copying-end : m ≡ 0 → Built (with_entries ψ all) b (Some e) t
  unfolding copies_from up_from keep_if
  copying-end z =
      let x : g.formula ≡ with_entries ψ all = sym (entries_none g.formula) ∙ ap (with_entries g.formula) (sym (rw z (no_copies (enough - e.variables)))) ∙ g.left in
      let f : fits (with_entries ψ all) ≡ true = ap fits (sym x) ∙ g.holds.fitting in
      record {
        answer = rw f (ap Some (g.holds.counts ∙ ap (counts_of g.formula) g.second ∙ ap (λ (χ : Formula). counts_of χ b) x));
        table = λ y. g.holds.table ∙ ap table_of x;
      }

  module _ (m' w : ℕ) (is : m ≡ suc m') (next : w ≡ suc v) (r : Option Counts) (t' : List ℕ) (k : Built (with_entries g.formula (copies_from p (enough - e.variables) v 1)) e.second r t') where
    abbrev first : List ℕ
    first = copies_from p (enough - e.variables) v 1

    onward : with_entries (with_entries g.formula first) (copies_from p (enough - e.variables - length first) w m') ≡ with_entries ψ all
    onward =
        sym (entries-append g.formula first (copies_from p (enough - e.variables - length first) w m'))
        ∙ ap (with_entries g.formula) (ap (λ (x : ℕ). first ++ copies_from p (enough - e.variables - length first) x m') next ∙ sym (split-copies p (enough - e.variables) v m') ∙ ap (copies_from p (enough - e.variables) v) (sym is))
        ∙ g.left

    pub copying-full : r ≡ None → Built (with_entries ψ all) b None t'
    copying-full q =
        built-not (with_entries ψ all) b t'
        (ap fits (sym onward) ∙ entries-not (with_entries g.formula first) (copies_from p (enough - e.variables - length first) w m') (built-full (with_entries g.formula first) e.second r t' k q))

    pub copying-next : (e' : Counts) → r ≡ Some e' → Copying p ψ enough w m' all b t' e'
    unfolding with_entries
    copying-next e' q =
        let h = built-done (with_entries g.formula first) e.second r t' k e' q in
        let z : enough - e.variables - length first ≡ enough - e'.variables = omega (arith, count-variables h, count-variables g.holds, length-append g.formula.prefix first) in
        record {
          formula = with_entries g.formula first;
          holds = h;
          second = built-second (with_entries g.formula first) e.second r t' k e' q ∙ g.second;
          left = ap (λ (n : ℕ). with_entries (with_entries g.formula first) (copies_from p n w m')) (sym z) ∙ onward;
        }

-- Laws of the new prefix.
-- Assumes nothing.
use Prim.Native.Nat.{ℕ, zero, suc, ◌+◌, ◌/◌, ◌≤◌, ◌<◌}
use mathlib.Core.Path.{◌≡◌, refl, sym, ap, ◌∙◌}
use mathlib.Core.Bool.{Bool, true, false, not, cond}
use mathlib.Core.List.{List, [], ◌∷◌, ◌++◌}
use lib.ListN.{length, get_or, take}
use lib.Seq.{take-suc, take_all, length-take-le}
use lib.Dec.{leb}
use borrow.Author.Tests.{eq-eqb, ne_eqb}
use native.Mathlib.Omega.{arith}
use native.Mathlib.Numerals.{add-one}
use Rattle.meaning.specs.Lists.{all_of, keep_if}
use Rattle.meaning.specs.Formula.{Formula, var, is_var, drop_var}
use Rattle.meaning.specs.WellFormed.{literals, fits, max_variables}
use Rattle.table.specs.Table.{table_of, counts_of, with_variable, empty_formula, Holds}
use Rattle.table.specs.Answer.{Became}
use Rattle.table.specs.declared.Counts.{Counts}
use Rattle.std.specs.Option.{unwrap_or}
use Rattle.std.specs.Prelude.{Option, Some, None}
use Rattle.rebuilds.specs.Raws.{bare, keep_entry}
use Rattle.meaning.proofs.Basics.{and_l, and_r, and_i, clash}
use Rattle.meaning.proofs.Lists.{all-keep-le}
use Rattle.meaning.proofs.Parts.{room_of, of_room}
use Rattle.table.proofs.HoldLaws.{prefix-is, empty_holds}
use Rattle.table.proofs.AnswerLaws.{became-done, became-second, became-full}

-- One entry -----------------------------------------------------------------------------------------------------
module _ {ψ : Formula} {t : List ℕ} {e : Counts} (h : Holds ψ t e) (v q : ℕ) where
  pub keep-skip : q / 2 ≡ v → Holds (keep_entry v ψ q) t e
  unfolding keep_entry is_var var
  keep-skip k = rw (eq-eqb (q / 2) v k) h

  module _ (other : q / 2 ≡ v → ⊥) (r : Option Counts) (t' : List ℕ) (b : Became ψ (with_variable ψ q) e.second r t') where
    keep-is : keep_entry v ψ q ≡ with_variable ψ q
    unfolding keep_entry is_var var
    keep-is = rw (ne_eqb (q / 2) v other)

    pub keep-push : (d : Counts) → r ≡ Some d → Holds (keep_entry v ψ q) t' d × (d.second ≡ e.second)
    keep-push d p = (rw keep-is (became-done ψ (with_variable ψ q) e.second r t' b d p), became-second ψ (with_variable ψ q) e.second r t' b d p)

    pub keep-or : fits (keep_entry v ψ q) ≡ true → {x : Counts} → x ≡ unwrap_or r e → Holds (keep_entry v ψ q) t' x × (x.second ≡ e.second)
    keep-or f {x} is = go r refl is
      where
        go : (o : Option Counts) → r ≡ o → x ≡ unwrap_or o e → Holds (keep_entry v ψ q) t' x × (x.second ≡ e.second)
        go (Some d) p s = rw s (keep-push d p)
        go None p s = clash (ap fits (sym keep-is) ∙ f) (became-full ψ (with_variable ψ q) e.second r t' b p)

-- All entries ---------------------------------------------------------------------------------------------------
drop-snoc : (v : ℕ) (p : List ℕ) (q : ℕ) → drop_var v (p ++ (q ∷ [])) ≡ cond (is_var v q) (drop_var v p) (drop_var v p ++ (q ∷ []))
unfolding drop_var keep_if
drop-snoc v [] q = go (is_var v q)
  where
    go : (b : Bool) → cond (not b) (q ∷ []) [] ≡ cond b [] ([] ++ (q ∷ []))
    go true = refl
    go false = refl
drop-snoc v (x ∷ p) q = go (is_var v x) (is_var v q) (drop-snoc v p q)
  where
    go : (b d : Bool) → drop_var v (p ++ (q ∷ [])) ≡ cond d (drop_var v p) (drop_var v p ++ (q ∷ []))
        → cond (not b) (x ∷ drop_var v (p ++ (q ∷ []))) (drop_var v (p ++ (q ∷ []))) ≡ cond d (cond (not b) (x ∷ drop_var v p) (drop_var v p)) (cond (not b) (x ∷ drop_var v p) (drop_var v p) ++ (q ∷ []))
    go true true ih = ih
    go true false ih = ih
    go false true ih = ap (λ (r : List ℕ). x ∷ r) ih
    go false false ih = ap (λ (r : List ℕ). x ∷ r) ih

-- one entry of p further
keep-next : (v : ℕ) (p : List ℕ) (i : ℕ) → i < length p → keep_entry v (bare (drop_var v (take i p))) (get_or p i 0) ≡ bare (drop_var v (take (i + 1) p))
unfolding keep_entry bare with_variable
keep-next v p i h = go (is_var v (get_or p i 0)) refl
  where
    a : List ℕ
    a = drop_var v (take i p)

    whole : bare (drop_var v (take (i + 1) p)) ≡ bare (cond (is_var v (get_or p i 0)) a (a ++ (get_or p i 0 ∷ [])))
    whole = ap bare (rw (add-one, take-suc p i 0 h) (drop-snoc v (take i p) (get_or p i 0)))

    go : (b : Bool) → is_var v (get_or p i 0) ≡ b → cond (is_var v (get_or p i 0)) (bare a) (with_variable (bare a) (get_or p i 0)) ≡ bare (drop_var v (take (i + 1) p))
    go true e = rw e (sym (whole ∙ rw e))
    go false e = rw e (sym (whole ∙ rw e))

pub length-keep : (f : ℕ → Bool) (p : List ℕ) → length (keep_if f p) ≤ length p
unfolding keep_if
length-keep f [] = omega arith
length-keep f (x ∷ p) = go (f x) (length-keep f p)
  where
    go : (b : Bool) → length (keep_if f p) ≤ length p → length (cond b (x ∷ keep_if f p) (keep_if f p)) ≤ length (x ∷ p)
    go true h = omega arith
    go false h = omega arith

all_take : (f : ℕ → Bool) (i : ℕ) (p : List ℕ) → all_of f p ≡ true → all_of f (take i p) ≡ true
unfolding all_of
all_take f zero p h = refl
all_take f (suc i) [] h = refl
all_take f (suc i) (x ∷ p) h = and_i (f x) (all_of f (take i p)) (and_l (f x) (all_of f p) h) (all_take f i p (and_r (f x) (all_of f p) h))

-- a part of the prefix fits
bare-fits : (φ : Formula) (v i : ℕ) → fits φ ≡ true → i ≤ length φ.prefix → fits (bare (drop_var v (take i φ.prefix))) ≡ true
unfolding bare drop_var literals
bare-fits φ v i f h =
    let r = room_of φ f in
    of_room (bare (drop_var v (take i φ.prefix)))
    (record {
      variables = omega (arith, length-keep (λ q. not (is_var v q)) (take i φ.prefix), length-take-le i φ.prefix h);
      numbers = all-keep-le (λ q. leb (var q) max_variables) (λ q. not (is_var v q)) (take i φ.prefix) (all_take (λ q. leb (var q) max_variables) i φ.prefix r.numbers);
      clauses = omega arith;
      literals = omega arith;
    })

pub copy_start : (v : ℕ) (p t : List ℕ) (b : Bool) → t ≡ table_of empty_formula → (e : Counts) → e ≡ record { variables = 0; clauses = 0; literals = 0; second = b } → Holds (bare (drop_var v (take 0 p))) t e
unfolding bare drop_var keep_if empty_formula counts_of literals
copy_start v p t b h e q = empty_holds t e b h q

module _ (φ : Formula) (t : List ℕ) (c : Counts) (h : Holds φ t c) (i : ℕ) (more : i < length (take c.variables t)) (v : ℕ) where
  entry-is : get_or (take c.variables t) i 0 ≡ get_or φ.prefix i 0
  entry-is = ap (λ (l : List ℕ). get_or l i 0) (prefix-is h)

  within : i < length φ.prefix
  within = omega (arith, ap length (prefix-is h))

  next-is : keep_entry v (bare (drop_var v (take i φ.prefix))) (get_or (take c.variables t) i 0) ≡ bare (drop_var v (take (i + 1) φ.prefix))
  next-is = ap (keep_entry v (bare (drop_var v (take i φ.prefix)))) entry-is ∙ keep-next v φ.prefix i within

  pub copy-fits : fits (keep_entry v (bare (drop_var v (take i φ.prefix))) (get_or (take c.variables t) i 0)) ≡ true
  copy-fits = ap fits next-is ∙ bare-fits φ v (i + 1) h.fitting (omega (arith, within))

  pub copy-turn : (t' : List ℕ) (e : Counts) → Holds (keep_entry v (bare (drop_var v (take i φ.prefix))) (get_or (take c.variables t) i 0)) t' e → Holds (bare (drop_var v (take (i + 1) φ.prefix))) t' e
  copy-turn t' e k = rw next-is at k

pub copy-end : (v : ℕ) (p : List ℕ) (i : ℕ) → length p ≤ i → (t : List ℕ) (c : Counts) → Holds (bare (drop_var v (take i p))) t c → Holds (bare (drop_var v p)) t c
copy-end v p i h t c k = rw (take_all i p h) at k

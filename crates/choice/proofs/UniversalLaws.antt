-- The first universal right of a variable, from variable to variable.
-- Assumes nothing.
use Prim.Native.Nat.{ℕ, zero, suc, ◌+◌, ◌/◌, ◌%◌, ◌<◌}
use mathlib.Core.Path.{◌≡◌, sym, ap, ◌∙◌}
use mathlib.Core.Bool.{true}
use mathlib.Core.List.{List, [], ◌∷◌}
use native.Mathlib.Numerals.{add-one}
use native.Mathlib.Omega.{arith}
use native.Mathlib.Nat.{not-suc-le-zero, le_of_suc-le-suc}
use lib.Dec.{eqb}
use lib.ListN.{length, get_or, take, drop, length-drop}
use Rattle.meaning.specs.Formula.{Formula, var, is_var, mentions, right_of}
use Rattle.meaning.specs.WellFormed.{good_prefix, well_formed}
use Rattle.rules.specs.Eliminate.{from_universal}
use Rattle.table.specs.Table.{Holds}
use Rattle.table.specs.declared.Counts.{Counts}
use Rattle.weigh.specs.Resolving.{FirstUniversal}
use Rattle.meaning.proofs.Basics.{by_cases, clash, eqb-self, eqb-true, eqb-false, eqb-ne}
use Rattle.meaning.proofs.Parts.{good_of}
use Rattle.meaning.proofs.Prefix.{good-out, good-tail}
use Rattle.table.proofs.HoldLaws.{prefix-is, count-variables}
use Rattle.permits.proofs.ScanLaws.{from-stops, from-turn}
use Rattle.table.proofs.LoopLaws.{any_at}
use Rattle.search.proofs.PrefixLaws.{entry_at}

-- entry i stands left of it: it is the first behind entry i too
pub universal-stays : (p : List ℕ) (i n : ℕ) → i < length p → from_universal (drop i p) ≡ drop n p → i < n → from_universal (drop (i + 1) p) ≡ drop n p
universal-stays p i n h e l =
    by_cases (eqb (get_or p i 0 % 2) 1)
    (λ t. let d : drop i p ≡ drop n p = sym (from-stops p i h (eqb-true (get_or p i 0 % 2) 1 t)) ∙ e in
    absurd (omega (arith, ap length d, length-drop i p, length-drop n p)))
    (λ t. sym (from-turn p i h (eqb-false (get_or p i 0 % 2) 1 t)) ∙ e)

mentions-at : (p : List ℕ) (i : ℕ) → i < length p → mentions p (var (get_or p i 0)) ≡ true
unfolding mentions is_var
mentions-at p i h = any_at (λ k. eqb (var k) (var (get_or p i 0))) 0 p i h (eqb-self (var (get_or p i 0)))

-- what stands right of the variable of entry i
right-at : (p : List ℕ) (i : ℕ) → good_prefix p ≡ true → i < length p → right_of (var (get_or p i 0)) p ≡ drop (suc i) p
unfolding right_of is_var
right-at [] i g h = absurd (not-suc-le-zero h)
right-at (q ∷ p) zero g h = rw (eqb-self (var q))
right-at (q ∷ p) (suc i) g h =
    let l : i < length p = le_of_suc-le-suc h in
    let m = mentions-at p i l in
    rw (eqb-ne (var q) (var (get_or p i 0)) (λ e. clash (rw (← e) at m) (good-out q p g))) (right-at p i (good-tail q p g) l)

pub universal-at : {φ : Formula} {t : List ℕ} {c : Counts} → Holds φ t c → well_formed φ ≡ true → (i n v : ℕ) → i < c.variables
    → v ≡ get_or t i 0 / 2 → from_universal (drop (i + 1) (take c.variables t)) ≡ drop n (take c.variables t) → FirstUniversal φ v n
unfolding var
universal-at {φ} {t} {c} h w i n v l e f =
    let q : v ≡ get_or φ.prefix i 0 / 2 = e ∙ ap (λ (x : ℕ). x / 2) (sym (entry_at h i l)) in
    let r = right-at φ.prefix i (good_of φ w) (omega (arith, count-variables h)) in
    let k : from_universal (drop (i + 1) φ.prefix) ≡ drop n φ.prefix = rw (prefix-is h) at f in
    λ m. rw (q, r, ← add-one i) k

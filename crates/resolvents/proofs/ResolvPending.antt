-- What a tidied clause in the scratch is compared with; and that a resolvent's literals are of its two clauses.
-- Assumes nothing.
use Prim.Native.Nat.{ℕ, ◌+◌, ◌*◌}
use mathlib.Core.Path.{◌≡◌, refl, sym, ◌∙◌}
use mathlib.Core.Bool.{Bool, true, false, ◌||◌, not, cond}
use mathlib.Core.List.{List, ◌++◌}
use lib.ListN.{take}
use Rattle.std.specs.Prelude.{Option, Some, None}
use lib.Dec.{eqb}
use Rattle.meaning.specs.Lists.{all_of, has, same, without}
use Rattle.meaning.specs.Formula.{plain, negated}
use Rattle.meaning.specs.Tidy.{Tidied, ascending, both_phases, stays, reduce, dropped, kept, tidy_sorted, tidy}
use Rattle.table.specs.Pending.{Pends, tidied_in}
use Rattle.merging.specs.Merging.{joined}
use Rattle.resolvents.specs.Resolvent.{resolvent, becomes, covers}
use Rattle.meaning.proofs.Basics.{false_of, clash, or-il, or-ir, or_elim}
use Rattle.meaning.proofs.Lists.{any_append, any-ascending, any-keep-le, same-path, all-of-has}

-- Compared with a clause -----------------------------------------------------------------------------------------------
module _ (s : List ℕ) (p : Option ℕ) (x : Tidied) (is : tidied_in s p ≡ x) (c : List ℕ) where
  pub becomes-none : p ≡ None → false ≡ becomes c x
  unfolding tidied_in becomes
  becomes-none e = rw (← is, e)

  pub becomes-same : (m : ℕ) → p ≡ Some m → (r : Bool) → r ≡ same c (take m s) → r ≡ becomes c x
  unfolding tidied_in becomes
  becomes-same m e r q = rw (← is, e) q

-- the two literals of a variable are left out
pub pair-pends : (x y s : List ℕ) (p : Option ℕ) (a l : ℕ) → l ≡ 2 * a → Pends (joined l (l + 1) x y) s p → Pends (resolvent a x y) s p
unfolding resolvent joined plain negated
pair-pends x y s p a l e h = rw e at h

-- A resolvent's literals are of its two clauses ---------------------------------------------------------------------------
left-of : (l n : ℕ) (c : List ℕ) → has l (without n c) ≡ true → has l c ≡ true
unfolding has without
left-of l n c h = any-keep-le (λ k. eqb l k) (λ k. not (eqb n k)) c h

of_either : (q x y : List ℕ) (a l : ℕ) → has l (reduce q (ascending (resolvent a x y))) ≡ true → (has l x || has l y) ≡ true
unfolding has reduce resolvent
of_either q x y a l h =
    let c = ascending (without (plain a) x ++ without (negated a) y) in
    or_elim (has l (without (plain a) x)) (has l (without (negated a) y))
    (sym (any-ascending (λ k. eqb l k) (without (plain a) x ++ without (negated a) y)
    ∙ any_append (λ k. eqb l k) (without (plain a) x) (without (negated a) y)) ∙ any-keep-le (λ k. eqb l k) (stays q c) c h)
    (λ e. or-il (has l x) (has l y) (left-of l (plain a) x e)) (λ e. or-ir (has l x) (has l y) (left-of l (negated a) y e))

pub not_covered : (q x y c : List ℕ) (a : ℕ) → covers x y c ≡ false → becomes c (tidy q (resolvent a x y)) ≡ false
unfolding tidy tidy_sorted becomes covers
not_covered q x y c a n = go (both_phases (ascending (resolvent a x y)))
  where
    go : (b : Bool) → becomes c (cond b dropped (kept (reduce q (ascending (resolvent a x y))))) ≡ false
    go true = refl
    go false =
        false_of (same c (reduce q (ascending (resolvent a x y))))
        (λ e. clash {b = all_of (λ l. has l x || has l y) c}
        (rw (same-path c (reduce q (ascending (resolvent a x y))) e)
        (all-of-has (λ l. has l x || has l y) (reduce q (ascending (resolvent a x y))) (of_either q x y a))) n)

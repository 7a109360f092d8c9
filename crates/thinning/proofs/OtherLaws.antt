-- The clauses with the other literal: which literals the near ones have.
-- Assumes nothing.
use Prim.Native.Nat.{ℕ}
use mathlib.Core.Path.{◌≡◌, refl, sym, ◌∙◌}
use mathlib.Core.Bool.{Bool, true, ◌&&◌, ◌||◌, not}
use mathlib.Core.List.{List, [], ◌∷◌, foldl}
use lib.Dec.{eqb}
use lib.ListN.{length}
use native.Mathlib.Omega.{arith}
use Rattle.meaning.specs.Lists.{any_of, all_of, has}
use Rattle.meaning.specs.Formula.{opposite}
use Rattle.table.specs.Ranks.{small, last_by, stays_by}
use Rattle.flags.specs.Flags.{flag, raised}
use Rattle.meaning.proofs.Basics.{by_cases, clash, false_of, and_l, and_r, or-il, or-ir, or_elim, not-true, eqb-true}
use Rattle.meaning.proofs.Lists.{all-le}
use Rattle.table.proofs.StayLaws.{small-below}
use Rattle.flags.proofs.FlagLaws.{flag-own}
use Rattle.thinning.specs.Thin.{met_with, free_of}
use Rattle.thinning.specs.Others.{near_with, met_if, safe}
use Rattle.thinning.specs.Going.{Meets}
use Rattle.thinning.proofs.GoingLaws.{raised-length, raised_keeps}

-- The flags of literals --------------------------------------------------------------------------------------------
pub all-raised-length : (w c : List ℕ) → length (foldl raised w c) ≡ length w
all-raised-length w [] = refl
all-raised-length w (l ∷ c) = all-raised-length (raised w l) c ∙ raised-length w l

-- one clause
module _ (l : ℕ) where
  all-keeps : (w c : List ℕ) → length w ≡ 32 → all_of small c ≡ true → flag w l ≡ true → flag (foldl raised w c) l ≡ true
  unfolding all_of
  all-keeps w [] n s f = f
  all-keeps w (k ∷ c) n s f =
      all-keeps (raised w k) c (raised-length w k ∙ n) (and_r (small k) (all_of small c) s)
      (raised_keeps w k (omega (arith, n, small-below k (and_l (small k) (all_of small c) s))) l f)

  all-has : (w c : List ℕ) → length w ≡ 32 → all_of small c ≡ true → has l c ≡ true → flag (foldl raised w c) l ≡ true
  unfolding all_of has any_of
  all-has w [] n s h = clash h refl
  all-has w (k ∷ c) n s h =
      let m : length (raised w k) ≡ 32 = raised-length w k ∙ n in
      let r = and_r (small k) (all_of small c) s in
      or_elim (eqb l k) (has l c) h
      (λ e. all-keeps (raised w k) c m r (rw (eqb-true l k e) (flag-own w k (omega (arith, n, small-below k (and_l (small k) (all_of small c) s))))))
      (λ t. all-has (raised w k) c m r t)

  -- the clauses that pass the test
  module _ (f : List ℕ → Bool) where
    met-length : (w c : List ℕ) → length (met_if f w c) ≡ length w
    unfolding met_if
    met-length w c = by_cases (f c) (λ h. rw h (all-raised-length w c)) (λ h. rw h)

    met-keeps : (w : List ℕ) (cs : List (List ℕ)) → length w ≡ 32 → all_of (all_of small) cs ≡ true → flag w l ≡ true → flag (foldl (met_if f) w cs) l ≡ true
    unfolding all_of
    met-keeps w [] n s t = t
    met-keeps w (c ∷ cs) n s t =
        met-keeps (met_if f w c) cs (met-length w c ∙ n) (and_r (all_of small c) (all_of (all_of small) cs) s)
        (by_cases (f c) (λ h. unfold met_if in rw h (all-keeps w c n (and_l (all_of small c) (all_of (all_of small) cs) s) t)) (λ h. unfold met_if in rw h t))

    met_has : (w : List ℕ) (cs : List (List ℕ)) → length w ≡ 32 → all_of (all_of small) cs ≡ true → any_of (λ c. f c && has l c) cs ≡ true → flag (foldl (met_if f) w cs) l ≡ true
    unfolding all_of any_of
    met_has w [] n s h = clash h refl
    met_has w (c ∷ cs) n s h =
        let m : length (met_if f w c) ≡ 32 = met-length w c ∙ n in
        let r = and_r (all_of small c) (all_of (all_of small) cs) s in
        or_elim (f c && has l c) (any_of (λ c. f c && has l c) cs) h
        (λ t. met-keeps (met_if f w c) cs m r (unfold met_if in rw (and_l (f c) (has l c) t) (all-has w c n (and_l (all_of small c) (all_of (all_of small) cs) s) (and_r (f c) (has l c) t))))
        (λ t. met_has (met_if f w c) cs m r t)

module _ (ranks : List ℕ) (e o : ℕ) (cs : List (List ℕ)) (met : List ℕ) where
  pub met_all : (w : List ℕ) → length w ≡ 32 → all_of (all_of small) cs ≡ true → met ≡ foldl (met_if (near_with ranks e o)) w cs → Meets ranks e o cs met
  unfolding met_with near_with
  met_all w n s q = record { all = λ l h. rw q (met_has l (near_with ranks e o) w cs n s h) }

  -- a clause is free, where of none of its literals that go the opposite is flagged
  pub free-of : Meets ranks e o cs met → (c : List ℕ) (d : ℕ) → d ≡ last_by ranks e c → {b : Bool} → b ≡ all_of (safe ranks d met) c → b ≡ true → free_of ranks e o cs c ≡ true
  unfolding free_of safe
  free-of m c d q is a =
      all-le (safe ranks d met) (λ l. stays_by ranks (last_by ranks e c) l || not (met_with ranks e o cs (opposite l))) c
      (λ l h. rw (← q) (or_elim (stays_by ranks d l) (not (flag met (opposite l))) h
      (λ t. or-il (stays_by ranks d l) (not (met_with ranks e o cs (opposite l))) t)
      (λ t. or-ir (stays_by ranks d l) (not (met_with ranks e o cs (opposite l))) (rw (false_of (met_with ranks e o cs (opposite l)) (λ y. clash (m.all (opposite l) y) (not-true (flag met (opposite l)) t)))))))
      (sym is ∙ a)

-- The lightest step of kind 6 or 7, by a loop from the left that keeps the best so far.
-- Assumes nothing.
use mathlib.Core.Path.{◌≡◌, refl, sym, ◌∙◌, ap}
use Prim.Native.Nat.{ℕ, ◌+◌, ◌<◌, ◌≤◌}
use native.Mathlib.Omega.{arith}
use mathlib.Core.Bool.{Bool, true, false, ◌&&◌, ◌||◌, not, cond, or-true, or_assoc}
use mathlib.Core.List.{List, [], ◌∷◌}
use lib.Dec.{ltb, leb}
use borrow.Author.Tests.{leb-true, leb-false, ltb-true, ltb-false, lt-ltb, le-ltb}
use Rattle.meaning.specs.Lists.{any_of}
use Rattle.meaning.specs.Formula.{Formula}
use Rattle.meaning.specs.WellFormed.{weight, fits}
use Rattle.rules.specs.Entry.{Kind, resolve, expand}
use Rattle.rules.specs.Step.{permitted, result_of}
use Rattle.rules.specs.Choice.{costly, light, wanted, allowed_call, blocked_call, firsts, Found, none, found, lighter, lightest, candidate}
use Rattle.growth.specs.Weights.{weighed, weighed_step}
use Rattle.growth.specs.declared.Weighed.TheVariants.{Over, Fitting, Wide}
use Rattle.meaning.proofs.Basics.{by_cases, and_l, and_r, or-false}
use Rattle.choice.specs.Chosen.{lack_of, best_as, any_of_kind, best_of, limit_of, roomless, considered, consider_all, nothing_yet}
use Rattle.std.specs.Prelude.{Ok, Err}
use Rattle.choice.specs.declared.Standing.{Standing}

-- the lightest by a loop that replaces the best so far by what is lighter ---------------------------------------
unfoldable overtaken : (ℕ → ℕ) → Found → ℕ → Found
overtaken w none a = found a 0
overtaken w (found c d) a = cond (ltb (w a) (w c)) (found a 0) (found c d)

unfoldable lightest_on : (ℕ → Bool) → (ℕ → ℕ) → Found → List ℕ → Found
lightest_on t w best [] = best
lightest_on t w best (a ∷ l) = lightest_on t w (cond (t a) (overtaken w best a) best) l

unfoldable merge : (ℕ → ℕ) → Found → Found → Found
merge w none f = f
merge w (found c d) none = found c d
merge w (found c d) (found a b) = cond (ltb (w a) (w c)) (found a b) (found c d)

merge_none : (w : ℕ → ℕ) (f : Found) → f ≡ merge w f none
unfolding merge
merge_none w none = refl
merge_none w (found c d) = refl

overtaken-lighter : (w : ℕ → ℕ) (best : Found) (a : ℕ) (f : Found) → merge w (overtaken w best a) f ≡ merge w best (lighter w a f)
unfolding merge overtaken lighter
overtaken-lighter w none a none = refl
overtaken-lighter w none a (found x y) = go (leb (w a) (w x)) refl
  where
    go : (s : Bool) → leb (w a) (w x) ≡ s → cond (ltb (w x) (w a)) (found x y) (found a 0) ≡ cond s (found a 0) (found x y)
    go true e = rw (le-ltb (w x) (w a) (leb-true (w a) (w x) e))
    go false e = rw (lt-ltb (w x) (w a) (leb-false (w a) (w x) e))
overtaken-lighter w (found c d) a none = go (ltb (w a) (w c))
  where
    go : (s : Bool) → merge w (cond s (found a 0) (found c d)) none ≡ cond s (found a 0) (found c d)
    go true = refl
    go false = refl
overtaken-lighter w (found c d) a (found x y) = go (ltb (w a) (w c)) (leb (w a) (w x)) refl refl
  where
    go : (s t : Bool) → ltb (w a) (w c) ≡ s → leb (w a) (w x) ≡ t → merge w (cond s (found a 0) (found c d)) (found x y) ≡ merge w (found c d) (cond t (found a 0) (found x y))
    go true true e i = rw (e, le-ltb (w x) (w a) (leb-true (w a) (w x) i))
    go true false e i = let p : w a < w c = ltb-true (w a) (w c) e in let q : w x < w a = leb-false (w a) (w x) i in rw (lt-ltb (w x) (w a) q, lt-ltb (w x) (w c) (omega arith))
    go false true e i = let p : w c ≤ w a = ltb-false (w a) (w c) e in let q : w a ≤ w x = leb-true (w a) (w x) i in rw (e, le-ltb (w x) (w c) (omega arith))
    go false false e i = refl

lightest-on : (t : ℕ → Bool) (w : ℕ → ℕ) (best : Found) (l : List ℕ) → lightest_on t w best l ≡ merge w best (lightest t w l)
unfolding lightest_on lightest
lightest-on t w best [] = merge_none w best
lightest-on t w best (a ∷ l) = go (t a) (λ b. lightest-on t w b l)
  where
    go : (s : Bool) → ((b : Found) → lightest_on t w b l ≡ merge w b (lightest t w l)) → lightest_on t w (cond s (overtaken w best a) best) l ≡ merge w best (cond s (lighter w a (lightest t w l)) (lightest t w l))
    go true ih = ih (overtaken w best a) ∙ overtaken-lighter w best a (lightest t w l)
    go false ih = ih best

-- The standing of the code ------------------------------------------------------------------------------------
module _ (E : ℕ) (φ : Formula) (k : Kind) where
  unfoldable result_weight : ℕ → ℕ
  result_weight a = weight (result_of φ k a 0)

  unfoldable counts : ℕ → Bool
  counts a = allowed_call E φ k a 0

  -- the standing for the best so far, and for whether one failed only for room
  unfoldable standing : Found → Bool → Standing
  standing none room = record { best = Err (lack_of room); below = limit_of E φ k }
  standing (found c d) room = record { best = Ok c; below = result_weight c }

  -- what counts stays below the limit
  abbrev Within : Found → Type 0
  Within none = Unit {0}
  Within (found c d) = result_weight c < limit_of E φ k

  module _ (dear : costly k ≡ true) (limit : (a : ℕ) → light E k (weight φ) (result_weight a) ≡ ltb (result_weight a) (limit_of E φ k)) where
    -- a step by its three tests: it is permitted, below the limit, and fits
    counts-is : (a : ℕ) → counts a ≡ ((permitted φ k a 0 && ltb (result_weight a) (limit_of E φ k)) && fits (result_of φ k a 0))
    unfolding counts allowed_call wanted result_weight
    counts-is a = rw (dear, limit a)

    blocked-is : (a : ℕ) → blocked_call E φ k a 0 ≡ ((permitted φ k a 0 && ltb (result_weight a) (limit_of E φ k)) && not (fits (result_of φ k a 0)))
    unfolding blocked_call wanted result_weight
    blocked-is a = rw (dear, limit a)

    -- one variable more
    module _ (a : ℕ) (room : Bool) where
      first_one : (p x f : Bool) → considered (standing none room) a (cond p (cond x (cond f (Fitting (result_weight a)) Wide) Over) Over) ≡ standing (cond ((p && x) && f) (overtaken result_weight none a) none) (room || ((p && x) && not f))
      unfolding considered standing overtaken roomless lack_of
      first_one true true true = refl
      first_one true true false = rw (or-true room)
      first_one true false f = rw (or-false room)
      first_one false x f = rw (or-false room)

      next_one : (c d : ℕ) (p x y f : Bool) → (y ≡ true → x ≡ true) → ltb (result_weight a) (result_weight c) ≡ y → considered (standing (found c d) room) a (cond p (cond y (cond f (Fitting (result_weight a)) Wide) Over) Over) ≡ standing (cond ((p && x) && f) (overtaken result_weight (found c d) a) (found c d)) (room || ((p && x) && not f))
      unfolding considered standing overtaken roomless lack_of
      next_one c d true x true true h e = rw (h refl, e)
      next_one c d true x true false h e = rw (h refl)
      next_one c d true x false f h e = go (x && f)
        where
          go : (z : Bool) → standing (found c d) room ≡ standing (cond z (cond (ltb (result_weight a) (result_weight c)) (found a 0) (found c d)) (found c d)) (room || (x && not f))
          go true = rw e
          go false = refl
      next_one c d false x y f h e = refl

      one-more : (best : Found) → Within best → considered (standing best room) a (weighed_step (standing best room).below φ k a) ≡ standing (cond (counts a) (overtaken result_weight best a) best) (room || blocked_call E φ k a 0)
      unfolding weighed_step weighed result_weight standing
      one-more none h = rw (counts-is a, blocked-is a) (first_one (permitted φ k a 0) (ltb (result_weight a) (limit_of E φ k)) (fits (result_of φ k a 0)))
      one-more (found c d) h =
          rw (counts-is a, blocked-is a)
          (next_one c d (permitted φ k a 0) (ltb (result_weight a) (limit_of E φ k)) (ltb (result_weight a) (result_weight c)) (fits (result_of φ k a 0)) (λ e. let q : result_weight a < result_weight c = ltb-true (result_weight a) (result_weight c) e in lt-ltb (result_weight a) (limit_of E φ k) (omega arith)) refl)

      -- what takes the lead stays below the limit
      within_more : (best : Found) → Within best → Within (cond (counts a) (overtaken result_weight best a) best)
      unfolding overtaken
      within_more best h = by_cases (counts a) (λ e. rw e (lead best h (ltb-true (result_weight a) (limit_of E φ k) (and_r (permitted φ k a 0) (ltb (result_weight a) (limit_of E φ k)) (and_l (permitted φ k a 0 && ltb (result_weight a) (limit_of E φ k)) (fits (result_of φ k a 0)) (sym (counts-is a) ∙ e)))))) (λ e. rw e h)
        where
          lead : (f : Found) → Within f → result_weight a < limit_of E φ k → Within (overtaken result_weight f a)
          lead none h q = q
          lead (found c d) h q = by_cases (ltb (result_weight a) (result_weight c)) (λ e. rw e q) (λ e. rw e h)

    all_more : (l : List ℕ) (best : Found) (room : Bool) → Within best → consider_all φ k (standing best room) l ≡ standing (lightest_on counts result_weight best l) (room || any_of (λ a. blocked_call E φ k a 0) l)
    unfolding consider_all lightest_on any_of
    all_more [] best room h = rw (or-false room)
    all_more (a ∷ l) best room h =
        ap (λ s. consider_all φ k s l) (one-more a room best h)
        ∙ all_more l (cond (counts a) (overtaken result_weight best a) best) (room || blocked_call E φ k a 0) (within_more a room best h)
        ∙ ap (standing (lightest_on counts result_weight (cond (counts a) (overtaken result_weight best a) best) l)) (or_assoc room (blocked_call E φ k a 0) (any_of (λ a. blocked_call E φ k a 0) l))

    standing-best : (f : Found) (room : Bool) → (standing f room).best ≡ best_as f room
    unfolding standing best_as
    standing-best none room = refl
    standing-best (found a b) room = refl

    best-is : (consider_all φ k (nothing_yet (limit_of E φ k)) (firsts φ k)).best ≡ best_of E φ k
    unfolding best_of any_of_kind candidate standing counts result_weight merge lack_of
    best-is =
        ap (λ (s : Standing). s.best) (all_more (firsts φ k) none false tt)
        ∙ standing-best (lightest_on counts result_weight none (firsts φ k)) (any_of (λ a. blocked_call E φ k a 0) (firsts φ k))
        ∙ rw (dear, lightest-on counts result_weight none (firsts φ k))

-- the two kinds
pub best-resolve : (E : ℕ) (φ : Formula) → (consider_all φ resolve (nothing_yet (weight φ)) (firsts φ resolve)).best ≡ best_of E φ resolve
unfolding limit_of costly light result_weight
best-resolve E φ = best-is E φ resolve refl (λ a. refl)

pub best-expand : (E : ℕ) (φ : Formula) → (consider_all φ expand (nothing_yet (weight φ + E + 1)) (firsts φ expand)).best ≡ best_of E φ expand
unfolding limit_of costly light result_weight
best-expand E φ = best-is E φ expand refl (λ a. at_most (result_weight E φ expand a) (weight φ + E))
  where
    at_most : (n m : ℕ) → leb n m ≡ ltb n (m + 1)
    at_most n m = by_cases (leb n m) (λ e. let q : n ≤ m = leb-true n m e in e ∙ sym (lt-ltb n (m + 1) (omega arith))) (λ e. let q : m < n = leb-false n m e in e ∙ sym (le-ltb n (m + 1) (omega arith)))

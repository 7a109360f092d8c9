-- The clauses with a literal: tests on them, their literals, and the rarest literal of a clause.
-- Assumes nothing.
use Prim.Native.Nat.{ℕ, ◌+◌, ◌≤◌, ◌<◌}
use mathlib.Core.Path.{◌≡◌, refl, sym, ◌∙◌, ap, fun_ext}
use mathlib.Core.Bool.{Bool, true, false, ◌&&◌, ◌||◌, cond}
use mathlib.Core.List.{List, [], ◌∷◌}
use lib.Dec.{eqb, ltb}
use lib.ListN.{length, get_or, drop, drop_of_length-le}
use lib.Seq.{drop-cons}
use borrow.Author.Tests.{lt-ltb, le-ltb}
use native.Mathlib.Numerals.{add-one}
use native.Mathlib.Omega.{arith}
use Rattle.std.specs.List.{fold}
use Rattle.meaning.specs.Lists.{all_of, any_of, keep_if, has, same}
use Rattle.meaning.specs.Formula.{Formula}
use Rattle.meaning.specs.WellFormed.{literals}
use Rattle.rules.specs.Eliminate.{with_lit}
use Rattle.permits.specs.Places.{within, near, side_within}
use Rattle.sides.specs.Sides.{rarer, rarest_of, Filed}
use Rattle.meaning.proofs.Basics.{or-il, or-ir, or_elim, eqb-self}
use Rattle.meaning.proofs.Lists.{all_keep, any-keep, same-path}
use Rattle.table.specs.declared.Counts.{Counts}
use Rattle.table.proofs.HoldLaws.{room}

-- Tests on them --------------------------------------------------------------------------------------------------------
-- a selection that keeps c keeps every clause equal to it
pub same_kept : (t : List ℕ → Bool) (c : List ℕ) (cs : List (List ℕ)) → t c ≡ true → any_of (same c) (keep_if t cs) ≡ any_of (same c) cs
same_kept t c cs h = any-keep (same c) t cs ∙ ap (λ (f : List ℕ → Bool). any_of f cs) (fun_ext (λ d. go d (same c d) refl))
  where
    go : (d : List ℕ) (b : Bool) → same c d ≡ b → (t d && b) ≡ b
    go d true e = rw (← same-path c d e, h)
    go d false e = none (t d)
      where
        none : (b : Bool) → (b && false) ≡ false
        none true = refl
        none false = refl

pub same-with : (l : ℕ) (c : List ℕ) (cs : List (List ℕ)) → has l c ≡ true → any_of (same c) (with_lit l cs) ≡ any_of (same c) cs
unfolding with_lit
same-with l c cs h = same_kept (has l) c cs h

pub within-side : (φ : Formula) (l n : ℕ) → all_of (within φ.prefix n) (with_lit l φ.clauses) ≡ side_within φ l n
unfolding with_lit side_within near
within-side φ l n = all_keep (within φ.prefix n) (has l) φ.clauses

-- Their literals, summed -------------------------------------------------------------------------------------------------
module _ (xs : List (List ℕ)) (sum i : ℕ) (inv : literals xs ≡ sum + literals (drop i xs)) where
  pub size-turn : i < length xs → (x : List ℕ) → x ≡ get_or xs i [] → literals xs ≡ (sum + length x) + literals (drop (i + 1) xs)
  unfolding literals
  size-turn h x e = inv ∙ rw (add-one, drop-cons xs i [] h, e) (omega arith)

  pub size-end : length xs ≤ i → sum ≡ literals xs
  unfolding literals
  size-end h = sym (inv ∙ rw (drop_of_length-le xs {i = i} h) (omega arith))

literals-keep : (t : List ℕ → Bool) (cs : List (List ℕ)) → literals (keep_if t cs) ≤ literals cs
unfolding literals keep_if
literals-keep t [] = omega arith
literals-keep t (c ∷ cs) = go (t c) (literals-keep t cs)
  where
    go : (b : Bool) → literals (keep_if t cs) ≤ literals cs → literals (cond b (c ∷ keep_if t cs) (keep_if t cs)) ≤ length c + literals cs
    go true ih = omega arith
    go false ih = omega arith

pub size_room : {φ : Formula} {t : List ℕ} {c : Counts} {index : List ℕ} → Filed φ t c index → (l : ℕ) → literals (with_lit l φ.clauses) ≤ 8191
unfolding with_lit
size_room {φ} {t} {c} {index} f l = omega (arith, literals-keep (has l) φ.clauses, (room f.holds).literals)

-- The rarest literal of a clause -------------------------------------------------------------------------------------------
module _ (cs : List (List ℕ)) (l k n m : ℕ) (is-n : n ≡ length (with_lit l cs)) (is_m : m ≡ length (with_lit k cs)) where
  pub rarer-second : m < n → k ≡ rarer cs l k
  unfolding rarer
  rarer-second h = rw (← is-n, ← is_m, lt-ltb m n h)

  pub rarer-first : n ≤ m → l ≡ rarer cs l k
  unfolding rarer
  rarer-first h = rw (← is-n, ← is_m, le-ltb m n h)

pub rarest_fold : (cs : List (List ℕ)) (l : ℕ) (c : List ℕ) → fold (rarer cs) l c ≡ rarest_of cs l c
unfolding rarest_of
rarest_fold cs l [] = refl
rarest_fold cs l (k ∷ c) = rarest_fold cs (rarer cs l k) c

-- it is a literal of the clause
rarest-of : (cs : List (List ℕ)) (l : ℕ) (c : List ℕ) → has (rarest_of cs l c) (l ∷ c) ≡ true
unfolding rarest_of rarer has any_of
rarest-of cs l [] = or-il (eqb l l) false (eqb-self l)
rarest-of cs l (k ∷ c) = go (ltb (length (with_lit k cs)) (length (with_lit l cs))) (rarest-of cs (rarer cs l k) c)
  where
    go : (b : Bool) → (eqb (rarest_of cs (cond b k l) c) (cond b k l) || has (rarest_of cs (cond b k l) c) c) ≡ true
        → (eqb (rarest_of cs (cond b k l) c) l || (eqb (rarest_of cs (cond b k l) c) k || has (rarest_of cs (cond b k l) c) c)) ≡ true
    go true h = or-ir (eqb (rarest_of cs k c) l) (eqb (rarest_of cs k c) k || has (rarest_of cs k c) c) h
    go false h =
        or_elim (eqb (rarest_of cs l c) l) (has (rarest_of cs l c) c) h
        (λ e. or-il (eqb (rarest_of cs l c) l) (eqb (rarest_of cs l c) k || has (rarest_of cs l c) c) e)
        (λ e. or-ir (eqb (rarest_of cs l c) l) (eqb (rarest_of cs l c) k || has (rarest_of cs l c) c)
        (or-ir (eqb (rarest_of cs l c) k) (has (rarest_of cs l c) c) e))

pub rarest-has : (cs : List (List ℕ)) (c : List ℕ) → 0 < length c → (x : ℕ) → x ≡ rarest_of cs (get_or c 0 0) (drop 1 c) → has x c ≡ true
rarest-has cs [] h x e = absurd (omega arith)
rarest-has cs (l ∷ c) h x e = rw e (rarest-of cs l c)

-- so the clause is among those with it exactly if it is one of all
pub found_among : (cs : List (List ℕ)) (c : List ℕ) → (length c ≡ 0 → ⊥) → (x : ℕ) → x ≡ rarest_of cs (get_or c 0 0) (drop 1 c) → (r : Bool)
    → r ≡ any_of (same c) (with_lit x cs) → r ≡ any_of (same c) cs
found_among cs [] n x e r q = absurd (n refl)
found_among cs (l ∷ c) n x e r q = q ∙ same-with x (l ∷ c) cs (rw e (rarest-of cs l c))

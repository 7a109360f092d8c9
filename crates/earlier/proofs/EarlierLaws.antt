-- The clauses that make a clause together: which can, and how they are looked for.
-- Assumes nothing.
use Prim.Native.Nat.{ℕ, ◌+◌, ◌*◌, ◌≤◌, ◌<◌}
use mathlib.Core.Path.{◌≡◌, refl, sym, ap, fun_ext, ◌∙◌}
use mathlib.Core.Bool.{Bool, true, false, ◌&&◌, ◌||◌, not, cond}
use mathlib.Core.List.{List, [], ◌∷◌}
use lib.ListN.{length, get_or, take, drop, drop_of_length-le}
use lib.Seq.{take-length, drop-cons}
use lib.Dec.{ltb}
use mir.Val.{bool_byte}
use native.Mathlib.Omega.{arith}
use borrow.Author.Tests.{lt-ltb, le-ltb}
use native.Mathlib.Numerals.{add-one}
use Rattle.meaning.specs.Lists.{all_of, any_of, has}
use Rattle.meaning.specs.Formula.{Formula, plain, negated}
use Rattle.meaning.specs.Tidy.{tidy}
use Rattle.rules.specs.Eliminate.{with_lit}
use Rattle.resolvents.specs.Resolvent.{resolvent, covers, fits_in, becomes}
use Rattle.earlier.specs.Earlier.{makes, makes_with, own_of, other_of, partnered, lacking_of, made_earlier}
use Rattle.meaning.proofs.Basics.{by_cases, clash, and_l, and_r, or-il, or-ir}
use Rattle.meaning.proofs.Lists.{any-keep, all-has, all-of-has}
use Rattle.earlier.proofs.AnyLaws.{any-either, none}
use Rattle.resolvents.proofs.ResolvPending.{not_covered}
use Rattle.resolvents.proofs.ResolvFits.{not-fits, not-fits-negative}

-- A literal of the clause is in one of the two ------------------------------------------------------------------------------
module _ (φ : Formula) (a : ℕ) (c : List ℕ) where
  pub makes-either : (l : ℕ) → has l c ≡ true → (x y : List ℕ) → makes φ a c x y ≡ true → (has l x || has l y) ≡ true
  unfolding makes covers
  makes-either l h x y m =
      by_cases (covers x y c) (λ t. all-has (λ k. has k x || has k y) c l t h)
      (λ t. clash (search and_r) (not_covered φ.prefix x y c a t))

-- The partners of one clause --------------------------------------------------------------------------------------------------
module _ (φ : Formula) (a : ℕ) (c z : List ℕ) where
  other-has : (turned : Bool) (y : List ℕ) → makes_with φ a c turned z y ≡ true → has (other_of a turned) y ≡ true
  unfolding makes_with makes other_of
  other-has true y m = search and_l
  other-has false y m = search (and_l, and_r)

  literal-has : (turned : Bool) (l : ℕ) → has l c ≡ true → (y : List ℕ) → makes_with φ a c turned z y ≡ true → (has l z || has l y) ≡ true
  unfolding makes_with
  literal-has true l h y m = or_turned (has l y) (has l z) (makes-either φ a c l h y z m)
    where
      or_turned : (p q : Bool) → (p || q) ≡ true → (q || p) ≡ true
      or_turned true q e = or-ir q true refl
      or_turned false q e = or-il q false e
  literal-has false l h y m = makes-either φ a c l h z y m

  -- the partner has every literal of the clause that z lacks
  lacking-has : (o : ℕ) (y : List ℕ) → has o y ≡ true → (d : List ℕ) → all_of (λ l. has l z || has l y) d ≡ true → has (lacking_of z o d) y ≡ true
  unfolding lacking_of all_of
  lacking-has o y h [] k = h
  lacking-has o y h (l ∷ d) k =
      go (has l z) (and_l (has l z || has l y) (all_of (λ l. has l z || has l y) d) k)
      (lacking-has o y h d (and_r (has l z || has l y) (all_of (λ l. has l z || has l y) d) k))
    where
      go : (t : Bool) → (t || has l y) ≡ true → has (lacking_of z o d) y ≡ true → has (cond t (lacking_of z o d) l) y ≡ true
      go true e ih = ih
      go false e ih = e

  made-has : (turned : Bool) (y : List ℕ) → makes_with φ a c turned z y ≡ true → has (lacking_of z (other_of a turned) c) y ≡ true
  made-has turned y m =
      lacking-has (other_of a turned) y (other-has turned y m) c (all-of-has (λ l. has l z || has l y) c (λ l h. literal-has turned l h y m))

  -- so only the clauses with that literal are looked at
  partner-some : (turned : Bool) (b : ℕ) (r : Bool)
      → r ≡ any_of (makes_with φ a c turned z) (with_lit (lacking_of z (other_of a turned) c) (take b φ.clauses)) → r ≡ partnered φ a c turned b z
  unfolding partnered with_lit
  partner-some turned b r e =
      e ∙ any-keep (makes_with φ a c turned z) (has (lacking_of z (other_of a turned) c)) (take b φ.clauses)
      ∙ ap (λ (g : List ℕ → Bool). any_of g (take b φ.clauses)) (fun_ext (λ y.
      go (has (lacking_of z (other_of a turned) c) y) (makes_with φ a c turned z y) (made-has turned y)))
    where
      go : (k m : Bool) → (m ≡ true → k ≡ true) → (k && m) ≡ m
      go true m h = refl
      go false true h = h refl
      go false false h = refl

  -- and none, where z has a literal too many
  made_none : (turned : Bool) → fits_in φ.prefix c (own_of a turned) z ≡ false → (y : List ℕ) → makes_with φ a c turned z y ≡ false
  unfolding makes_with makes own_of
  made_none true n y = rw (not-fits-negative φ.prefix y z c a n) (go (has (plain a) y) (has (negated a) z))
    where
      go : (p q : Bool) → (p && (q && false)) ≡ false
      go true true = refl
      go true false = refl
      go false q = refl
  made_none false n y = rw (not-fits φ.prefix z y c a n) (go (has (plain a) z) (has (negated a) y))
    where
      go : (p q : Bool) → (p && (q && false)) ≡ false
      go true true = refl
      go true false = refl
      go false q = refl

  partner-none : (turned : Bool) (b : ℕ) → fits_in φ.prefix c (own_of a turned) z ≡ false → false ≡ partnered φ a c turned b z
  unfolding partnered
  partner-none turned b n =
      sym (ap (λ (g : List ℕ → Bool). any_of g (take b φ.clauses)) (fun_ext (made_none turned n)) ∙ none (take b φ.clauses))

  -- the same, by the literals that are told
  pub partner-told : (turned : Bool) (b o l : ℕ) → o ≡ other_of a turned → l ≡ lacking_of z o c → (r : Bool)
      → r ≡ any_of (makes_with φ a c turned z) (with_lit l (take b φ.clauses)) → r ≡ partnered φ a c turned b z
  partner-told turned b o l e d r q = partner-some turned b r (rw (← e, ← d) q)

  pub partner-out : (turned : Bool) (b o : ℕ) → o ≡ own_of a turned → (t : Bool) → t ≡ fits_in φ.prefix c o z → t ≡ false
      → false ≡ partnered φ a c turned b z
  partner-out turned b o e t is n = partner-none turned b (rw (← e) (sym is ∙ n))

-- nor with a clause that has a literal too many
neither : (p q : Bool) → (p && (q && false)) ≡ false
neither true true = refl
neither true false = refl
neither false q = refl

other_none : (φ : Formula) (a : ℕ) (c z y : List ℕ) (turned : Bool) → fits_in φ.prefix c (other_of a turned) y ≡ false
    → makes_with φ a c turned z y ≡ false
unfolding makes_with makes other_of
other_none φ a c z y true n = rw (not-fits φ.prefix y z c a n) (neither (has (plain a) y) (has (negated a) z))
other_none φ a c z y false n = rw (not-fits-negative φ.prefix z y c a n) (neither (has (plain a) z) (has (negated a) y))

pub other-out : (φ : Formula) (a : ℕ) (c z y : List ℕ) (turned : Bool) (o : ℕ) → o ≡ other_of a turned → (t : Bool)
    → t ≡ fits_in φ.prefix c o y → t ≡ false → (d : List ℕ) → y ≡ d → false ≡ makes_with φ a c turned z d
other-out φ a c z y turned o e t is n d q = sym (rw (← q) (other_none φ a c z y turned (rw (← e) (sym is ∙ n))))

pub partner-same : (φ : Formula) (a : ℕ) (c : List ℕ) (turned : Bool) (b : ℕ) (z d : List ℕ) → z ≡ d → (r : Bool) → r ≡ partnered φ a c turned b z
    → r ≡ partnered φ a c turned b d
partner-same φ a c turned b z d e r q = q ∙ ap (partnered φ a c turned b) e

-- All partners of the clauses with a literal of c ------------------------------------------------------------------------------
module _ (φ : Formula) (a : ℕ) (c : List ℕ) (l m n b : ℕ) (h : has l c ≡ true) (all : b ≡ length φ.clauses) where
  earlier-is : made_earlier φ a c m n
      ≡ ((any_of (partnered φ a c false b) (with_lit l (take m φ.clauses)) || any_of (partnered φ a c true m) (with_lit l (take b φ.clauses)))
      || partnered φ a c false n (get_or φ.clauses m []))
  unfolding made_earlier partnered makes_with with_lit
  earlier-is =
      let e : take b φ.clauses ≡ φ.clauses = rw all (take-length φ.clauses) in
      ap (λ (r : Bool). r || any_of (makes φ a c (get_or φ.clauses m [])) (take n φ.clauses))
      (ap (λ (ys : List (List ℕ)). any_of (λ x. any_of (makes φ a c x) ys) (take m φ.clauses)) (sym e)
      ∙ any-either (makes φ a c) (has l) (take m φ.clauses) (take b φ.clauses) (makes-either φ a c l h))

  module _ (p : Bool) (is-p : p ≡ any_of (partnered φ a c false b) (with_lit l (take m φ.clauses))) where
    pub earlier-first : p ≡ true → true ≡ made_earlier φ a c m n
    earlier-first t = sym (earlier-is ∙ rw (← is-p, t))

    module _ (none-p : p ≡ false) (q : Bool) (is-q : q ≡ any_of (partnered φ a c true m) (with_lit l (take b φ.clauses))) where
      pub earlier-second : q ≡ true → true ≡ made_earlier φ a c m n
      earlier-second t = sym (earlier-is ∙ rw (← is-p, none-p, ← is-q, t))

      pub earlier-third : q ≡ false → (x : List ℕ) → x ≡ get_or φ.clauses m [] → (r : Bool) → r ≡ partnered φ a c false n x → r ≡ made_earlier φ a c m n
      earlier-third t x e r k = k ∙ sym (earlier-is ∙ rw (← is-p, none-p, ← is-q, t, ← e))

-- The tests, one by one ------------------------------------------------------------------------------------------------------
module _ (φ : Formula) (a : ℕ) (c x y : List ℕ) (p : Bool) (is-p : p ≡ has (2 * a) x) where
  pub made-own : p ≡ false → false ≡ makes φ a c x y
  unfolding makes plain
  made-own t = rw (← is-p, t)

  module _ (own : p ≡ true) (q : Bool) (is-q : q ≡ has (2 * a + 1) y) where
    pub made_other : q ≡ false → false ≡ makes φ a c x y
    unfolding makes plain negated
    made_other t = rw (← is-p, own, ← is-q, t)

    pub made-both : q ≡ true → (r : Bool) → r ≡ becomes c (tidy φ.prefix (resolvent a x y)) → r ≡ makes φ a c x y
    unfolding makes plain negated
    made-both t r e = rw (← is-p, own, ← is-q, t) e

module _ (b j : ℕ) where
  pub past_first : (m : Bool) → b ≤ j → false ≡ (ltb j b && m)
  past_first m h = rw (le-ltb j b h)

  pub in-first : (m r : Bool) → j < b → r ≡ m → r ≡ (ltb j b && m)
  in-first m r h e = rw (lt-ltb j b h) e

module _ (φ : Formula) (a : ℕ) (c z y d : List ℕ) (turned : Bool) (is : y ≡ d) (r : Bool) where
  pub with-turned : turned ≡ true → r ≡ makes φ a c y z → r ≡ makes_with φ a c turned z d
  unfolding makes_with
  with-turned t e = rw (t, ← is) e

  pub with-straight : turned ≡ false → r ≡ makes φ a c z y → r ≡ makes_with φ a c turned z d
  unfolding makes_with
  with-straight t e = rw (t, ← is) e

pub own_is : (a : ℕ) (turned : Bool) → 2 * a + bool_byte turned ≡ own_of a turned
unfolding own_of plain negated
own_is a true = refl
own_is a false = omega arith

pub other-own : (a : ℕ) (turned : Bool) → own_of a (not turned) ≡ other_of a turned
unfolding own_of other_of
other-own a true = refl
other-own a false = refl

-- the literal that z lacks, literal by literal
module _ (z : List ℕ) (o : ℕ) (c : List ℕ) (i : ℕ) where
  pub lack-turn : i < length c → has (get_or c i 0) z ≡ true → lacking_of z o (drop i c) ≡ lacking_of z o (drop (i + 1) c)
  unfolding lacking_of
  lack-turn h t = rw (add-one, drop-cons c i 0 h, t)

  pub lack-found : i < length c → has (get_or c i 0) z ≡ false → lacking_of z o (drop i c) ≡ get_or c i 0
  unfolding lacking_of
  lack-found h t = rw (drop-cons c i 0 h, t)

  pub lack-end : length c ≤ i → lacking_of z o (drop i c) ≡ o
  unfolding lacking_of
  lack-end h = rw (drop_of_length-le c {i = i} h)

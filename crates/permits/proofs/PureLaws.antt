-- Step 2, pure: which variables are, and which literal becomes true.
-- Assumes nothing.
use Prim.Native.Nat.{ℕ, ◌+◌, ◌*◌, ◌<◌}
use mathlib.Core.Path.{◌≡◌, refl, sym, ◌∙◌}
use mathlib.Core.Bool.{Bool, true, false, ◌&&◌, not}
use mathlib.Core.List.{List}
use Rattle.meaning.specs.Formula.{Formula, plain, negated, opposite, mentions, universal}
use Rattle.rules.specs.Simplify.{becomes_true, occurs, pure_permitted, pure_lit, pure_raw}
use Rattle.table.specs.Ranks.{good_entries}
use Rattle.permits.specs.Choices.{pure_true}
use Rattle.meaning.proofs.Basics.{by_cases}
use Rattle.permits.proofs.AndLaws.{and_none}
use Rattle.permits.proofs.PlaceLaws.{large-out}

module _ (cs : List (List ℕ)) (a : ℕ) where
  pub lone-plain : (p : Bool) → p ≡ occurs (2 * a) cs → p ≡ true → 2 * a ≡ pure_lit cs a
  unfolding pure_lit plain negated
  lone-plain p e t = let y : occurs (2 * a) cs ≡ true = sym e ∙ t in rw y

  pub lone-negated : (p : Bool) → p ≡ occurs (2 * a) cs → p ≡ false → 2 * a + 1 ≡ pure_lit cs a
  unfolding pure_lit plain negated
  lone-negated p e t = let n : occurs (2 * a) cs ≡ false = sym e ∙ t in rw n

module _ (φ : Formula) (a : ℕ) where
  pub pure-out : (m : Bool) → m ≡ mentions φ.prefix a → m ≡ false → false ≡ pure_permitted φ a
  unfolding pure_permitted
  pure-out m e t = and_none (mentions φ.prefix a) (not (occurs (plain a) φ.clauses && occurs (negated a) φ.clauses)) m e t

  pub pure-large : good_entries φ.prefix ≡ true → 1023 < a → false ≡ pure_permitted φ a
  pure-large g h = pure-out false (sym (large-out φ.prefix a g h)) refl

  -- the literal that becomes true
  pub true-forall : (u : Bool) (l r : ℕ) → u ≡ universal φ.prefix a → u ≡ true → l ≡ pure_lit φ.clauses a → r ≡ opposite l → r ≡ pure_true φ a
  unfolding pure_true
  true-forall u l r e t q s = let y : universal φ.prefix a ≡ true = sym e ∙ t in rw (y, ← q) s

  pub true-exists : (u : Bool) (l : ℕ) → u ≡ universal φ.prefix a → u ≡ false → l ≡ pure_lit φ.clauses a → l ≡ pure_true φ a
  unfolding pure_true
  true-exists u l e t q = let n : universal φ.prefix a ≡ false = sym e ∙ t in rw n q

  -- it is what the step's result is made of
  pub pure-raw : pure_raw φ a ≡ becomes_true (pure_true φ a) φ
  unfolding pure_raw pure_true
  pure-raw = by_cases (universal φ.prefix a) (λ t. rw t) (λ t. rw t)

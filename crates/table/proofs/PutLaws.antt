-- One literal more in the open clause, by the place of its variable: l - l % 2 is the variable's plain literal, and the number
-- after it the negated one.
-- Assumes nothing.
use Prim.Native.Nat.{ℕ, ◌+◌, ◌-◌, ◌%◌, ◌≤◌, ◌<◌}
use mathlib.Core.Path.{◌≡◌, sym, ap, ◌∙◌}
use mathlib.Core.Bool.{true, false}
use mathlib.Core.List.{List, [], ◌∷◌, ◌++◌}
use native.Mathlib.Omega.{arith}
use lib.Dec.{eqb}
use lib.ListN.{length, take}
use Rattle.meaning.specs.Lists.{has}
use Rattle.meaning.specs.Formula.{opposite}
use Rattle.meaning.specs.Tidy.{insert_new}
use Rattle.table.specs.Insert.{count_below}
use Rattle.table.specs.Pending.{Pends}
use Rattle.std.specs.Prelude.{Option, Some, None}
use Rattle.meaning.proofs.Basics.{by_cases, eqb-true, eqb-false}
use Rattle.table.proofs.TestLaws.{flip-even, flip-odd}
use Rattle.table.proofs.PendingLaws.{put-there, put_other, put-room, put-new}
use Rattle.table.proofs.RisingLaws.{count_next}

-- a literal is one of the two, and its opposite is the other
pub by-phase {ℓ} : {A : Type ℓ} (l : ℕ) → (l ≡ l - l % 2 → l - l % 2 + 1 ≡ opposite l → A) → (l ≡ l - l % 2 + 1 → l - l % 2 ≡ opposite l → A) → A
by-phase l f g =
    by_cases (eqb (l % 2) 0)
    (λ e. let z = eqb-true (l % 2) 0 e in let p : l - l % 2 + 1 ≡ l + 1 = omega arith in f (omega arith) (p ∙ flip-even l z))
    (λ e. let z = eqb-false (l % 2) 0 e in let p : l - l % 2 ≡ l - 1 = omega arith in g (omega arith) (p ∙ flip-odd l z))

-- the place of the plain literal is that of either
pub place-of : (s : List ℕ) (l p : ℕ) → p ≡ count_below s (l - l % 2) → has (l - l % 2) s ≡ false → p ≡ count_below s l
place-of s l p e out =
    by-phase l (λ a b. e ∙ ap (count_below s) (sym a))
    (λ a b. e ∙ sym (count_next s (l - l % 2) out) ∙ ap (count_below s) (sym a))

module _ {raw s : List ℕ} {p : Option ℕ} (h : Pends raw s p) (n : ℕ) (one : p ≡ Some n) (l : ℕ) (lo : 2 ≤ l) (hi : l < 2048) where
  -- the plain literal is there: it is the literal itself, or its opposite
  pub put-plain : has (l - l % 2) (take n s) ≡ true → l ≡ l - l % 2 → Pends (raw ++ (l ∷ [])) s (Some n)
  put-plain q e = put-there h l lo hi n one (rw (← e) at q)

  pub put-plain-other : has (l - l % 2) (take n s) ≡ true → (l ≡ l - l % 2 → ⊥) → Pends (raw ++ (l ∷ [])) s None
  put-plain-other q e = by-phase l (λ a b. absurd (e a)) (λ a b. put_other h l lo hi n one (rw b at q))

  -- so is the negated one
  pub put-negated : has (l - l % 2 + 1) (take n s) ≡ true → l ≡ l - l % 2 + 1 → Pends (raw ++ (l ∷ [])) s (Some n)
  put-negated q e = put-there h l lo hi n one (rw (← e) at q)

  pub put-negated-other : has (l - l % 2 + 1) (take n s) ≡ true → (l ≡ l - l % 2 + 1 → ⊥) → Pends (raw ++ (l ∷ [])) s None
  put-negated-other q e = by-phase l (λ a b. put_other h l lo hi n one (rw b at q)) (λ a b. absurd (e a))

  -- neither is there
  module _ (out : has (l - l % 2) (take n s) ≡ false) (free : has (l - l % 2 + 1) (take n s) ≡ false) where
    pub put-out : has l (take n s) ≡ false
    put-out = by-phase l (λ a b. rw (← a) at out) (λ a b. rw (← a) at free)

    opposite-out : has (opposite l) (take n s) ≡ false
    opposite-out = by-phase l (λ a b. rw b at free) (λ a b. rw b at out)

    pub put-within : n < length s
    put-within = omega (arith, h.room, put-room h l lo hi n one put-out opposite-out)

    pub put-more : (s' : List ℕ) → length s' ≡ length s → take (n + 1) s' ≡ insert_new l (take n s) → Pends (raw ++ (l ∷ [])) s' (Some (n + 1))
    put-more s' e d = put-new h l lo hi n one put-out opposite-out s' e d

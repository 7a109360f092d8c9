-- One literal of two clauses more: what each way of a turn comes to, and the end.
-- Assumes nothing.
use Prim.Native.Nat.{ℕ, ◌+◌, ◌/◌, ◌≤◌, ◌<◌}
use mathlib.Core.Path.{◌≡◌, refl, sym, ap, ◌∙◌}
use mathlib.Core.Bool.{true, false}
use mathlib.Core.List.{List, [], ◌∷◌, ◌++◌}
use lib.ListN.{length, get_or, take, drop, set, length-set, length-drop, drop_of_length-le}
use lib.Seq.{drop-cons, drop-drop, take-suc-set}
use lib.Dec.{ltb}
use borrow.Author.Tests.{ltb-true, ltb-false}
use native.Mathlib.Omega.{arith}
use native.Mathlib.Numerals.{add-one}
use Rattle.meaning.specs.Formula.{var}
use Rattle.meaning.specs.Tidy.{ascending, both_phases}
use Rattle.table.specs.Pending.{Pends}
use Rattle.merging.specs.Merging.{head_of, joined, Ordered, Partway, Merges}
use Rattle.merging.specs.declared.Merging.{Merging}
use Rattle.std.specs.Prelude.{Some, None}
use Rattle.meaning.proofs.Basics.{by_cases}
use Rattle.table.proofs.PendingLaws.{pends-none, pends-some}
use Rattle.table.proofs.SortLaws.{both-ascending}
use Rattle.merging.proofs.MergeLaws.{turned, pass-first, put_first, put_same, both-met, put-room, first-there, head-none, merged-all, above-none, joined-range}

-- the next literal
pub head-here : (c : List ℕ) (i : ℕ) → i < length c → get_or c i 0 ≡ head_of (drop i c)
unfolding head_of
head-here c i h = rw (drop-cons c i 0 h)

pub head-past : (c : List ℕ) (i : ℕ) → length c ≤ i → 4095 ≡ head_of (drop i c)
unfolding head_of
head-past c i h = rw (drop_of_length-le c {i = i} h)

there : (c : List ℕ) (i : ℕ) → head_of (drop i c) < 4095 → i < length c
there c i h =
    by_cases (ltb i (length c)) (λ t. ltb-true i (length c) t)
    (λ t. let g = ltb-false i (length c) t in absurd (omega (arith, head-past c i g)))

after_one : (c : List ℕ) (i : ℕ) → drop 1 (drop i c) ≡ drop (i + 1) c
after_one c i = drop-drop 1 i c

module _ (o : ℕ) (x y s : List ℕ) (m : Merging) (h : Merges o x y s m) (low : o < 2047)
    (left : m.first + m.second < length x + length y) where
  abbrev i : ℕ
  i = m.first

  abbrev j : ℕ
  j = m.second

  abbrev n : ℕ
  n = m.size

  part : Partway (joined o (o + 1) x y) (take n s) n o (o + 1) (drop i x) (drop j y)
  part = h.part

  -- whatever the next turn leaves
  later : (i' j' n' : ℕ) (s' : List ℕ) → length s' ≡ 1023 → n' ≤ 1023 → i' ≤ length x → j' ≤ length y
      → Partway (joined o (o + 1) x y) (take n' s') n' o (o + 1) (drop i' x) (drop j' y)
      → Merges o x y s' (record { first = i'; second = j'; size = n' })
  later i' j' n' s' r w f g p =
      record {
        room = r;
        within = w;
        first = f;
        second = g;
        part = p;
      }

  written : (l : ℕ) → n < 1023 → take (n + 1) (set s n l) ≡ take n s ++ (l ∷ [])
  written l r = rw (add-one n) (take-suc-set s n l (omega (arith, h.room)))

  module _ (l : ℕ) (is : l ≡ head_of (drop i x)) where
    pub pass-one : l ≡ o → Merges o x y s (record { first = i + 1; second = j; size = n })
    pass-one e =
        later (i + 1) j n s h.room h.within (omega (arith, there x i (omega arith))) h.second
        (rw (after_one x i) at (pass-first _ _ n o (o + 1) (drop i x) (drop j y) part (sym is ∙ e) (omega arith)))

  module _ (k : ℕ) (is : k ≡ head_of (drop j y)) where
    pub pass-other : k ≡ o + 1 → Merges o x y s (record { first = i; second = j + 1; size = n })
    pass-other e =
        later i (j + 1) n s h.room h.within h.first (omega (arith, there y j (omega arith)))
        (turned _ _ n (o + 1) o (drop (j + 1) y) (drop i x)
        (rw (after_one y j) at (pass-first _ _ n (o + 1) o (drop j y) (drop i x) (turned _ _ n o (o + 1) (drop i x) (drop j y) part) (sym is ∙ e) (omega arith))))

  module _ (l k : ℕ) (is-l : l ≡ head_of (drop i x)) (is-k : k ≡ head_of (drop j y)) where
    module _ (less : l / 2 < k / 2) where
      lower : var (head_of (drop i x)) < var (head_of (drop j y))
      unfolding var
      lower = omega arith

      first-here : head_of (drop i x) < 4095
      first-here = first-there _ _ n o (o + 1) (drop i x) (drop j y) part lower

      pub one-room : n < 1023
      one-room = put-room _ _ n o (o + 1) (drop i x) (drop j y) part first-here

      pub put_one : (l ≡ o → ⊥) → Merges o x y (set s n l) (record { first = i + 1; second = j; size = n + 1 })
      put_one u =
          later (i + 1) j (n + 1) (set s n l) (length-set s n l ∙ h.room) (omega (arith, one-room)) (omega (arith, there x i first-here)) h.second
          (rw (written l one-room, is-l, ← after_one x i) (put_first _ _ n o (o + 1) (drop i x) (drop j y) part lower (λ e. u (is-l ∙ e))))

    module _ (less : k / 2 < l / 2) where
      back : Partway (joined o (o + 1) x y) (take n s) n (o + 1) o (drop j y) (drop i x)
      back = turned _ _ n o (o + 1) (drop i x) (drop j y) part

      lower-other : var (head_of (drop j y)) < var (head_of (drop i x))
      unfolding var
      lower-other = omega arith

      other-here : head_of (drop j y) < 4095
      other-here = first-there _ _ n (o + 1) o (drop j y) (drop i x) back lower-other

      pub other-room : n < 1023
      other-room = put-room _ _ n (o + 1) o (drop j y) (drop i x) back other-here

      pub put_other : (k ≡ o + 1 → ⊥) → Merges o x y (set s n k) (record { first = i; second = j + 1; size = n + 1 })
      put_other u =
          later i (j + 1) (n + 1) (set s n k) (length-set s n k ∙ h.room) (omega (arith, other-room)) h.first (omega (arith, there y j other-here))
          (rw (written k other-room, is-k, ← after_one y j)
          (turned _ _ (n + 1) (o + 1) o (drop 1 (drop j y)) (drop i x)
          (put_first _ _ n (o + 1) o (drop j y) (drop i x) back lower-other (λ e. u (is-k ∙ e)))))

    module _ (same : l ≡ k) where
      -- not both clauses are at their end
      some-here : head_of (drop i x) < 4095
      some-here =
          by_cases (ltb (head_of (drop i x)) 4095) (λ t. ltb-true (head_of (drop i x)) 4095 t)
          (λ t. let g = ltb-false (head_of (drop i x)) 4095 t in
          absurd (omega (
            arith,
            head-none _ _ n o (o + 1) (drop i x) (drop j y) part g,
            head-none _ _ n (o + 1) o (drop j y) (drop i x) (turned _ _ n o (o + 1) (drop i x) (drop j y) part) (omega arith),
            length-drop i x,
            length-drop j y,
          )))

      pub both-room : n < 1023
      both-room = put-room _ _ n o (o + 1) (drop i x) (drop j y) part some-here

      pub put_both : (l ≡ o → ⊥) → (k ≡ o + 1 → ⊥) → Merges o x y (set s n l) (record { first = i + 1; second = j + 1; size = n + 1 })
      put_both u v =
          later (i + 1) (j + 1) (n + 1) (set s n l) (length-set s n l ∙ h.room) (omega (arith, both-room)) (omega (arith, there x i some-here))
          (omega (arith, there y j (omega (arith, some-here))))
          (rw (written l both-room, is-l, ← after_one x i, ← after_one y j)
          (put_same _ _ n o (o + 1) (drop i x) (drop j y) part (sym is-l ∙ same ∙ is-k) some-here (λ e. u (is-l ∙ e)) (λ e. v (is-k ∙ e))))

    -- both phases of a variable meet
    pub met-both : l / 2 ≡ k / 2 → (l ≡ k → ⊥) → (l ≡ o → ⊥) → (k ≡ o + 1 → ⊥) → both_phases (joined o (o + 1) x y) ≡ true
    unfolding var
    met-both e w u v =
        both-met _ _ n o (o + 1) (drop i x) (drop j y) part vars (λ d. w (is-l ∙ d ∙ sym is-k)) (λ d. u (is-l ∙ d)) (λ d. v (is-k ∙ d))
      where
        vars : var (head_of (drop i x)) ≡ var (head_of (drop j y))
        vars = ap var (sym is-l) ∙ e ∙ ap var is-k

-- The start and the end ------------------------------------------------------------------------------------------------------
pub merge-start : (o : ℕ) (x y s : List ℕ) → length s ≡ 1023 → Ordered x → Ordered y → Merges o x y s (record { first = 0; second = 0; size = 0 })
merge-start o x y s r a b =
    record {
      room = r;
      within = omega arith;
      first = omega arith;
      second = omega arith;
      part = record { one = above-none x a; other = above-none y b; sorted = refl; phases = sym (both-ascending (joined o (o + 1) x y)) };
    }

-- the raw clause is dropped, since both phases of a variable met
pub merge-dropped : (o : ℕ) (x y s : List ℕ) → length s ≡ 1023 → Ordered x → Ordered y → both_phases (joined o (o + 1) x y) ≡ true
    → Pends (joined o (o + 1) x y) s None
merge-dropped o x y s r a b e = pends-none r (joined-range o (o + 1) x y a.range b.range) e

pub merge-end : (o : ℕ) (x y s : List ℕ) (m : Merging) → Merges o x y s m → length x + length y ≤ m.first + m.second → Ordered x → Ordered y
    → Pends (joined o (o + 1) x y) s (Some m.size)
merge-end o x y s m h e a b = pends-some m.size h.room h.within (joined-range o (o + 1) x y a.range b.range) all.1 (sym all.0)
  where
    all : (ascending (joined o (o + 1) x y) ≡ take m.size s) × (both_phases (joined o (o + 1) x y) ≡ false)
    all =
        merged-all _ _ m.size o (o + 1)
        (rw (drop_of_length-le x {i = m.first} (omega (arith, h.first, h.second)), drop_of_length-le y {i = m.second} (omega (arith, h.first, h.second)))
        at h.part)

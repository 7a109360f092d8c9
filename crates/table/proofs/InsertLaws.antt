-- Inserting in place: the shift and the store of src/insert.rt.
-- Assumes nothing.
use Prim.Native.Nat.{ℕ, zero, suc, ◌+◌, ◌-◌, ◌≤◌, ◌<◌}
use mathlib.Core.Path.{◌≡◌, refl, sym, ap, ◌∙◌}
use mathlib.Core.Bool.{Bool, true, false, cond}
use mathlib.Core.List.{List, [], ◌∷◌, ◌++◌, append_assoc}
use lib.ListN.{length, get_or, take, drop, set, length-append, length-take, length-drop, take-append-drop, get_or-append}
use lib.Seq.{drop-cons, get_or-take, length-take-le, take-suc, take-nil, take-take, take_at, set_at, append_snoc}
use lib.Dec.{eqb, ltb}
use borrow.Author.Tests.{lt-ltb, le-ltb, ltb-true, ltb-false}
use native.Mathlib.Omega.{arith}
use native.Mathlib.Nat.{sub-zero, sub_self, suc-sub-suc, zero-sub}
use native.Mathlib.Numerals.{add-one}
use Rattle.meaning.specs.Lists.{any_of, has}
use Rattle.meaning.specs.Tidy.{insert_new}
use Rattle.table.specs.Insert.{count_below, shifted}
use Rattle.meaning.proofs.Basics.{by_cases, or_l, or_r, eqb-false}

count-within : (s : List ℕ) (x : ℕ) → count_below s x ≤ length s
unfolding count_below
count-within [] x = omega arith
count-within (y ∷ s) x = go (ltb y x) (count-within s x)
  where
    go : (b : Bool) → count_below s x ≤ length s → cond b (suc (count_below s x)) 0 ≤ suc (length s)
    go true h = omega arith
    go false h = omega arith

pub place-within : (s : List ℕ) (m p x : ℕ) → m < length s → p ≡ count_below (take m s) x → p ≤ m
place-within s m p x h e = omega (arith, count-within (take m s) x, length-take-le m s (omega arith))

-- a number that is not there goes to its place
insert-form : (l : List ℕ) (x : ℕ) → has x l ≡ false → insert_new x l ≡ take (count_below l x) l ++ (x ∷ drop (count_below l x) l)
unfolding insert_new count_below has any_of
insert-form [] x h = refl
insert-form (y ∷ l) x h =
    let e = or_l (eqb x y) (any_of (λ k. eqb x k) l) h in
    by_cases (ltb y x)
    (λ t. rw (le-ltb x y (let k = ltb-true y x t in omega arith), e, t) (ap (λ (r : List ℕ). y ∷ r) (insert-form l x (or_r (eqb x y) (any_of (λ k. eqb x k) l) h))))
    (λ t. rw (lt-ltb x y (let k = ltb-false y x t in let n = eqb-false x y e in omega arith), t))

-- The shift ---------------------------------------------------------------------------------------------------
pub drop-take : (p m : ℕ) (s : List ℕ) → drop p (take m s) ≡ take (m - p) (drop p s)
drop-take zero m s = rw (sub-zero m)
drop-take (suc p) zero s = rw (zero-sub (suc p))
drop-take (suc p) (suc m) [] = sym (take-nil (suc m - suc p))
drop-take (suc p) (suc m) (y ∷ s) = rw (suc-sub-suc m p) (drop-take p m s)

pub shift_none : (s : List ℕ) (m : ℕ) → s ≡ shifted s m m
unfolding shifted
shift_none s m = sym (rw (sub_self m) (take-append-drop (m + 1) s))

set-shift : (s r : List ℕ) (p x : ℕ) → p < length s → set (take (p + 1) s ++ r) p x ≡ take p s ++ (x ∷ r)
set-shift s r p x h =
    ap (λ (k : ℕ). set (take k s ++ r) p x) (add-one p)
    ∙ ap (λ (l : List ℕ). set (l ++ r) p x) (take-suc s p 0 h)
    ∙ ap (λ (l : List ℕ). set l p x) (append_snoc (take p s) (get_or s p 0) r)
    ∙ set_at (take p s) (get_or s p 0) r x p (length-take-le p s (omega arith))

shift-step : (s₀ s : List ℕ) (k m : ℕ) → s ≡ shifted s₀ (suc k) m → suc k ≤ m → m < length s₀ → set s (suc k) (get_or s k 0) ≡ shifted s₀ k m
unfolding shifted
shift-step s₀ s k m e h l =
    let d = drop (m + 1) s₀ in
    let r = take (m - suc k) (drop (suc k) s₀) ++ d in
    let g = get_or s₀ k 0 in
    let n : m - k ≡ suc (m - suc k) = omega arith in
    let z : length (take (suc k + 1) s₀) ≡ suc k + 1 = length-take-le (suc k + 1) s₀ (omega arith) in
    let v : get_or s k 0 ≡ g =
    ap (λ (x : List ℕ). get_or x k 0) e
    ∙ get_or-append (take (suc k + 1) s₀) r 0 k (omega arith)
    ∙ get_or-take (suc k + 1) s₀ k 0 (omega arith) in
    let w : take (m - k) (drop k s₀) ≡ g ∷ take (m - suc k) (drop (suc k) s₀) =
    ap (λ (x : List ℕ). take (m - k) x) (drop-cons s₀ k 0 (omega arith)) ∙ ap (λ (i : ℕ). take i (g ∷ drop (suc k) s₀)) n in
    ap (λ (x : ℕ). set s (suc k) x) v
    ∙ ap (λ (x : List ℕ). set x (suc k) g) e
    ∙ set-shift s₀ r (suc k) g (omega arith)
    ∙ ap (λ (i : ℕ). take i s₀ ++ (g ∷ r)) (sym (add-one k))
    ∙ ap (λ (x : List ℕ). take (k + 1) s₀ ++ (x ++ d)) (sym w)

pub shift-turn : (s₀ s : List ℕ) (p j m : ℕ) → s ≡ shifted s₀ j m → p < j → j ≤ m → m < length s₀ → set s j (get_or s (j - 1) 0) ≡ shifted s₀ (j - 1) m
shift-turn s₀ s p j m e h k l =
    let q : j ≡ suc (j - 1) = omega arith in
    let e' : s ≡ shifted s₀ (suc (j - 1)) m = e ∙ ap (λ (i : ℕ). shifted s₀ i m) q in
    ap (λ (i : ℕ). set s i (get_or s (j - 1) 0)) q ∙ shift-step s₀ s (j - 1) m e' (omega arith) l

-- The store ---------------------------------------------------------------------------------------------------
pub insert-done : (s : List ℕ) (m p x : ℕ) → m < length s → p ≡ count_below (take m s) x → has x (take m s) ≡ false → take (m + 1) (set (shifted s p m) p x) ≡ insert_new x (take m s)
unfolding shifted
insert-done s m p x h e out =
    ap (take (m + 1)) (set-shift s (mid ++ drop (m + 1) s) p x (omega (arith, k)) ∙ sym (append_assoc (take p s) (x ∷ mid) (drop (m + 1) s)))
    ∙ take_at (take p s ++ (x ∷ mid)) (drop (m + 1) s) (m + 1) long
    ∙ ap (λ (l : List ℕ). l ++ (x ∷ mid)) (sym (take-take p m s k))
    ∙ ap (λ (l : List ℕ). take p (take m s) ++ (x ∷ l)) (sym (drop-take p m s))
    ∙ ap (λ (n : ℕ). take n (take m s) ++ (x ∷ drop n (take m s))) e
    ∙ sym (insert-form (take m s) x out)
  where
    k : p ≤ m
    k = place-within s m p x h e

    mid : List ℕ
    mid = take (m - p) (drop p s)

    long : length (take p s ++ (x ∷ mid)) ≡ m + 1
    long = simp (length-append, length-take, length-drop) (omega (arith, place-within s m p x h e))

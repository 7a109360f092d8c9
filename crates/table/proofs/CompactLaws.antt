-- A loop that keeps what passes a test, in place: i numbers read, j written back to the front.
-- Assumes nothing.
use Prim.Native.Nat.{ℕ, ◌+◌, ◌≤◌, ◌<◌}
use mathlib.Core.Path.{◌≡◌, refl, sym, ap, ◌∙◌}
use mathlib.Core.Bool.{Bool, true, false, cond}
use mathlib.Core.List.{List, [], ◌∷◌, ◌++◌, append-nil}
use lib.ListN.{length, get_or, take, drop, set, length-set}
use lib.Seq.{drop-drop, drop-set-lt, get_or-drop, get_or-take, length-take-le, take-suc, take-suc-set}
use native.Mathlib.Omega.{arith}
use native.Mathlib.Nat.{add-zero}
use native.Mathlib.Numerals.{add-one}
use Rattle.meaning.specs.Lists.{all_of, keep_if}
use Rattle.table.proofs.LoopLaws.{all_get_d}

-- what is kept of two lists, and of a list with one number more
keep_append : (f : ℕ → Bool) (a b : List ℕ) → keep_if f (a ++ b) ≡ keep_if f a ++ keep_if f b
unfolding keep_if
keep_append f [] b = refl
keep_append f (l ∷ a) b = go (f l) (keep_append f a b)
  where
    go : (t : Bool) → keep_if f (a ++ b) ≡ keep_if f a ++ keep_if f b → cond t (l ∷ keep_if f (a ++ b)) (keep_if f (a ++ b)) ≡ cond t (l ∷ keep_if f a) (keep_if f a) ++ keep_if f b
    go true ih = ap (λ (r : List ℕ). l ∷ r) ih
    go false ih = ih

keep-yes : (f : ℕ → Bool) (c : List ℕ) (i : ℕ) → i < length c → f (get_or c i 0) ≡ true → keep_if f (take (i + 1) c) ≡ keep_if f (take i c) ++ (get_or c i 0 ∷ [])
unfolding keep_if
keep-yes f c i h t = rw (add-one, take-suc c i 0 h) (keep_append f (take i c) (get_or c i 0 ∷ []) ∙ rw t)

keep-no : (f : ℕ → Bool) (c : List ℕ) (i : ℕ) → i < length c → f (get_or c i 0) ≡ false → keep_if f (take (i + 1) c) ≡ keep_if f (take i c)
unfolding keep_if
keep-no f c i h t = rw (add-one, take-suc c i 0 h) (keep_append f (take i c) (get_or c i 0 ∷ []) ∙ rw t (append-nil (keep_if f (take i c))))

-- s₀ is the list at the start, and its first n numbers are read
pub record Compacted (f : ℕ → Bool) (s₀ : List ℕ) (n : ℕ) (s : List ℕ) (i j : ℕ) : Type 0 where
  pub within : i ≤ n
  pub behind : j ≤ i
  pub long : length s ≡ length s₀
  pub front : take j s ≡ keep_if f (take i s₀)
  pub rest : drop i s ≡ drop i s₀

pub compacted-start : (f : ℕ → Bool) (s : List ℕ) (n : ℕ) → Compacted f s n s 0 0
unfolding keep_if
compacted-start f s n = record { within = omega arith; behind = omega arith; long = refl; front = refl; rest = refl }

module _ (f : ℕ → Bool) (s₀ : List ℕ) (n : ℕ) (room : n ≤ length s₀) (s : List ℕ) (i j : ℕ) (h : Compacted f s₀ n s i j) (more : i < n) where
  read : get_or s i 0 ≡ get_or s₀ i 0
  read =
      ap (λ (k : ℕ). get_or s k 0) (sym (add-zero i)) ∙ sym (get_or-drop i s 0 0) ∙ ap (λ (l : List ℕ). get_or l 0 0) h.rest ∙ get_or-drop i s₀ 0 0 ∙ ap (λ (k : ℕ). get_or s₀ k 0) (add-zero i)

  pub compacted-all : (g : ℕ → Bool) → all_of g (take n s₀) ≡ true → g (get_or s i 0) ≡ true
  compacted-all g a =
      ap g (read ∙ sym (get_or-take n s₀ i 0 more)) ∙ all_get_d g 0 (take n s₀) i a (omega (arith, length-take-le n s₀ room))

  further : drop (i + 1) s ≡ drop (i + 1) s₀
  further = sym (drop-drop 1 i s) ∙ ap (drop 1) h.rest ∙ drop-drop 1 i s₀

  pub compacted-keep : f (get_or s i 0) ≡ true → Compacted f s₀ n (set s j (get_or s i 0)) (i + 1) (j + 1)
  compacted-keep t =
      let a = get_or s i 0 in
      let l : j < length s = omega (arith, h.long, h.behind) in
      record {
        within = omega arith;
        behind = omega (arith, h.behind);
        long = length-set s j a ∙ h.long;
        front =
            ap (λ (k : ℕ). take k (set s j a)) (add-one j)
            ∙ take-suc-set s j a l
            ∙ ap (λ (r : List ℕ). r ++ (a ∷ [])) h.front
            ∙ ap (λ (x : ℕ). keep_if f (take i s₀) ++ (x ∷ [])) read
            ∙ sym (keep-yes f s₀ i (omega arith) (ap f (sym read) ∙ t));
        rest = drop-set-lt (i + 1) s j a (omega (arith, h.behind)) ∙ further;
      }

  pub compacted-skip : f (get_or s i 0) ≡ false → Compacted f s₀ n s (i + 1) j
  compacted-skip t =
      record {
        within = omega arith;
        behind = omega (arith, h.behind);
        long = h.long;
        front = h.front ∙ sym (keep-no f s₀ i (omega arith) (ap f (sym read) ∙ t));
        rest = further;
      }

pub compacted-end : (f : ℕ → Bool) (s₀ : List ℕ) (n : ℕ) (s : List ℕ) (i j : ℕ) → Compacted f s₀ n s i j → n ≤ i → take j s ≡ keep_if f (take n s₀)
compacted-end f s₀ n s i j h k =
    let d : i ≡ n = omega (arith, h.within) in
    h.front ∙ ap (λ (m : ℕ). keep_if f (take m s₀)) d

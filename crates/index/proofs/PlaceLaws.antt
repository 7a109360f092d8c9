-- The places of an index: a number f l for each literal l below n, then the numbers z.
-- Assumes nothing.
use Prim.Native.Nat.{ℕ, zero, suc, ◌+◌, ◌<◌}
use mathlib.Core.Path.{◌≡◌, refl, sym, ap, ◌∙◌}
use mathlib.Core.List.{List, ◌++◌, map}
use lib.ListN.{length, get_or, drop, set, length-map, length-set, replicate, length-replicate, get_or-replicate, get_or-append}
use lib.Seq.{ext_get_or, get_or-set_same, get_or-set_other, set-append_left}
use lib.Dec.{eqb}
use native.Mathlib.Omega.{arith}
use native.Mathlib.Nat.{add-zero, add-suc, suc-add, not-suc-le-zero, le_of_suc-le-suc, zero-add}
use Rattle.meaning.specs.Lists.{up_from}
use Rattle.meaning.proofs.Basics.{by_cases, eqb-true, eqb-false}
use Rattle.table.proofs.ListLaws.{drop-skip, set-skip}

up-length : (a n : ℕ) → length (up_from a n) ≡ n
unfolding up_from
up-length a zero = refl
up-length a (suc n) = ap suc (up-length (suc a) n)

up_at : (f : ℕ → ℕ) (a n i : ℕ) → i < n → get_or (map f (up_from a n)) i 0 ≡ f (a + i)
unfolding up_from
up_at f a zero i h = absurd (not-suc-le-zero h)
up_at f a (suc n) zero h = ap f (sym (add-zero a))
up_at f a (suc n) (suc i) h = up_at f (suc a) n i (le_of_suc-le-suc h) ∙ ap f (suc-add a i ∙ sym (add-suc a i))

pub places-length : (f : ℕ → ℕ) (n : ℕ) → length (map f (up_from 0 n)) ≡ n
places-length f n = length-map (up_from 0 n) f ∙ up-length 0 n

-- two functions that agree below n
pub places_same : (f g : ℕ → ℕ) (n : ℕ) → ((l : ℕ) → l < n → f l ≡ g l) → map f (up_from 0 n) ≡ map g (up_from 0 n)
places_same f g n same =
    ext_get_or 0 (map f (up_from 0 n)) (map g (up_from 0 n)) (places-length f n ∙ sym (places-length g n))
    (λ l h.
    let k : l < n = omega (arith, places-length f n) in
    up_at f 0 n l k ∙ ap f (zero-add l) ∙ same l k ∙ sym (up_at g 0 n l k ∙ ap g (zero-add l)))

-- a function that is zero
pub places-zero : (f : ℕ → ℕ) (n : ℕ) → ((l : ℕ) → f l ≡ 0) → replicate n 0 ≡ map f (up_from 0 n)
places-zero f n zeros =
    ext_get_or 0 (replicate n 0) (map f (up_from 0 n)) (length-replicate n 0 ∙ sym (places-length f n))
    (λ l h.
    let k : l < n = omega (arith, length-replicate {A = ℕ} n 0) in
    get_or-replicate n l 0 0 k ∙ sym (up_at f 0 n l k ∙ zeros (0 + l)))

module _ (f : ℕ → ℕ) (n : ℕ) (z : List ℕ) where
  pub place-at : (l : ℕ) → l < n → get_or (map f (up_from 0 n) ++ z) l 0 ≡ f l
  place-at l h =
      get_or-append (map f (up_from 0 n)) z 0 l (omega (arith, places-length f n)) ∙ up_at f 0 n l h ∙ ap f (zero-add l)

  pub places_behind : (k : ℕ) → drop (n + k) (map f (up_from 0 n) ++ z) ≡ drop k z
  places_behind k = drop-skip (map f (up_from 0 n)) z n k (places-length f n)

  -- a number written behind them
  pub number-set : (k v : ℕ) → set (map f (up_from 0 n) ++ z) (n + k) v ≡ map f (up_from 0 n) ++ set z k v
  number-set k v = set-skip (map f (up_from 0 n)) z n k v (places-length f n)

  -- the place of l written
  pub place_set : (g : ℕ → ℕ) (l v : ℕ) → l < n → g l ≡ v → ((k : ℕ) → (k ≡ l → ⊥) → f k ≡ g k)
      → set (map f (up_from 0 n) ++ z) l v ≡ map g (up_from 0 n) ++ z
  place_set g l v h e other =
      set-append_left (map f (up_from 0 n)) z l v (omega (arith, places-length f n))
      ∙ ap (λ (r : List ℕ). r ++ z)
      (ext_get_or 0 (set (map f (up_from 0 n)) l v) (map g (up_from 0 n))
      (length-set (map f (up_from 0 n)) l v ∙ places-length f n ∙ sym (places-length g n))
      (λ k q. at k (omega (arith, length-set (map f (up_from 0 n)) l v, places-length f n))))
    where
      at : (k : ℕ) → k < n → get_or (set (map f (up_from 0 n)) l v) k 0 ≡ get_or (map g (up_from 0 n)) k 0
      at k q =
          by_cases (eqb k l)
          (λ t.
          let d : k ≡ l = eqb-true k l t in
          rw d (get_or-set_same (map f (up_from 0 n)) l v 0 (omega (arith, places-length f n)) ∙ sym (up_at g 0 n l h ∙ ap g (zero-add l) ∙ e)))
          (λ t.
          get_or-set_other (map f (up_from 0 n)) l k v 0 (eqb-false k l t)
          ∙ up_at f 0 n k q
          ∙ ap f (zero-add k)
          ∙ other k (eqb-false k l t)
          ∙ sym (up_at g 0 n k q ∙ ap g (zero-add k)))

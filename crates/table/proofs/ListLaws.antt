-- Laws of lists: parts, tails and loops that write.
-- Assumes nothing.
use Prim.Native.Nat.{ℕ, zero, suc, ◌+◌, ◌-◌, ◌≤◌, ◌<◌}
use mathlib.Core.Path.{◌≡◌, sym, ap, ◌∙◌}
use mathlib.Core.List.{List, [], ◌∷◌, ◌++◌, append-nil}
use lib.ListN.{length, get_or, take, drop, set, replicate, length-drop, drop_of_length-le}
use lib.Seq.{drop-cons, take-suc, set_at, append_snoc, length-take-le, take_all, take-append-add, drop-append-add, get_or-append-add}
use borrow.Rule.Slice.PartMut.{put_mid}
use native.Mathlib.Omega.{arith}
use native.Mathlib.Nat.{le_of_lt, zero-add, suc-add, sub-zero, zero-sub, suc-sub-suc}
use native.Mathlib.Numerals.{add-one}

-- ---- a loop that copies s over the front of d, an element a turn
pub front-next : (s d : List ℕ) (i : ℕ) → i < length s → i < length d → set (take i s ++ drop i d) i (get_or s i 0) ≡ take (i + 1) s ++ drop (i + 1) d
front-next s d i h k =
    ap (λ (r : List ℕ). set (take i s ++ r) i (get_or s i 0)) (drop-cons d i 0 k)
    ∙ set_at (take i s) (get_or d i 0) (drop (suc i) d) (get_or s i 0) i (length-take-le i s (le_of_lt h))
    ∙ sym (append_snoc (take i s) (get_or s i 0) (drop (suc i) d))
    ∙ ap (λ (r : List ℕ). r ++ drop (suc i) d) (sym (take-suc s i 0 h))
    ∙ ap (λ (k : ℕ). take k s ++ drop k d) (sym (add-one i))

pub front-done : (s d : List ℕ) (i : ℕ) → i ≤ length s → length s ≤ i → take i s ++ drop i d ≡ s ++ drop (length s) d
front-done s d i h k =
    let e : i ≡ length s = omega arith in
    ap (λ (r : List ℕ). r ++ drop i d) (take_all i s k) ∙ ap (λ (n : ℕ). s ++ drop n d) e

-- the same, from a loop's invariant
pub front-turn : (s d t : List ℕ) (i : ℕ) → t ≡ take i s ++ drop i d → i < length s → i < length d → set t i (get_or s i 0) ≡ take (i + 1) s ++ drop (i + 1) d
front-turn s d t i e h k = rw e (front-next s d i h k)

pub front-end : (s d t : List ℕ) (i : ℕ) → t ≡ take i s ++ drop i d → i ≤ length s → length s ≤ i → t ≡ s ++ drop (length s) d
front-end s d t i e h k = e ∙ front-done s d i h k

-- ---- what stands behind a first part of n numbers
module _ {A : Type 0} where
  pub take-skip : (p q : List A) (n k : ℕ) → length p ≡ n → take (n + k) (p ++ q) ≡ p ++ take k q
  take-skip p q n k e = rw (← e) (take-append-add p q k)

  pub drop-skip : (p q : List A) (n k : ℕ) → length p ≡ n → drop (n + k) (p ++ q) ≡ drop k q
  drop-skip p q n k e = rw (← e) (drop-append-add p q k)

  pub get_d-skip : (p q : List A) (n k : ℕ) (d : A) → length p ≡ n → get_or (p ++ q) (n + k) d ≡ get_or q k d
  get_d-skip p q n k d e = rw (← e) (get_or-append-add p q k d)

  set-append-add : (p q : List A) (k : ℕ) (v : A) → set (p ++ q) (length p + k) v ≡ p ++ set q k v
  set-append-add [] q k v = rw (zero-add k)
  set-append-add (x ∷ p) q k v = rw (suc-add (length p) k) (ap (λ (r : List A). x ∷ r) (set-append-add p q k v))

  pub set-skip : (p q : List A) (n k : ℕ) (v : A) → length p ≡ n → set (p ++ q) (n + k) v ≡ p ++ set q k v
  set-skip p q n k v e = rw (← e) (set-append-add p q k v)

  pub drop-replicate : (k n : ℕ) (a : A) → drop k (replicate n a) ≡ replicate (n - k) a
  drop-replicate zero n a = rw (sub-zero n)
  drop-replicate (suc k) zero a = rw (zero-sub (suc k))
  drop-replicate (suc k) (suc n) a = drop-replicate k n a ∙ rw (suc-sub-suc n k)

-- ---- a part up to the end, lent and back
pub tail-mid : (xs : List ℕ) (a : ℕ) → take (length xs - a) (drop a xs) ≡ drop a xs
tail-mid xs a = take_all (length xs - a) (drop a xs) (simp length-drop (omega arith))

pub tail-post : (xs : List ℕ) (a : ℕ) → drop (length xs - a) (drop a xs) ≡ []
tail-post xs a = drop_of_length-le (drop a xs) {i = length xs - a} (simp length-drop (omega arith))

pub tail-put : (xs ys : List ℕ) (a : ℕ) → put_mid a (length xs - a) xs ys ≡ take a xs ++ ys
tail-put xs ys a = ap (λ (r : List ℕ). take a xs ++ (ys ++ r)) (tail-post xs a) ∙ ap (λ (r : List ℕ). take a xs ++ r) (append-nil ys)

-- a call was lent the tail from a, and wrote s at its front: the whole list when the part is back
pub tail_written : (xs s ys : List ℕ) (a : ℕ) → ys ≡ s ++ drop (length s) (take (length xs - a) (drop a xs)) → put_mid a (length xs - a) xs ys ≡ take a xs ++ (s ++ drop (length s) (drop a xs))
tail_written xs s ys a e =
    tail-put xs ys a ∙ ap (λ (r : List ℕ). take a xs ++ r) e ∙ ap (λ (r : List ℕ). take a xs ++ (s ++ drop (length s) r)) (tail-mid xs a)

pub fill_end : (t d : List ℕ) (i n : ℕ) → t ≡ replicate i 0 ++ drop i d → length d ≤ i → i ≡ n → t ≡ replicate n 0
fill_end t d i n e h k =
    e ∙ ap (λ (r : List ℕ). replicate i 0 ++ r) (drop_of_length-le d {i = i} h) ∙ append-nil (replicate i 0) ∙ ap (λ (m : ℕ). replicate m 0) k

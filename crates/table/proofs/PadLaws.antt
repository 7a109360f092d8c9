-- Laws of the three parts of a table: padded lists, clause ends, the literals of all clauses.
-- Assumes nothing.
use Prim.Native.Nat.{ℕ, zero, suc, ◌+◌, ◌-◌, ◌≤◌, ◌<◌}
use mathlib.Core.Path.{◌≡◌, refl, sym, ap, ◌∙◌}
use mathlib.Core.List.{List, [], ◌∷◌, ◌++◌, append_assoc, append-nil}
use lib.ListN.{length, get_or, take, drop, set, replicate, length-append, length-replicate, take-append-drop, get_or-append}
use lib.Seq.{drop-cons, take-suc, drop-append-le, take_at, drop_at, set_at, append_snoc}
use native.Mathlib.Omega.{arith}
use native.Mathlib.Nat.{not-suc-le-zero, le_of_suc-le-suc, add-zero}
use Rattle.meaning.specs.WellFormed.{literals}
use Rattle.table.specs.Table.{all_literals, start_of, ends_from, pad}
use Rattle.meaning.proofs.Weight.{literals-append}
use Rattle.table.proofs.ListLaws.{drop-replicate}

-- Padding -----------------------------------------------------------------------------------------------------
pub length-pad : (n : ℕ) (l : List ℕ) → length l ≤ n → length (pad n l) ≡ n
unfolding pad
length-pad n l h = simp (length-append, length-replicate) (omega arith)

-- a number more at the front of the zeros
pub pad-set : (n : ℕ) (l : List ℕ) (v : ℕ) → length l < n → set (pad n l) (length l) v ≡ pad n (l ++ (v ∷ []))
unfolding pad
pad-set n l v h =
    let e : n - length l ≡ suc (n - (length l + 1)) = omega arith in
    ap (λ (k : ℕ). set (l ++ replicate k 0) (length l) v) e
    ∙ set_at l 0 (replicate (n - (length l + 1)) 0) v (length l) refl
    ∙ sym (append_snoc l v (replicate (n - (length l + 1)) 0))
    ∙ ap (λ (k : ℕ). l ++ (v ∷ []) ++ replicate (n - k) 0) (sym (length-append l (v ∷ [])))

pub pad-take : (n : ℕ) (l : List ℕ) → take (length l) (pad n l) ≡ l
unfolding pad
pad-take n l = take_at l (replicate (n - length l) 0) (length l) refl

pub pad-drop : (n : ℕ) (l : List ℕ) → drop (length l) (pad n l) ≡ replicate (n - length l) 0
unfolding pad
pad-drop n l = drop_at l (replicate (n - length l) 0) (length l) refl

-- a list s written at the front of the zeros
pub pad-write : (n : ℕ) (l s : List ℕ) → take (length l) (pad n l) ++ (s ++ drop (length s) (drop (length l) (pad n l))) ≡ pad n (l ++ s)
unfolding pad
pad-write n l s =
    let e : n - length l - length s ≡ n - length (l ++ s) = simp length-append (omega arith) in
    ap (λ (r : List ℕ). r ++ (s ++ drop (length s) (drop (length l) (pad n l)))) (pad-take n l)
    ∙ ap (λ (r : List ℕ). l ++ (s ++ drop (length s) r)) (pad-drop n l)
    ∙ ap (λ (r : List ℕ). l ++ (s ++ r)) (drop-replicate (length s) (n - length l) 0 ∙ ap (λ (k : ℕ). replicate k 0) e)
    ∙ sym (append_assoc l s (replicate (n - length (l ++ s)) 0))

pub pad-at : (n : ℕ) (l : List ℕ) (i : ℕ) → i < length l → get_or (pad n l) i 0 ≡ get_or l i 0
unfolding pad
pad-at n l i h = get_or-append l (replicate (n - length l) 0) 0 i h

pub pad-drop-le : (n : ℕ) (l : List ℕ) (i : ℕ) → i ≤ length l → drop i (pad n l) ≡ drop i l ++ replicate (n - length l) 0
unfolding pad
pad-drop-le n l i h = drop-append-le i l (replicate (n - length l) 0) h

-- the zeros of a padded list, with more behind them
pub pad-free : (n : ℕ) (l rest : List ℕ) (k : ℕ) → length l ≤ n → k ≡ n - length l → take k (drop (length l) (pad n l ++ rest)) ≡ replicate (n - length l) 0
pad-free n l rest k h e =
    ap (take k) (drop-append-le (length l) (pad n l) rest (omega (arith, length-pad n l h)) ∙ ap (λ (r : List ℕ). r ++ rest) (pad-drop n l))
    ∙ take_at (replicate (n - length l) 0) rest k (length-replicate (n - length l) 0 ∙ sym e)

-- Ends and literals -------------------------------------------------------------------------------------------
pub length-ends : (k : ℕ) (cs : List (List ℕ)) → length (ends_from k cs) ≡ length cs
unfolding ends_from
length-ends k [] = refl
length-ends k (c ∷ cs) = ap suc (length-ends (k + length c) cs)

pub length-all : (cs : List (List ℕ)) → length (all_literals cs) ≡ literals cs
unfolding all_literals literals
length-all [] = refl
length-all (c ∷ cs) = length-append c (all_literals cs) ∙ ap (λ (n : ℕ). length c + n) (length-all cs)

pub all_append : (a b : List (List ℕ)) → all_literals (a ++ b) ≡ all_literals a ++ all_literals b
unfolding all_literals
all_append [] b = refl
all_append (c ∷ a) b = rw (all_append a b) (sym (append_assoc c (all_literals a) (all_literals b)))

pub all_snoc : (cs : List (List ℕ)) (c : List ℕ) → all_literals (cs ++ (c ∷ [])) ≡ all_literals cs ++ c
unfolding all_literals
all_snoc cs c = all_append cs (c ∷ []) ∙ ap (λ (r : List ℕ). all_literals cs ++ r) (append-nil c)

pub literals-snoc : (cs : List (List ℕ)) (c : List ℕ) → literals (cs ++ (c ∷ [])) ≡ literals cs + length c
unfolding literals
literals-snoc cs c = literals-append cs (c ∷ []) ∙ omega arith

pub ends_snoc : (k : ℕ) (cs : List (List ℕ)) (c : List ℕ) → ends_from k (cs ++ (c ∷ [])) ≡ ends_from k cs ++ ((k + literals cs + length c) ∷ [])
unfolding ends_from literals
ends_snoc k [] c = rw (add-zero k)
ends_snoc k (d ∷ cs) c =
    let e : k + length d + literals cs ≡ k + (length d + literals cs) = omega arith in
    ap (λ (r : List ℕ). (k + length d) ∷ r)
    (ends_snoc (k + length d) cs c ∙ ap (λ (m : ℕ). ends_from (k + length d) cs ++ ((m + length c) ∷ [])) e)

-- Where a clause begins ---------------------------------------------------------------------------------------
pub all-at : (cs : List (List ℕ)) (i : ℕ) → i < length cs → all_literals (drop i cs) ≡ get_or cs i [] ++ all_literals (drop (suc i) cs)
unfolding all_literals
all-at cs i h = rw (drop-cons cs i [])

pub start-zero : (cs : List (List ℕ)) → start_of cs 0 ≡ 0
unfolding start_of literals
start-zero cs = refl

pub start-next : (cs : List (List ℕ)) (i : ℕ) → i < length cs → start_of cs (suc i) ≡ start_of cs i + length (get_or cs i [])
unfolding start_of
start-next cs i h = rw (take-suc cs i [] h) (literals-snoc (take i cs) (get_or cs i []))

start-split : (cs : List (List ℕ)) (i : ℕ) → all_literals cs ≡ all_literals (take i cs) ++ all_literals (drop i cs)
start-split cs i = ap all_literals (sym (take-append-drop i cs)) ∙ all_append (take i cs) (drop i cs)

pub start-within : (cs : List (List ℕ)) (i : ℕ) → start_of cs i ≤ literals cs
unfolding start_of
start-within cs i = omega (arith, ap literals (sym (take-append-drop i cs)) ∙ literals-append (take i cs) (drop i cs))

pub start-drop : (cs : List (List ℕ)) (i : ℕ) → drop (start_of cs i) (all_literals cs) ≡ all_literals (drop i cs)
unfolding start_of
start-drop cs i =
    ap (drop (literals (take i cs))) (start-split cs i)
    ∙ drop_at (all_literals (take i cs)) (all_literals (drop i cs)) (literals (take i cs)) (length-all (take i cs))

pub ends_at : (k : ℕ) (cs : List (List ℕ)) (i : ℕ) → i < length cs → get_or (ends_from k cs) i 0 ≡ k + start_of cs (suc i)
unfolding ends_from start_of literals
ends_at k [] i h = absurd (not-suc-le-zero h)
ends_at k (c ∷ cs) zero h = omega arith
ends_at k (c ∷ cs) (suc i) h = ends_at (k + length c) cs i (le_of_suc-le-suc h) ∙ omega arith

-- The ranks of a prefix: one entry more is one store, and a variable has a rank exactly if it is in the prefix.
-- Assumes nothing.
use Prim.Native.Nat.{ℕ, zero, suc, ◌+◌, ◌*◌, ◌/◌, ◌%◌, ◌≤◌, ◌<◌}
use mathlib.Core.Path.{◌≡◌, refl, sym, ap, ◌∙◌, subst}
use mathlib.Core.Bool.{Bool, true, false, ◌&&◌, ◌||◌, not, cond}
use mathlib.Core.List.{List, [], ◌∷◌, ◌++◌, map}
use lib.ListN.{length, get_or, take, drop, set, replicate, length-set, length-map}
use lib.Seq.{ext_get_or, get_or-set_same, get_or-set_other, split_at, take-suc, take_all}
use lib.Dec.{eqb, ltb, leb}
use borrow.Author.Tests.{lt-ltb, le-ltb, ltb-true, le-leb, lt-leb, leb-true}
use native.Mathlib.Omega.{arith}
use native.Mathlib.Nat.{add-zero, add-suc, suc-add, not-suc-le-zero, le_of_suc-le-suc}
use native.Mathlib.Numerals.{add-one}
use Rattle.meaning.specs.Lists.{any_of, all_of, up_from}
use Rattle.meaning.specs.Formula.{var, is_var, mentions}
use Rattle.meaning.specs.WellFormed.{good_prefix}
use Rattle.table.specs.Ranks.{rank_from, ranks_of, rankable, good_entries, Ranked}
use Rattle.meaning.proofs.Basics.{by_cases, clash, false_of, and_l, and_r, and_i, or_l, or_r, not-true, eqb-self, eqb-true, eqb-false, eqb-ne}
use Rattle.meaning.proofs.Lists.{all_append, all_snoc}
use Rattle.meaning.proofs.Prefix.{good-snoc, good-next}

-- Every variable has its place in the slice -------------------------------------------------------------------
length_up : (a n : ℕ) → length (up_from a n) ≡ n
unfolding up_from
length_up a zero = refl
length_up a (suc n) = ap suc (length_up (suc a) n)

mapped_at : (f : ℕ → ℕ) (a n i : ℕ) → i < n → get_or (map f (up_from a n)) i 0 ≡ f (a + i)
unfolding up_from
mapped_at f a zero i h = absurd (not-suc-le-zero h)
mapped_at f a (suc n) zero h = ap f (sym (add-zero a))
mapped_at f a (suc n) (suc i) h = mapped_at f (suc a) n i (le_of_suc-le-suc h) ∙ ap f (suc-add a i ∙ sym (add-suc a i))

pub length-ranks : (p : List ℕ) → length (ranks_of p) ≡ 1024
unfolding ranks_of
length-ranks p = length-map (up_from 0 1024) (rank_from 1 p) ∙ length_up 0 1024

pub rank-at : (p : List ℕ) (v : ℕ) → v < 1024 → get_or (ranks_of p) v 0 ≡ rank_from 1 p v
unfolding ranks_of
rank-at p v h = mapped_at (rank_from 1 p) 0 1024 v h ∙ ap (rank_from 1 p) (omega arith)

zero-map : (a n : ℕ) → map (rank_from 1 []) (up_from a n) ≡ replicate n 0
unfolding rank_from up_from
zero-map a zero = refl
zero-map a (suc n) = ap (λ (l : List ℕ). 0 ∷ l) (zero-map (suc a) n)

pub ranks-none : replicate 1024 0 ≡ ranks_of []
unfolding ranks_of
ranks-none = sym (zero-map 0 1024)

-- One entry more at the right end -----------------------------------------------------------------------------
rank-new : (k : ℕ) (p : List ℕ) (e : ℕ) → mentions p (var e) ≡ false → rank_from k (p ++ (e ∷ [])) (var e) ≡ 2 * (k + length p) + e % 2
unfolding rank_from mentions any_of is_var
rank-new k [] e out = rw (eqb-self (var e)) (omega arith)
rank-new k (q ∷ p) e out =
    rw (or_l (eqb (var q) (var e)) (mentions p (var e)) out)
    (rank-new (suc k) p e (or_r (eqb (var q) (var e)) (mentions p (var e)) out) ∙ omega arith)

rank-other : (k : ℕ) (p : List ℕ) (e v : ℕ) → eqb (var e) v ≡ false → rank_from k (p ++ (e ∷ [])) v ≡ rank_from k p v
unfolding rank_from is_var
rank-other k [] e v h = rw h
rank-other k (q ∷ p) e v h = ap (cond (eqb (var q) v) (2 * k + q % 2)) (rank-other (suc k) p e v h)

pub rank-more : (p : List ℕ) (e n : ℕ) (ranks : List ℕ) → length p ≡ n → mentions p (var e) ≡ false → e < 2048 → ranks ≡ ranks_of p → set ranks (e / 2) (2 * (n + 1) + e % 2) ≡ ranks_of (p ++ (e ∷ []))
rank-more p e n ranks l out small q =
    ext_get_or 0 (set ranks (e / 2) x) (ranks_of (p ++ (e ∷ [])))
    (length-set ranks (e / 2) x ∙ long ∙ sym (length-ranks (p ++ (e ∷ []))))
    (λ v h. at v (omega (arith, length-set ranks (e / 2) x, long)))
  where
    x : ℕ
    x = 2 * (n + 1) + e % 2

    long : length ranks ≡ 1024
    long = ap length q ∙ length-ranks p

    at : (v : ℕ) → v < 1024 → get_or (set ranks (e / 2) x) v 0 ≡ get_or (ranks_of (p ++ (e ∷ []))) v 0
    at v h =
        by_cases (eqb (var e) v)
        (λ t.
        let z : e / 2 ≡ v = unfold var in eqb-true (var e) v t in
        ap (λ (w : ℕ). get_or (set ranks w x) v 0) z
        ∙ get_or-set_same ranks v x 0 (omega (arith, long))
        ∙ sym (rank-at (p ++ (e ∷ [])) v h ∙ ap (rank_from 1 (p ++ (e ∷ []))) (sym (eqb-true (var e) v t)) ∙ rank-new 1 p e out ∙ ap (λ (m : ℕ). 2 * m + e % 2) (omega (arith, l))))
        (λ t.
        get_or-set_other ranks (e / 2) v x 0 (λ z. eqb-false (var e) v t (unfold var in sym z))
        ∙ ap (λ (r : List ℕ). get_or r v 0) q
        ∙ rank-at p v h
        ∙ sym (rank-at (p ++ (e ∷ [])) v h ∙ rank-other 1 p e v t))

-- A variable has a rank exactly if it is in the prefix --------------------------------------------------------
pub rank-there : (k : ℕ) (p : List ℕ) (v : ℕ) → eqb (rank_from (suc k) p v) 0 ≡ not (mentions p v)
unfolding rank_from mentions any_of is_var
rank-there k [] v = refl
rank-there k (q ∷ p) v = go (eqb (var q) v) (rank-there (suc k) p v)
  where
    go : (t : Bool) → eqb (rank_from (suc (suc k)) p v) 0 ≡ not (mentions p v) → eqb (cond t (2 * suc k + q % 2) (rank_from (suc (suc k)) p v)) 0 ≡ not (t || mentions p v)
    go true ih = eqb-ne (2 * suc k + q % 2) 0 (λ e. omega arith)
    go false ih = ih

-- the three answers of is_new
pub new-zero : (p : List ℕ) (q : ℕ) → q < 2 → false ≡ rankable p q
unfolding rankable var
new-zero p q h = rw (le-ltb 0 (q / 2) (omega arith))

pub new-large : (p : List ℕ) (q : ℕ) → 2 ≤ q → 2047 < q → false ≡ rankable p q
unfolding rankable var
new-large p q l h = rw (lt-ltb 0 (q / 2) (omega arith), lt-leb (q / 2) 1023 (omega arith))

pub new-rank : (p : List ℕ) (q : ℕ) (ranks : List ℕ) → 2 ≤ q → q ≤ 2047 → ranks ≡ ranks_of p → eqb (get_or ranks (q / 2) 0) 0 ≡ rankable p q
unfolding rankable var
new-rank p q ranks l h e =
    ap (λ (r : List ℕ). eqb (get_or r (q / 2) 0) 0) e
    ∙ ap (λ (x : ℕ). eqb x 0) (rank-at p (q / 2) (omega arith))
    ∙ rank-there 0 p (q / 2)
    ∙ rw (lt-ltb 0 (q / 2) (omega arith), le-leb (q / 2) 1023 (omega arith))

-- Ranking a whole prefix --------------------------------------------------------------------------------------
pub rankable-is : (p : List ℕ) (q : ℕ) → rankable p q ≡ true → (0 < var q) × (leb (var q) 1023 ≡ true) × (mentions p (var q) ≡ false)
unfolding rankable
rankable-is p q h =
    let r = and_r (ltb 0 (var q)) (leb (var q) 1023 && not (mentions p (var q))) h in
    (ltb-true 0 (var q) (and_l (ltb 0 (var q)) (leb (var q) 1023 && not (mentions p (var q))) h), and_l (leb (var q) 1023) (not (mentions p (var q))) r, not-true (mentions p (var q)) (and_r (leb (var q) 1023) (not (mentions p (var q))) r))

entries-snoc : (p : List ℕ) (q : ℕ) → good_entries p ≡ true → rankable p q ≡ true → good_entries (p ++ (q ∷ [])) ≡ true
unfolding good_entries
entries-snoc p q g h =
    let r = rankable-is p q h in
    and_i (good_prefix (p ++ (q ∷ []))) (all_of (λ q. leb (var q) 1023) (p ++ (q ∷ [])))
    (good-snoc p q (and_l (good_prefix p) (all_of (λ q. leb (var q) 1023) p) g) r.0 r.2)
    (all_snoc (λ q. leb (var q) 1023) p q (and_r (good_prefix p) (all_of (λ q. leb (var q) 1023) p) g) r.1)

entries_next : (p : List ℕ) (q : ℕ) (s : List ℕ) → good_entries (p ++ (q ∷ s)) ≡ true → rankable p q ≡ true
unfolding good_entries rankable all_of
entries_next p q s g =
    let n = good-next p q s (and_l (good_prefix (p ++ (q ∷ s))) (all_of (λ q. leb (var q) 1023) (p ++ (q ∷ s))) g) in
    let a = sym (all_append (λ q. leb (var q) 1023) p (q ∷ s)) ∙ and_r (good_prefix (p ++ (q ∷ s))) (all_of (λ q. leb (var q) 1023) (p ++ (q ∷ s))) g in
    let b = and_r (all_of (λ q. leb (var q) 1023) p) (leb (var q) 1023 && all_of (λ q. leb (var q) 1023) s) a in
    and_i (ltb 0 (var q)) (leb (var q) 1023 && not (mentions p (var q))) (lt-ltb 0 (var q) n.0)
    (and_i (leb (var q) 1023) (not (mentions p (var q))) (and_l (leb (var q) 1023) (all_of (λ q. leb (var q) 1023) s) b) (ap not n.1))

-- the loop: i entries are ranked
pub record Ranking (p ranks : List ℕ) (i : ℕ) : Type 0 where
  pub within : i ≤ length p
  pub long : length ranks ≡ 1024
  pub good : good_entries (take i p) ≡ true
  pub table : ranks ≡ ranks_of (take i p)

pub ranking-start : (p ranks : List ℕ) → length ranks ≡ 1024 → ranks ≡ ranks_of [] → Ranking p ranks 0
unfolding good_entries good_prefix all_of
ranking-start p ranks l e = record { within = omega arith; long = l; good = refl; table = e }

module _ (p ranks : List ℕ) (i : ℕ) (inv : Ranking p ranks i) (more : i < length p) (r : Bool) (new : r ≡ rankable (take i p) (get_or p i 0)) where
  front : take (i + 1) p ≡ take i p ++ (get_or p i 0 ∷ [])
  front = ap (λ (n : ℕ). take n p) (add-one i) ∙ take-suc p i 0 more

  -- what add_rank asks
  pub ranking-new : r ≡ true → mentions (take i p) (var (get_or p i 0)) ≡ false
  ranking-new t = (rankable-is (take i p) (get_or p i 0) (sym new ∙ t)).2

  pub ranking-small : r ≡ true → get_or p i 0 < 2048
  unfolding var
  ranking-small t = omega (arith, leb-true (get_or p i 0 / 2) 1023 (rankable-is (take i p) (get_or p i 0) (sym new ∙ t)).1)

  pub ranking-turn : r ≡ true → (ranks' : List ℕ) → length ranks' ≡ length ranks → ranks' ≡ ranks_of (take i p ++ (get_or p i 0 ∷ [])) → Ranking p ranks' (i + 1)
  ranking-turn t ranks' l e =
      record {
        within = omega arith;
        long = l ∙ inv.long;
        good = rw front (entries-snoc (take i p) (get_or p i 0) inv.good (sym new ∙ t));
        table = rw front e;
      }

  pub ranking-fails : r ≡ false → (ranks' : List ℕ) → Ranked p false ranks'
  ranking-fails t ranks' =
      record {
        answer = sym (false_of (good_entries p) (λ g. clash (entries_next (take i p) (get_or p i 0) (drop (suc i) p) (subst (λ (l : List ℕ). good_entries l ≡ true) (split_at p i 0 more) g)) (sym new ∙ t)));
        table = λ z. clash z refl;
      }

pub ranking-end : (p ranks : List ℕ) (i : ℕ) → Ranking p ranks i → length p ≤ i → Ranked p true ranks
ranking-end p ranks i inv h =
    let e : take i p ≡ p = take_all i p h in
    record { answer = sym (ap good_entries (sym e) ∙ inv.good); table = λ z. inv.table ∙ ap ranks_of e }

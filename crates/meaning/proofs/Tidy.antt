-- Tidying keeps the truth: so does building a list of clauses. Assumes nothing.
use mathlib.Core.Path.{◌≡◌, refl, sym, ◌∙◌, ap, subst}
use Prim.Native.Nat.{ℕ, ◌*◌}
use mathlib.Core.Bool.{Bool, true, false, ◌&&◌, ◌||◌, not, cond, false≢true}
use mathlib.Core.List.{List, [], ◌∷◌, ◌++◌, append_assoc, append-nil}
use lib.Dec.{eqb}
use Rattle.meaning.specs.Lists.{all_of, any_of, keep_if, has, same}
use Rattle.meaning.specs.Formula.{Formula, var, odd, is_var, mentions, drop_var, any_exist}
use Rattle.meaning.specs.WellFormed.{good_prefix}
use Rattle.meaning.specs.Tidy.{ascending, both_phases, reduce, dropped, kept, tidy_sorted, tidy, add_tidied, build_on, build, tidied}
use Rattle.meaning.specs.Game.{Values, with_value, lit_true, clause_true, all_true, game, truth}
use Rattle.meaning.proofs.Basics.{by_cases, and_l, and_r, or_elim, not-true, and-move, eqb-true}
use Rattle.meaning.proofs.Game.{FreeOf, game-ext, game-cons, forall-reduce}
use Rattle.meaning.proofs.Lists.{any-ascending, same-path}
use Rattle.meaning.proofs.Prefix.{good-out, good-tail}
use Rattle.meaning.proofs.Peel.{peel, peel-hit, peel-miss, peel-le, peel-out, reduce-peel}
use Rattle.meaning.proofs.Clauses.{clause-free, drop-not, drop-still-not, clause-split, phase-false, one-phase, both_true}

-- one universal less
peel-one : (q : ℕ) (p c : List ℕ) → good_prefix (q ∷ p) ≡ true → both_phases c ≡ false → odd q ≡ true → any_exist p c ≡ false → (m : Values → Bool) (ρ : Values)
    → game (q ∷ p) (λ τ. clause_true (peel (q ∷ p) c) τ && m τ) ρ ≡ game (q ∷ p) (λ τ. clause_true (peel p c) τ && m τ) ρ
unfolding mentions any_of is_var has
peel-one q p c good no_both o none m ρ =
    ap (λ (d : List ℕ). game (q ∷ p) (λ τ. clause_true d τ && m τ) ρ) (peel-hit q p c o none)
    ∙ (sym (forall-reduce q p o (good-out q p good) (clause_true rest) (clause_true gone) m free (not (has (2 * var q) c))
    (phase-false (var q) (not (has (2 * var q) c)) (peel p c) (λ l h e. one-phase (var q) c no_both l (peel-le (λ k. eqb l k) p c h) e)) ρ)
    ∙ game-ext (q ∷ p) (λ τ. (clause_true rest τ || clause_true gone τ) && m τ) (λ τ. clause_true (peel p c) τ && m τ)
    (λ τ. ap (λ (b : Bool). b && m τ) (sym (clause-split (var q) (peel p c) τ))) ρ)
  where
    rest : List ℕ
    rest = drop_var (var q) (peel p c)

    gone : List ℕ
    gone = keep_if (is_var (var q)) (peel p c)

    free : FreeOf (q ∷ p) (clause_true rest)
    free v h = clause-free rest v
        (or_elim (eqb (var q) v) (mentions p v) h
        (λ e. subst (λ (w : ℕ). mentions rest w ≡ false) (eqb-true (var q) v e) (drop-not (var q) (peel p c)))
        (λ e. drop-still-not (var q) v (peel p c) (peel-out p c none v e)))

-- the same for all of them
peel-truth : (p c : List ℕ) → good_prefix p ≡ true → both_phases c ≡ false → (m : Values → Bool) (ρ : Values)
    → game p (λ τ. clause_true (peel p c) τ && m τ) ρ ≡ game p (λ τ. clause_true c τ && m τ) ρ
peel-truth [] c good no_both m ρ = unfold peel in refl
peel-truth (q ∷ p) c good no_both m ρ =
    by_cases (odd q && not (any_exist p c))
    (λ h. peel-one q p c good no_both (and_l (odd q) (not (any_exist p c)) h) (search (and_r, not-true)) m ρ)
    (λ h. ap (λ (d : List ℕ). game (q ∷ p) (λ τ. clause_true d τ && m τ) ρ) (peel-miss q p c h))
    ∙ game-cons q p p (λ τ. clause_true (peel p c) τ && m τ) (λ τ. clause_true c τ && m τ) ρ ρ
    (λ b. peel-truth p c (good-tail q p good) no_both m (with_value ρ (var q) b))

-- universal reduction keeps the truth, whatever stands beside the clause
reduce-truth : (p c : List ℕ) → good_prefix p ≡ true → both_phases c ≡ false → (m : Values → Bool) (ρ : Values)
    → game p (λ τ. clause_true (reduce p c) τ && m τ) ρ ≡ game p (λ τ. clause_true c τ && m τ) ρ
reduce-truth p c good no_both m ρ = ap (λ (d : List ℕ). game p (λ τ. clause_true d τ && m τ) ρ) (reduce-peel p c good) ∙ peel-truth p c good no_both m ρ

-- Building ---------------------------------------------------------------------------------------------------
pub clause-ascending : (c : List ℕ) (τ : Values) → clause_true (ascending c) τ ≡ clause_true c τ
unfolding clause_true
clause-ascending c τ = any-ascending (lit_true τ) c

-- a clause more, anywhere
one-more : (cs : List (List ℕ)) (c : List ℕ) (ds : List (List ℕ)) (τ : Values) → all_true (cs ++ (c ∷ ds)) τ ≡ (clause_true c τ && all_true (cs ++ ds) τ)
unfolding all_true all_of
one-more [] c ds τ = refl
one-more (b ∷ cs) c ds τ = ap (λ (x : Bool). clause_true b τ && x) (one-more cs c ds τ) ∙ and-move (clause_true b τ) (clause_true c τ) (all_true (cs ++ ds) τ)

-- a clause that is there already
again : (cs : List (List ℕ)) (c : List ℕ) (ds : List (List ℕ)) (τ : Values) → any_of (same c) cs ≡ true
    → all_true (cs ++ ds) τ ≡ (clause_true c τ && all_true (cs ++ ds) τ)
unfolding all_true all_of any_of
again [] c ds τ h = absurd (false≢true h)
again (b ∷ cs) c ds τ h =
    or_elim (same c b) (any_of (same c) cs) h
    (λ e. subst (λ (d : List ℕ). (clause_true d τ && all_true (cs ++ ds) τ) ≡ (clause_true c τ && (clause_true d τ && all_true (cs ++ ds) τ))) (same-path c b e) (twice (clause_true c τ) (all_true (cs ++ ds) τ)))
    (λ e. ap (λ (x : Bool). clause_true b τ && x) (again cs c ds τ e) ∙ and-move (clause_true b τ) (clause_true c τ) (all_true (cs ++ ds) τ))
  where
    twice : (a e : Bool) → (a && e) ≡ (a && (a && e))
    twice true e = refl
    twice false e = refl

add-true : (cs : List (List ℕ)) (c : List ℕ) (ds : List (List ℕ)) (τ : Values)
    → all_true (add_tidied cs (kept c) ++ ds) τ ≡ (clause_true c τ && all_true (cs ++ ds) τ)
unfolding add_tidied
add-true cs c ds τ =
    by_cases (any_of (same c) cs)
    (λ h. ap (λ (b : Bool). all_true (cond b cs (cs ++ (c ∷ [])) ++ ds) τ) h ∙ again cs c ds τ h)
    (λ h. ap (λ (b : Bool). all_true (cond b cs (cs ++ (c ∷ [])) ++ ds) τ) h ∙ (ap (λ (k : List (List ℕ)). all_true k τ) (append_assoc cs (c ∷ []) ds) ∙ one-more cs c ds τ))

-- one clause more in the list that is built
pub add-truth : (p : List ℕ) → good_prefix p ≡ true → (cs : List (List ℕ)) (c : List ℕ) (ds : List (List ℕ)) (ρ : Values)
    → game p (all_true (add_tidied cs (tidy p c) ++ ds)) ρ ≡ game p (all_true (cs ++ (c ∷ ds))) ρ
unfolding tidy tidy_sorted add_tidied
add-truth p good cs c ds ρ =
    by_cases (both_phases (ascending c))
    (λ h. ap (λ (b : Bool). game p (all_true (add_tidied cs (cond b dropped (kept (reduce p (ascending c)))) ++ ds)) ρ) h
    ∙ game-ext p (all_true (cs ++ ds)) (all_true (cs ++ (c ∷ ds)))
    (λ τ. sym (one-more cs c ds τ ∙ ap (λ (b : Bool). b && all_true (cs ++ ds) τ) (sym (clause-ascending c τ) ∙ both_true (ascending c) h τ))) ρ)
    (λ h. ap (λ (b : Bool). game p (all_true (add_tidied cs (cond b dropped (kept (reduce p (ascending c)))) ++ ds)) ρ) h
    ∙ (game-ext p (all_true (add_tidied cs (kept (reduce p (ascending c))) ++ ds)) (λ τ. clause_true (reduce p (ascending c)) τ && all_true (cs ++ ds) τ) (add-true cs (reduce p (ascending c)) ds) ρ
    ∙ (reduce-truth p (ascending c) good h (all_true (cs ++ ds)) ρ
    ∙ game-ext p (λ τ. clause_true (ascending c) τ && all_true (cs ++ ds) τ) (all_true (cs ++ (c ∷ ds)))
    (λ τ. ap (λ (b : Bool). b && all_true (cs ++ ds) τ) (clause-ascending c τ) ∙ sym (one-more cs c ds τ)) ρ)))

pub build_on-truth : (p : List ℕ) → good_prefix p ≡ true → (cs raws : List (List ℕ)) (ρ : Values)
    → game p (all_true (build_on p cs raws)) ρ ≡ game p (all_true (cs ++ raws)) ρ
unfolding build_on
build_on-truth p good cs [] ρ = rw (append-nil cs)
build_on-truth p good cs (c ∷ raws) ρ = build_on-truth p good (add_tidied cs (tidy p c)) raws ρ ∙ add-truth p good cs c raws ρ

-- building keeps the truth of the raw clauses
pub build-truth : (p : List ℕ) → good_prefix p ≡ true → (raws : List (List ℕ)) (ρ : Values) → truth p (build p raws) ρ ≡ truth p raws ρ
unfolding truth build
build-truth p good raws ρ = build_on-truth p good [] raws ρ

pub tidied-truth : (r : Formula) → good_prefix r.prefix ≡ true → (ρ : Values)
    → truth (tidied r).prefix (tidied r).clauses ρ ≡ truth r.prefix r.clauses ρ
unfolding tidied
tidied-truth r good ρ = build-truth r.prefix good r.clauses ρ

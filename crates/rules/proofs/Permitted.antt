-- What a permitted step says, part by part. Assumes nothing.
use mathlib.Core.Path.{◌≡◌, refl, sym, ◌∙◌}
use Prim.Native.Nat.{ℕ, zero, suc, ◌<◌}
use native.Mathlib.Omega.{arith}
use mathlib.Core.Bool.{Bool, true, false, ◌&&◌, cond, false≢true}
use mathlib.Core.List.{List, [], ◌∷◌}
use lib.Dec.{eqb, leb-suc-zero, leb-suc-suc}
use lib.ListN.{length}
use borrow.Author.Tests.{ltb-true, lt-ltb}
use Rattle.meaning.specs.Lists.{all_of, any_of, has, part_of, without}
use Rattle.meaning.specs.Formula.{Formula, var, opposite, mentions, existential, universal, right_of, plain, negated}
use Rattle.meaning.specs.WellFormed.{ascends, bound, reduced, tidy_clause, well_formed, fits}
use Rattle.meaning.specs.Game.{Values, clause_true, all_true}
use Rattle.rules.specs.Simplify.{clause_at, is_clause, unit_clause, unit_permitted, occurs, pure_permitted, subsume_permitted, strengthens, strengthen_permitted, strengthen_lit, opposite_pair, equality_permitted, pure_lit, pure_raw, becomes_true, replaced, equality_raw, equality_of}
use Rattle.rules.specs.Eliminate.{near_side, resolve_permitted, universals_first, expand_permitted}
use Rattle.rules.specs.Entry.{Kind}
use Rattle.rules.specs.Choice.{wanted, allowed_call, blocked_call}
use Rattle.rules.specs.Step.{permitted, result_of}
use Rattle.meaning.proofs.Basics.{clash, and_l, and_r, not-true, eqb-ne, eqb-sym}
use Rattle.meaning.proofs.Lists.{same-path, first_passes, first-in}
use Rattle.meaning.proofs.Parts.{tidy_of, ascends-of, bound_of, reduced-of}
use Rattle.meaning.proofs.Literals.{var-of-plain, var-of-negated, var-opp}

-- A clause of the formula ------------------------------------------------------------------------------------
pub there-none {ℓ} : {A : Type ℓ} (a : ℕ) → is_clause [] a ≡ true → A
unfolding is_clause
there-none a i = clash i (leb-suc-zero a)

pub there-later : (c : List ℕ) (cs : List (List ℕ)) (a : ℕ) → is_clause (c ∷ cs) (suc a) ≡ true → is_clause cs a ≡ true
unfolding is_clause
there-later c cs a i = sym (leb-suc-suc (suc a) (length cs)) ∙ i

-- what holds of all clauses holds of that at an index
pub all-at : (f : List ℕ → Bool) (cs : List (List ℕ)) (a : ℕ) → is_clause cs a ≡ true → all_of f cs ≡ true → f (clause_at cs a) ≡ true
unfolding all_of clause_at
all-at f [] a i h = there-none a i
all-at f (c ∷ cs) zero i h = search and_l
all-at f (c ∷ cs) (suc a) i h = all-at f cs a (there-later c cs a i) (search and_r)

pub tidy-at : (φ : Formula) → well_formed φ ≡ true → (a : ℕ) → is_clause φ.clauses a ≡ true → tidy_clause φ.prefix (clause_at φ.clauses a) ≡ true
tidy-at φ w a i = all-at _ _ a i (tidy_of φ w)

pub true-at : (cs : List (List ℕ)) (a : ℕ) → is_clause cs a ≡ true → (τ : Values) → all_true cs τ ≡ true → clause_true (clause_at cs a) τ ≡ true
unfolding all_true
true-at cs a i τ h = all-at _ cs a i h

-- Kinds 1 to 4 -----------------------------------------------------------------------------------------------
pub record UnitSays (φ : Formula) (a : ℕ) : Type 0 where
  pub lit : ℕ
  pub there : is_clause φ.clauses a ≡ true
  pub is : clause_at φ.clauses a ≡ lit ∷ []

one-lit : (c : List ℕ) → unit_clause c ≡ true → (l : ℕ) × (c ≡ l ∷ [])
unfolding unit_clause
one-lit [] h = absurd (false≢true h)
one-lit (l ∷ []) h = (l, refl)
one-lit (l ∷ k ∷ c) h = absurd (false≢true h)

pub unit-says : (φ : Formula) (a : ℕ) → unit_permitted φ a ≡ true → UnitSays φ a
unfolding unit_permitted
unit-says φ a h = let o : (l : ℕ) × (clause_at φ.clauses a ≡ l ∷ []) = one-lit _ (search (and_l, and_r)) in record { lit = o.0; there = search and_l; is = o.1 }

-- its literal, where the formula is well formed
pub record TidyUnit (φ : Formula) (l : ℕ) : Type 0 where
  pub inside : mentions φ.prefix (var l) ≡ true
  pub stays : reduced φ.prefix (l ∷ []) ≡ true

pub tidy-unit : (φ : Formula) → well_formed φ ≡ true → (a : ℕ) (s : UnitSays φ a) → TidyUnit φ s.lit
unfolding bound all_of
tidy-unit φ w a s =
    let t : tidy_clause φ.prefix (s.lit ∷ []) ≡ true = rw s.is at (tidy-at φ w a s.there) in
    let i : bound φ.prefix (s.lit ∷ []) ≡ true = bound_of _ _ t in
    record { inside = search and_l; stays = reduced-of _ _ t }

pub record PureSays (φ : Formula) (a : ℕ) : Type 0 where
  pub inside : mentions φ.prefix a ≡ true
  pub one-phase : (occurs (plain a) φ.clauses && occurs (negated a) φ.clauses) ≡ false

pub pure-says : (φ : Formula) (a : ℕ) → pure_permitted φ a ≡ true → PureSays φ a
unfolding pure_permitted
pure-says φ a h = record { inside = search and_l; one-phase = search (and_l, and_r, not-true) }

pub pure-var : (cs : List (List ℕ)) (a : ℕ) → var (pure_lit cs a) ≡ a
unfolding pure_lit
pure-var cs a = go (occurs (plain a) cs)
  where
    go : (s : Bool) → var (cond s (plain a) (negated a)) ≡ a
    go true = var-of-plain a
    go false = var-of-negated a

-- a literal of its variable becomes true
either-becomes : (φ : Formula) (v : ℕ) (s : Bool) (k l : ℕ) → var k ≡ v → var l ≡ v
    → (i : ℕ) × (var i ≡ v) × (cond s (becomes_true k φ) (becomes_true l φ) ≡ becomes_true i φ)
either-becomes φ v true k l x y = (k, x, refl)
either-becomes φ v false k l x y = (l, y, refl)

pub pure-becomes : (φ : Formula) (a : ℕ) → (l : ℕ) × (var l ≡ a) × (pure_raw φ a ≡ becomes_true l φ)
unfolding pure_raw
pure-becomes φ a = either-becomes φ a (universal φ.prefix a) _ _ (simp (var-opp, pure-var)) (simp pure-var)

pub record SubsumeSays (φ : Formula) (a b : ℕ) : Type 0 where
  pub there-a : is_clause φ.clauses a ≡ true
  pub there-b : is_clause φ.clauses b ≡ true
  pub differ : eqb a b ≡ false
  pub part : part_of (clause_at φ.clauses a) (clause_at φ.clauses b) ≡ true

pub subsume-says : (φ : Formula) (a b : ℕ) → subsume_permitted φ a b ≡ true → SubsumeSays φ a b
unfolding subsume_permitted
subsume-says φ a b h = record { there-a = search and_l; there-b = search (and_l, and_r); differ = search (and_l, and_r, not-true); part = search (and_l, and_r) }

-- of the literal l that the step takes: it is in a, its opposite in b, and the rest of a is in b
pub record StrengthenSays (φ : Formula) (a b l : ℕ) : Type 0 where
  pub there-a : is_clause φ.clauses a ≡ true
  pub there-b : is_clause φ.clauses b ≡ true
  pub exists : existential φ.prefix (var l) ≡ true
  pub in-a : has l (clause_at φ.clauses a) ≡ true
  pub opp-in-b : has (opposite l) (clause_at φ.clauses b) ≡ true
  pub part : part_of (without l (clause_at φ.clauses a)) (clause_at φ.clauses b) ≡ true

pub strengthen-says : (φ : Formula) (a b : ℕ) → strengthen_permitted φ a b ≡ true → StrengthenSays φ a b (strengthen_lit φ a b)
unfolding strengthen_permitted strengthen_lit strengthens
strengthen-says φ a b h =
    let some : any_of test (clause_at φ.clauses a) ≡ true = search (and_l, and_r) in
    let p : test (strengthen_lit φ a b) ≡ true = first_passes test _ some in
    record {
      there-a = search and_l;
      there-b = search (and_l, and_r);
      exists = search and_l;
      in-a = first-in test _ some;
      opp-in-b = search (and_l, and_r);
      part = search (and_l, and_r);
    }
  where
    test : ℕ → Bool
    test = strengthens φ.prefix (clause_at φ.clauses a) (clause_at φ.clauses b)

-- 5. Equality: a and b are the clauses (k l) and (opposite k, opposite l) ------------------------------------
pub record EqualitySays (φ : Formula) (a b : ℕ) : Type 0 where
  pub k : ℕ
  pub l : ℕ
  pub there-a : is_clause φ.clauses a ≡ true
  pub there-b : is_clause φ.clauses b ≡ true
  pub is-a : clause_at φ.clauses a ≡ k ∷ l ∷ []
  pub is_b : clause_at φ.clauses b ≡ opposite k ∷ opposite l ∷ []

two-lits : (c d : List ℕ) → opposite_pair c d ≡ true → (k : ℕ) × (l : ℕ) × (c ≡ k ∷ l ∷ []) × (d ≡ opposite k ∷ opposite l ∷ [])
unfolding opposite_pair
two-lits [] d o = absurd (false≢true o)
two-lits (k ∷ []) d o = absurd (false≢true o)
two-lits (k ∷ l ∷ []) d o = (k, l, refl, same-path d (opposite k ∷ opposite l ∷ []) o)
two-lits (k ∷ l ∷ m ∷ c) d o = absurd (false≢true o)

pub equality-says : (φ : Formula) (a b : ℕ) → equality_permitted φ a b ≡ true → EqualitySays φ a b
unfolding equality_permitted is_clause
equality-says φ a b h =
    let x : a < b = ltb-true a b (search and_l) in
    let y : b < length φ.clauses = ltb-true b _ (search (and_l, and_r)) in
    let z : (k : ℕ) × (l : ℕ) × (clause_at φ.clauses a ≡ k ∷ l ∷ []) × (clause_at φ.clauses b ≡ opposite k ∷ opposite l ∷ []) = two-lits _ _ (search (and_l, and_r)) in
    record { k = z.0; l = z.1; there-a = lt-ltb a _ (omega arith); there-b = lt-ltb b _ y; is-a = z.2; is_b = z.3 }

-- two literals that are a clause of a well formed formula
pub record TidyPair (φ : Formula) (k l : ℕ) : Type 0 where
  pub in-k : mentions φ.prefix (var k) ≡ true
  pub in-l : mentions φ.prefix (var l) ≡ true
  pub below : var k < var l
  pub stays : reduced φ.prefix (k ∷ l ∷ []) ≡ true

pub tidy-pair : (φ : Formula) → well_formed φ ≡ true → (a b : ℕ) (s : EqualitySays φ a b) → TidyPair φ s.k s.l
unfolding bound ascends all_of
tidy-pair φ w a b s =
    let t : tidy_clause φ.prefix (s.k ∷ s.l ∷ []) ≡ true = rw s.is-a at (tidy-at φ w a s.there-a) in
    let i : bound φ.prefix (s.k ∷ s.l ∷ []) ≡ true = bound_of _ _ t in
    let u : ascends (s.k ∷ s.l ∷ []) ≡ true = ascends-of _ _ t in
    record { in-k = search and_l; in-l = search (and_l, and_r); below = ltb-true _ _ (search (and_l, and_r)); stays = reduced-of _ _ t }

-- one literal is replaced by another, of another variable
pub record Replaces (φ r : Formula) : Type 0 where
  pub old : ℕ
  pub new : ℕ
  pub is : r ≡ replaced old new φ
  pub old-in : mentions φ.prefix (var old) ≡ true
  pub new_in : mentions φ.prefix (var new) ≡ true
  pub apart : eqb (var old) (var new) ≡ false

pub equality-replaces : (φ : Formula) → well_formed φ ≡ true → (a b : ℕ) → equality_permitted φ a b ≡ true → Replaces φ (equality_raw φ a)
unfolding equality_raw equality_of
equality-replaces φ w a b h = rw s.is-a (go (mentions (right_of (var s.k) φ.prefix) (var s.l)))
  where
    s : EqualitySays φ a b
    s = equality-says φ a b h

    t : TidyPair φ s.k s.l
    t = tidy-pair φ w a b s

    apart : eqb (var s.k) (var s.l) ≡ false
    apart = eqb-ne _ (var s.l) (λ e. omega (arith, t.below))

    go : (x : Bool) → Replaces φ (cond x (replaced s.l (opposite s.k) φ) (replaced s.k (opposite s.l) φ))
    go true = record { old = s.l; new = opposite s.k; is = refl; old-in = t.in-l; new_in = rw var-opp t.in-k; apart = rw (var-opp, eqb-sym) apart }
    go false = record { old = s.k; new = opposite s.l; is = refl; old-in = t.in-k; new_in = rw var-opp t.in-l; apart = rw var-opp apart }

-- 6 and 7 ----------------------------------------------------------------------------------------------------
pub record ResolveSays (φ : Formula) (a : ℕ) : Type 0 where
  pub exists : existential φ.prefix a ≡ true
  pub near-plain : near_side φ (plain a) ≡ true
  pub near-negated : near_side φ (negated a) ≡ true

pub resolve-says : (φ : Formula) (a : ℕ) → resolve_permitted φ a ≡ true → ResolveSays φ a
unfolding resolve_permitted
resolve-says φ a h = record { exists = search and_l; near-plain = search (and_l, and_r); near-negated = search (and_l, and_r) }

pub record ExpandSays (φ : Formula) (a : ℕ) : Type 0 where
  pub forall : universal φ.prefix a ≡ true
  pub first : universals_first (right_of a φ.prefix) ≡ true

pub expand-says : (φ : Formula) (a : ℕ) → expand_permitted φ a ≡ true → ExpandSays φ a
unfolding expand_permitted
expand-says φ a h = record { forall = search and_l; first = search (and_l, and_r) }

-- Steps that count in a run, and steps that fail only for room -------------------------------------------------
pub allowed-wanted : (E : ℕ) (φ : Formula) (k : Kind) (a b : ℕ) → allowed_call E φ k a b ≡ true → wanted E φ k a b ≡ true
unfolding allowed_call
allowed-wanted E φ k a b h = search and_l

pub wanted-permitted : (E : ℕ) (φ : Formula) (k : Kind) (a b : ℕ) → wanted E φ k a b ≡ true → permitted φ k a b ≡ true
unfolding wanted
wanted-permitted E φ k a b h = search and_l

pub blocked-wanted : (E : ℕ) (φ : Formula) (k : Kind) (a b : ℕ) → blocked_call E φ k a b ≡ true → wanted E φ k a b ≡ true
unfolding blocked_call
blocked-wanted E φ k a b h = search and_l

pub blocked-full : (E : ℕ) (φ : Formula) (k : Kind) (a b : ℕ) → blocked_call E φ k a b ≡ true → fits (result_of φ k a b) ≡ false
unfolding blocked_call
blocked-full E φ k a b h = search (and_l, and_r, not-true)

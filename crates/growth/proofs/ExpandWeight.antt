-- The weight of the result of step 7 is the sum, where no clause is a part of another.
-- Assumes nothing.
use mathlib.Core.Path.{◌≡◌, refl, sym, ◌∙◌, ap}
use Prim.Native.Nat.{ℕ, suc, ◌+◌, ◌-◌, ◌<◌}
use mathlib.Core.Bool.{Bool, true, false, ◌&&◌, ◌||◌, not}
use mathlib.Core.List.{List, [], ◌∷◌, ◌++◌, map}
use native.Mathlib.Omega.{arith}
use lib.ListN.{length, get_or, take, drop}
use lib.Dec.{ltb, leb}
use borrow.Author.Tests.{lt-ltb, ltb-true, le-leb, leb-true, ne_eqb}
use Rattle.meaning.specs.Lists.{all_of, any_of, part_of}
use Rattle.meaning.specs.Formula.{Formula, odd, plain, negated, is_var, mentions}
use Rattle.meaning.specs.WellFormed.{ascends, bound, reduced, tidy_clause, well_formed, literals, fits, weight}
use Rattle.meaning.specs.Tidy.{build, tidied}
use Rattle.rules.specs.Simplify.{assign, subsume_permitted, clause_at, is_clause}
use Rattle.rules.specs.Eliminate.{expand_permitted, inner, fresh, rename_lit, touching, others, expand_with, expand_raw}
use Rattle.rules.specs.Entry.{expand}
use Rattle.rules.specs.Step.{permitted, raw_of, result_of}
use Rattle.table.specs.Table.{Holds, counts_of}
use Rattle.table.specs.declared.Counts.{Counts}
use Rattle.permits.specs.Variables.{existentials}
use Rattle.permits.specs.Places.{place_of}
use Rattle.meaning.proofs.Basics.{clash, false_of, and_i, iff}
use Rattle.meaning.proofs.Lists.{any-keep-le, all-all, all-le}
use Rattle.meaning.proofs.Parts.{good_of, tidy_of, ascends-of, room_of}
use Rattle.meaning.proofs.Prefix.{forall-mentioned}
use Rattle.rules.proofs.Permitted.{expand-says}
use Rattle.rules.proofs.Place.{Place, forall-place}
use Rattle.rules.proofs.Expand.{copies-ok, with-u, fs-out}
use Rattle.rules.proofs.Raws.{RawOk, expand-ok}
use Rattle.table.proofs.HoldLaws.{count-variables, prefix-is}
use Rattle.growth.specs.Weights.{weighed, weighed_step, NoneSubsumed}
use Rattle.growth.specs.Expanding.{expanded_clauses, expanded_literals, expanded_size, weight_of, counts_fit, weighed_counts}
use Rattle.growth.specs.declared.Weighed.{Weighed}
use Rattle.growth.specs.declared.Weighed.TheVariants.{Over}
use Rattle.growth.specs.declared.Size.{Size}
use Rattle.growth.proofs.ExpandLists.{no_two, alike, each_once}
use Rattle.growth.proofs.ExpandBuild.{whole, whole-clauses, whole-literals}
use Rattle.growth.proofs.ExpandClauses.{Expands, new_prefix}
use Rattle.growth.proofs.ExpandParts.{nested, sound-all, apart-all}
use Rattle.growth.proofs.ExpandSums.{raw-clauses, raw-literals}
use Rattle.growth.proofs.ExpandPlaces.{clauses-by, literals-by, inner-count}
use Rattle.growth.proofs.ExpandRoom.{new-length, new-fits}

-- No clause is a part of another --------------------------------------------------------------------------------------
none-at : (f : List ℕ → Bool) (cs : List (List ℕ)) → ((j : ℕ) → j < length cs → f (get_or cs j []) ≡ false) → any_of f cs ≡ false
unfolding any_of
none-at f [] h = refl
none-at f (c ∷ cs) h = rw (h 0 (omega arith), none-at f cs (λ j k. h (suc j) (omega arith)))

abbrev Unnested : List (List ℕ) → Type 0
Unnested cs = (i j : ℕ) → i < length cs → j < length cs → (i ≡ j → ⊥) → part_of (get_or cs i []) (get_or cs j []) ≡ false

unnested : (cs : List (List ℕ)) → Unnested cs → no_two nested cs ≡ true
unfolding no_two nested
unnested [] h = refl
unnested (c ∷ cs) h =
    and_i _ _
    (ap not (none-at (λ d. part_of c d || part_of d c) cs (λ j k.
    rw (h 0 (suc j) (omega arith) (omega arith) (λ e. omega arith), h (suc j) 0 (omega arith) (omega arith) (λ e. omega arith)))))
    (unnested cs (λ i j k l d. h (suc i) (suc j) (omega arith) (omega arith) (λ e. d (omega arith))))

none-part : (φ : Formula) → NoneSubsumed φ → Unnested φ.clauses
unfolding subsume_permitted clause_at is_clause
none-part φ none i j k l d = rw (lt-ltb i (length φ.clauses) k, lt-ltb j (length φ.clauses) l, ne_eqb i j d) at (none i j)

-- a prefix with a variable is not empty
mentions-some : (p : List ℕ) (v : ℕ) → mentions p v ≡ true → 0 < length p
unfolding mentions any_of
mentions-some [] v m = clash m refl
mentions-some (q ∷ p) v m = omega arith

-- the counts of the result, by what its clauses come to: of v variables one is dropped, and k copies are added
abbrev pub expanded_counts : ℕ → ℕ → Size → Bool → Counts
expanded_counts v k s second = record { variables = v - 1 + k; clauses = s.clauses; literals = s.literals; second = second }

-- The step ---------------------------------------------------------------------------------------------------------------
module _ (φ : Formula) (w : well_formed φ ≡ true) (a : ℕ) (ok : expand_permitted φ a ≡ true) where
  abbrev p : List ℕ
  p = φ.prefix

  abbrev es : List ℕ
  es = inner a p

  abbrev fs : List ℕ
  fs = fresh p (length es)

  expands : Expands p a es fs
  unfolding inner
  expands =
      let k : (at : Place φ.prefix a) × (odd at.entry ≡ true) = forall-place φ w a (expand-says φ a ok).forall in
      let at = k.0 in
      rw at.behind (record {
        good = good_of φ w;
        forall = (expand-says φ a ok).forall;
        apart = unfold mentions in false_of _ (λ h. clash (any-keep-le (is_var a) _ _ h) (unfold mentions in at.right-out));
        copies = copies-ok φ w a at k.1;
        new = fs-out φ w a at k.1;
        touched = with-u φ w a at k.1;
      })

  -- the raw clauses, the new prefix and the result
  abbrev raws : List (List ℕ)
  raws =
      others es φ.clauses
      ++ (assign (negated a) (touching es φ.clauses) ++ map (map (rename_lit es fs)) (assign (plain a) (touching es φ.clauses)))

  abbrev q : List ℕ
  q = new_prefix p a es fs expands

  abbrev ψ : Formula
  ψ = record { prefix = q; clauses = build q raws }

  result-is : result_of φ expand a 0 ≡ ψ
  unfolding result_of raw_of tidied expand_raw expand_with
  result-is = refl

  raw-ok : RawOk (record { prefix = q; clauses = raws })
  raw-ok = unfold expand_raw expand_with in expand-ok φ w a ok

  ascend-all : all_of ascends φ.clauses ≡ true
  ascend-all = all-le (tidy_clause p) ascends φ.clauses (ascends-of p) (tidy_of φ w)

  raws-whole : all_of (whole q) raws ≡ true
  unfolding whole
  raws-whole = all-all (bound q) (λ c. each_once c && reduced q c) raws raw-ok.1 (sound-all p a es fs expands φ.clauses (tidy_of φ w))

  inside : mentions p a ≡ true
  inside = forall-mentioned p a (expand-says φ a ok).forall

  abbrev size : Size
  size = expanded_size p (place_of p a) a φ.clauses

  module _ (none : NoneSubsumed φ) where
    raws-apart : no_two alike raws ≡ true
    raws-apart = apart-all p a es fs expands φ.clauses (tidy_of φ w) (unnested φ.clauses (none-part φ none))

    clauses-are : length (build q raws) ≡ expanded_clauses p (place_of p a) a φ.clauses
    clauses-are =
        whole-clauses q raw-ok.0 raws raws-whole raws-apart
        ∙ (raw-clauses a es (rename_lit es fs) φ.clauses ascend-all ∙ sym (clauses-by p a (good_of φ w) inside φ.clauses))

    literals-are : literals (build q raws) ≡ expanded_literals p (place_of p a) a φ.clauses
    literals-are =
        whole-literals q raw-ok.0 raws raws-whole raws-apart
        ∙ (raw-literals a es (rename_lit es fs) φ.clauses ascend-all ∙ sym (literals-by p a (good_of φ w) inside φ.clauses))

    pub counts-are : (second : Bool) → expanded_counts (length p) (length es) size second ≡ counts_of (result_of φ expand a 0) second
    unfolding counts_of expanded_size
    counts-are second =
        let v = sym (new-length p a es (length es) expands) in
        let x = sym clauses-are in
        let y = sym literals-are in
        rw result-is (λ i. record { variables = v i; clauses = x i; literals = y i; second = second })

  -- one fewer than the old prefix and the copies
  fewer : ltb (length q) 1023 ≡ leb (length p + length es) 1023
  fewer =
      let s = mentions-some p a inside in
      iff (ltb (length q) 1023) (leb (length p + length es) 1023)
      (λ h. let k = ltb-true (length q) 1023 h in le-leb (length p + length es) 1023 (omega (arith, new-length p a es (length es) expands)))
      (λ h. let k = leb-true (length p + length es) 1023 h in lt-ltb (length q) 1023 (omega (arith, new-length p a es (length es) expands)))

  fits-is : fits φ ≡ true → (second : Bool) → fits ψ ≡ counts_fit (counts_of ψ second)
  unfolding fits counts_fit counts_of
  fits-is f second = rw (new-fits p a es (length es) expands raw-ok.0 (room_of φ (unfold fits in f)).numbers, fewer)

  weight_is : (second : Bool) → weight_of (counts_of ψ second) ≡ weight ψ
  unfolding weight_of weight counts_of
  weight_is second = refl

  pub weighed-is : (below : ℕ) → fits φ ≡ true → (d : Counts) → d ≡ counts_of (result_of φ expand a 0) d.second
      → weighed_counts below d ≡ weighed below (result_of φ expand a 0)
  unfolding weighed weighed_counts
  weighed-is below f d is =
      let e : d ≡ counts_of ψ d.second = is ∙ ap (λ (χ : Formula). counts_of χ d.second) result-is in
      let w : weight_of d ≡ weight ψ = ap weight_of e ∙ weight_is d.second in
      let g : counts_fit d ≡ fits ψ = ap counts_fit e ∙ sym (fits-is f d.second) in
      rw (result-is, w, g)

-- From a table that holds the formula -------------------------------------------------------------------------------------
module _ {φ : Formula} {t : List ℕ} {c : Counts} (h : Holds φ t c) (w : well_formed φ ≡ true) (a : ℕ) where
  -- n is the place of a, k counts the existentials behind it, s is the size of the clauses
  pub counts-held : (ok : expand_permitted φ a ≡ true) (none : NoneSubsumed φ) (n k : ℕ) (s : Size) → n ≡ place_of φ.prefix a
      → k ≡ existentials (drop n (take c.variables t))
      → s ≡ expanded_size φ.prefix n a φ.clauses
      → (second : Bool) → expanded_counts c.variables k s second ≡ counts_of (result_of φ expand a 0) second
  counts-held ok none n k s at count sized second =
      let m = inside φ w a ok in
      let e : k ≡ length (inner a φ.prefix) =
      count ∙ (ap (λ (q : List ℕ). existentials (drop n q)) (prefix-is h)
      ∙ (ap (λ (i : ℕ). existentials (drop i φ.prefix)) at ∙ inner-count φ.prefix a (good_of φ w) m)) in
      let z : s ≡ expanded_size φ.prefix (place_of φ.prefix a) a φ.clauses =
      sized ∙ ap (λ (i : ℕ). expanded_size φ.prefix i a φ.clauses) at in
      rw (e, z, count-variables h) (counts-are φ w a ok none second)

  module _ (below : ℕ) (b : Bool) (said : b ≡ expand_permitted φ a) where
    pub step-not : b ≡ false → Over ≡ weighed_step below φ expand a
    unfolding weighed_step permitted
    step-not e = rw (← said, e)

    pub step_is : b ≡ true → (d : Counts) → d ≡ counts_of (result_of φ expand a 0) d.second → (r : Weighed) → r ≡ weighed_counts below d
        → r ≡ weighed_step below φ expand a
    unfolding weighed_step permitted
    step_is e d is r q = rw (← said, e) (q ∙ weighed-is φ w a (sym said ∙ e) below h.fitting d is)

  -- without a variable there is none to expand
  pub step-none : (below : ℕ) → c.variables ≡ 0 → Over ≡ weighed_step below φ expand a
  step-none below e =
      step-not below false
      (sym (false_of (expand_permitted φ a) (λ ok.
      let m = mentions-some φ.prefix a (inside φ w a ok) in absurd (omega (arith, count-variables h)))))
      refl

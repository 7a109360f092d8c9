-- Clauses that a step leaves as they were: what becomes of one is the clause, and it equals none before it.
-- Assumes nothing.
use Prim.Native.Nat.{ℕ, suc, ◌+◌, ◌<◌}
use mathlib.Core.Path.{◌≡◌, refl, sym, ap, ◌∙◌}
use mathlib.Core.Bool.{true, false, ◌&&◌, not}
use mathlib.Core.List.{List, [], ◌∷◌, ◌++◌}
use lib.Dec.{eqb}
use lib.ListN.{length, get_or, take, drop, take-append-drop}
use lib.Seq.{drop-cons, take-suc}
use native.Mathlib.Numerals.{add-one}
use native.Mathlib.Omega.{arith}
use Rattle.meaning.specs.Lists.{all_of, any_of, keep_if, same}
use Rattle.meaning.specs.Formula.{Formula, var, opposite, is_var, mentions, drop_var}
use Rattle.meaning.specs.Tidy.{kept, tidy}
use Rattle.meaning.specs.WellFormed.{tidy_clause, distinct, fits}
use Rattle.table.specs.Table.{decode, Holds}
use Rattle.table.specs.Pending.{in_range}
use Rattle.table.specs.declared.Counts.{Counts}
use Rattle.filter.specs.Filter.{CoversBut}
use Rattle.recipes.specs.Recipe.{turned, some_of, fed}
use Rattle.recipes.specs.Left.{about, left, Lasts, Shrunk}
use Rattle.recipes.specs.declared.Turn.{Turn}
use Rattle.recipes.specs.declared.Turn.TheVariants.{Same, Drop, DropAt, Replace, Copy}
use Rattle.meaning.proofs.Basics.{clash, and_l, and_r, not-true}
use Rattle.meaning.proofs.Lists.{all-all, any_none, keep_all}
use Rattle.meaning.proofs.Literals.{var-opp}
use Rattle.meaning.proofs.Parts.{tidy_of, distinct_of, ascends-of, reduced-of}
use Rattle.meaning.proofs.Again.{tidy-stays, distinct-new}
use Rattle.meaning.proofs.TidyPrefix.{reduced-drop, reduced-more}
use Rattle.table.proofs.LoopLaws.{all_get_d}
use Rattle.table.proofs.HoldLaws.{count-clauses}
use Rattle.table.proofs.DecodeLaws.{holds-decoded}
use Rattle.recipes.proofs.RecipeLaws.{less_other, replace-other}
use Rattle.recipes.proofs.FedLaws.{in-range, map_same, fed-keep}
use Rattle.rebuilds.proofs.RawLaws.{shrunk-as}

-- One literal -----------------------------------------------------------------------------------------------------
-- a literal of another variable than v is none of v's
other-literal : (v k l : ℕ) → is_var v k ≡ false → eqb (var l) v ≡ true → k ≡ l → ⊥
unfolding is_var
other-literal v k l n a e = clash a (ap (λ (x : ℕ). eqb (var x) v) (sym e) ∙ n)

turned_left : (t : Turn) (v : ℕ) (q : List ℕ) (i : ℕ) (c : List ℕ) → about t v ≡ true → left t v i c ≡ true → (k : ℕ) → is_var v k ≡ false → turned t q i k ≡ k
unfolding turned about left
turned_left Same v q i c a e k n = refl
turned_left (Drop l) v q i c a e k n = sym (less_other l k (other-literal v k l n a))
turned_left (DropAt b l) v q i c a e k n = rw (not-true (eqb i b) (and_l (not (eqb i b)) (not (mentions c v)) e))
turned_left (Replace l m) v q i c a e k n =
    sym (replace-other l m k (opposite l) (other-literal v k l n a) refl (other-literal v k (opposite l) n (ap (λ (w : ℕ). eqb w v) (var-opp l) ∙ a)))
turned_left (Copy l s m) v q i c a e k n = clash e refl

-- One clause ------------------------------------------------------------------------------------------------------
left-lacks : (t : Turn) (v i : ℕ) (c : List ℕ) → left t v i c ≡ true → mentions c v ≡ false
unfolding left
left-lacks Same v i c e = not-true (mentions c v) e
left-lacks (Drop l) v i c e = not-true (mentions c v) e
left-lacks (DropAt b l) v i c e = not-true (mentions c v) (and_r (not (eqb i b)) (not (mentions c v)) e)
left-lacks (Replace l m) v i c e = not-true (mentions c v) e
left-lacks (Copy l s m) v i c e = clash e refl

fed-left : (t : Turn) (v : ℕ) (q : List ℕ) (i : ℕ) (c : List ℕ) → about t v ≡ true → left t v i c ≡ true → all_of in_range c ≡ true → fed t q i c ≡ c
unfolding mentions some_of
fed-left t v q i c a e r =
    fed-keep t q i (λ k. in_range k && not (is_var v k)) in_range (λ k. k) c
    (all-all in_range (λ k. not (is_var v k)) c r (any_none (is_var v) c (left-lacks t v i c e)))
    (λ k h. rw (turned_left t v q i c a e k (not-true (is_var v k) (and_r (in_range k) (not (is_var v k)) h))))
    ∙ map_same (λ k. k) (λ x. refl) (keep_if in_range c)
    ∙ keep_all in_range c r

-- a tidy clause without v is tidy over the new prefix
tidy-left : (v : ℕ) (q : List ℕ) (φ : Formula) → Shrunk v q φ → (c : List ℕ) → tidy_clause φ.prefix c ≡ true → mentions c v ≡ false → tidy q c ≡ kept c
tidy-left v q φ s c t out =
    rw s.prefix
    (tidy-stays (drop_var v φ.prefix ++ s.more) c (ascends-of φ.prefix c t)
    (reduced-more (drop_var v φ.prefix) s.more s.exist c (reduced-drop v φ.prefix c out ∙ reduced-of φ.prefix c t)))

-- Clause i of a formula ---------------------------------------------------------------------------------------------
distinct-before : (cs : List (List ℕ)) (i : ℕ) → distinct cs ≡ true → i < length cs → any_of (same (get_or cs i [])) (take i cs) ≡ false
distinct-before cs i d h =
    distinct-new (take i cs) (get_or cs i []) (drop (suc i) cs) (ap (λ (x : List (List ℕ)). distinct (take i cs ++ x)) (sym (drop-cons cs i [] h)) ∙ ap distinct (take-append-drop i cs) ∙ d)

pub lasts-at : {t : Turn} {v : ℕ} {q : List ℕ} {φ : Formula} → Shrunk v q φ → about t v ≡ true → fits φ ≡ true → (i : ℕ) → i < length φ.clauses
    → (c : List ℕ) → c ≡ get_or φ.clauses i [] → Lasts t v q (take i φ.clauses) i c
lasts-at {t} {v} {q} {φ} s a f i h c is =
    rw is
    (record {
      apart = distinct-before φ.clauses i (distinct_of φ s.well) h;
      stays = λ e.
          rw (fed-left t v q i (get_or φ.clauses i []) a e (all_get_d (all_of in_range) [] φ.clauses i (in-range φ s.well f) h))
          (tidy-left v q φ s (get_or φ.clauses i []) (all_get_d (tidy_clause φ.prefix) [] φ.clauses i (tidy_of φ s.well) h) (left-lacks t v i (get_or φ.clauses i []) e));
    })

-- In the loop: x is read as clause i of the source ------------------------------------------------------------------------
module _ {φ : Formula} {source : List ℕ} {c : Counts} (h : Holds φ source c) (i : ℕ) (few : i < c.clauses) (x : List ℕ)
    (read : (χ : Formula) → Holds χ source c → x ≡ get_or χ.clauses i []) where
  abbrev cs : List (List ℕ)
  cs = (decode source c).clauses

  within : i < length cs
  within = omega (arith, few, count-clauses (holds-decoded h))

  pub lasting : {t : Turn} {v : ℕ} {ψ : Formula} {target : List ℕ} {d : Counts} → Holds ψ target d → Shrunk v (take d.variables target) (decode source c) → about t v ≡ true
      → (p : List ℕ) → p ≡ ψ.prefix → Lasts t v p (take i cs) i x
  lasting {t} {v} {ψ} {target} {d} k s a p e =
      lasts-at (shrunk-as k s p e) a (holds-decoded h).fitting i within x (read (decode source c) (holds-decoded h))

  -- it is one of the others from now on
  pub next-taken : take i cs ++ (x ∷ []) ≡ take (i + 1) cs
  next-taken = rw (add-one, take-suc cs i [] within, ← read (decode source c) (holds-decoded h))

  pub covers-next : {target filter : List ℕ} {d : Counts} → CoversBut (take i cs ++ (x ∷ [])) target d filter → CoversBut (take (i + 1) cs) target d filter
  covers-next {target} {filter} {d} k = rw next-taken at k

-- From what a rebuild makes to the result of the step, for the kinds that are recipes.
-- Assumes nothing.
use Prim.Native.Nat.{ℕ, ◌/◌}
use mathlib.Core.Path.{◌≡◌, refl, sym, ap, ◌∙◌}
use mathlib.Core.Bool.{Bool, true, ◌&&◌}
use mathlib.Core.List.{List, [], ◌∷◌}
use lib.ListN.{get_or}
use lib.Dec.{ltb}
use native.Mathlib.Omega.{arith}
use Rattle.meaning.specs.Lists.{all_of}
use Rattle.meaning.specs.Formula.{Formula, var, opposite, mentions, right_of}
use Rattle.meaning.specs.Tidy.{tidied}
use Rattle.rules.specs.Simplify.{clause_at, is_clause, becomes_true, unit_raw, strengthen_lit, opposite_pair, equality_permitted}
use Rattle.rules.specs.Entry.{unit, pure, subsume, strengthen, equality}
use Rattle.rules.specs.Step.{permitted, raw_of, result_of}
use Rattle.table.specs.Answer.{Built}
use Rattle.table.specs.Pending.{in_range}
use Rattle.table.specs.declared.Counts.{Counts}
use Rattle.std.specs.Prelude.{Option, Some, None}
use Rattle.permits.specs.Choices.{pure_true, strengthening_of, replacing, replacement_of}
use Rattle.permits.specs.declared.Replacement.{Replacement}
use Rattle.recipes.specs.Recipe.{remade}
use Rattle.rebuilds.specs.Given.{Given}
use Rattle.recipes.specs.declared.Which.TheVariants.{All, But, Without}
use Rattle.recipes.specs.declared.Turn.TheVariants.{Same, Drop, DropAt, Replace}
use Rattle.permits.proofs.PureLaws.{pure-raw}
use Rattle.permits.proofs.EqualLaws.{equality-raw}
use Rattle.meaning.proofs.Basics.{by_cases, clash, and_l, and_r}
use Rattle.recipes.proofs.FedLaws.{in-range}
use Rattle.recipes.proofs.TurnLaws.{range-opposite}
use Rattle.steps.proofs.KindLaws.{range_at, remade-true, remade-but, remade-strip, remade-replace}

-- what replaces a literal is one
pair-range : (x d : List ℕ) → opposite_pair x d ≡ true → all_of in_range x ≡ true → (in_range (get_or x 0 0) ≡ true) × (in_range (get_or x 1 0) ≡ true)
unfolding opposite_pair all_of
pair-range [] d h a = clash h refl
pair-range (k ∷ []) d h a = clash h refl
pair-range (k ∷ l ∷ []) d h a =
    (and_l (in_range k) (in_range l && true) a, and_l (in_range l) true (and_r (in_range k) (in_range l && true) a))
pair-range (k ∷ l ∷ m ∷ c) d h a = clash h refl

new-range : (φ : Formula) (a b : ℕ) → all_of (all_of in_range) φ.clauses ≡ true → equality_permitted φ a b ≡ true → in_range (replacement_of φ a).new ≡ true
unfolding equality_permitted replacement_of replacing
new-range φ a b r p =
    let x = clause_at φ.clauses a in
    let d = clause_at φ.clauses b in
    let y = pair-range x d (and_r (is_clause φ.clauses b) (opposite_pair x d) (and_r (ltb a b) (is_clause φ.clauses b && opposite_pair x d) p)) (range_at φ.clauses a r) in
    by_cases (mentions (right_of (var (get_or x 0 0)) φ.prefix) (var (get_or x 1 0)))
    (λ e. rw e (range-opposite (get_or x 0 0) y.0))
    (λ e. rw e (range-opposite (get_or x 1 0) y.1))

-- The results --------------------------------------------------------------------------------------------------------
module _ {φ : Formula} {source : List ℕ} {c : Counts} {ranks : List ℕ} (g : Given φ source c ranks) {s : Bool} {r : Option Counts} {t : List ℕ} where
  pub assigned : (l v o : ℕ) → v ≡ l / 2 → o ≡ opposite l → Built (tidied (remade (Without l) (Drop o) v φ)) s r t → Built (tidied (becomes_true l φ)) s r t
  unfolding var
  assigned l v o d e k = rw (d, remade-true φ l o g.well g.holds.fitting e) at k

  pub unit-made : (a l : ℕ) → l ≡ get_or (clause_at φ.clauses a) 0 0 → Built (tidied (becomes_true l φ)) s r t → Built (result_of φ unit a 0) s r t
  unfolding result_of raw_of unit_raw
  unit-made a l e k = rw e at k

  pub pure-made : (a l : ℕ) → l ≡ pure_true φ a → Built (tidied (becomes_true l φ)) s r t → Built (result_of φ pure a 0) s r t
  unfolding result_of raw_of
  pure-made a l e k = rw (pure-raw φ a) (rw e at k)

  pub subsume-made : (a b : ℕ) → Built (tidied (remade (But b) Same 0 φ)) s r t → Built (result_of φ subsume a b) s r t
  unfolding result_of raw_of
  subsume-made a b k = rw (remade-but φ b g.well g.holds.fitting) at k

  pub equality-made : (a b : ℕ) → permitted φ equality a b ≡ true → (x : Replacement) → x ≡ replacement_of φ a → (v : ℕ) → v ≡ x.old / 2 → Built (tidied (remade All (Replace x.old x.new) v φ)) s r t → Built (result_of φ equality a b) s r t
  unfolding result_of raw_of permitted var
  equality-made a b p x e v d k =
      rw (equality-raw φ a)
      (rw (d, e, remade-replace φ (replacement_of φ a).old (replacement_of φ a).new g.well g.holds.fitting (new-range φ a b (in-range φ g.well g.holds.fitting) p)) at k)

-- where strengthening is permitted there is a literal
module _ (φ : Formula) (a b : ℕ) (p : permitted φ strengthen a b ≡ true) (y : Option ℕ) (is : y ≡ strengthening_of φ a b) where
  by-is : y ≡ Some (strengthen_lit φ a b)
  unfolding strengthening_of permitted
  by-is = is ∙ rw p

  pub strengthen-made : {source : List ℕ} {c : Counts} {ranks : List ℕ} → Given φ source c ranks → {s : Bool} {r : Option Counts} {t : List ℕ} (l o : ℕ) → y ≡ Some l → o ≡ opposite l → Built (tidied (remade All (DropAt b o) 0 φ)) s r t → Built (result_of φ strengthen a b) s r t
  unfolding result_of raw_of
  strengthen-made {source} {c} {ranks} g {s} {r} {t} l o e d k =
      let q : Some l ≡ Some (strengthen_lit φ a b) = sym e ∙ by-is in
      let m : l ≡ strengthen_lit φ a b = cc in
      rw (remade-strip φ a b o g.well g.holds.fitting (d ∙ ap opposite m)) at k

  pub strengthen-never : {A : Type 0} → y ≡ None → A
  strengthen-never {A} e =
      let q : None ≡ Some (strengthen_lit φ a b) = sym e ∙ by-is in
      let z : ◌≡◌ {A = ℕ} 0 1 = cc in absurd (omega arith)

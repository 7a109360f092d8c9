-- From the clauses without the variable and the resolvents to the result of resolving.
-- Assumes nothing.
use Prim.Native.Nat.{ℕ, ◌+◌, ◌*◌, ◌≤◌, ◌<◌}
use mathlib.Core.Path.{◌≡◌, refl, sym, ap, ◌∙◌}
use mathlib.Core.Bool.{Bool, true, not}
use mathlib.Core.List.{List, [], ◌++◌}
use Rattle.meaning.specs.Lists.{all_of, keep_if}
use Rattle.meaning.specs.Formula.{Formula, plain, negated, mentions, drop_var}
use Rattle.meaning.specs.Tidy.{build, tidied}
use Rattle.meaning.specs.WellFormed.{well_formed, fits}
use Rattle.rules.specs.Eliminate.{with_lit, without_var, resolvents, resolve_raw}
use Rattle.rules.specs.Entry.{resolve}
use Rattle.rules.specs.Step.{permitted, raw_of, result_of}
use Rattle.table.specs.Table.{decode}
use Rattle.table.specs.Answer.{Built}
use Rattle.table.specs.Pending.{in_range}
use Rattle.table.specs.declared.Counts.{Counts}
use Rattle.std.specs.Prelude.{Option, Some, None}
use Rattle.rebuilds.specs.Raws.{with_raws}
use Rattle.recipes.specs.Recipe.{taken, raws_by, remade}
use Rattle.resolving.specs.Pairs.{each_of, of_clause, Phases}
use Rattle.rebuilds.specs.Given.{Given}
use Rattle.recipes.specs.declared.Which.TheVariants.{Free}
use Rattle.recipes.specs.declared.Turn.TheVariants.{Same}
use Rattle.permits.proofs.PlaceLaws.{entries-of}
use Rattle.permits.proofs.SideLaws.{resolve-large}
use native.Mathlib.Omega.{arith}
use Rattle.meaning.proofs.Basics.{clash}
use Rattle.meaning.proofs.Literals.{opp-negated}
use Rattle.table.proofs.DecodeLaws.{decode-holds}
use Rattle.rebuilds.proofs.BuildLaws.{raws-append, raws-not, built-not, built-full, built-second}
use Rattle.recipes.proofs.FedLaws.{in-range, map_same, raws-keep}
use Rattle.recipes.proofs.TurnLaws.{fed-same}
use Rattle.recipes.proofs.FreeLaws.{free-is}
use Rattle.resolving.proofs.PairLaws.{resolvents-are}

free-raws : (a : ℕ) (q : List ℕ) (cs : List (List ℕ)) → all_of (all_of in_range) cs ≡ true → raws_by (Free (plain a)) Same q 0 cs ≡ without_var a cs
unfolding taken without_var
free-raws a q cs r =
    raws-keep (Free (plain a)) Same q (all_of in_range) (λ c. not (mentions c a)) (λ c. c) 0 cs r (λ n c g. free-is a c) (λ n c g. fed-same q n c g)
    ∙ map_same (λ c. c) (λ x. refl) (keep_if (λ c. not (mentions c a)) cs)

tidied-append : (p : List ℕ) (xs ys : List (List ℕ)) → with_raws (tidied (record { prefix = p; clauses = xs })) ys ≡ tidied (record { prefix = p; clauses = xs ++ ys })
unfolding tidied build with_raws
tidied-append p xs ys = sym (raws-append (record { prefix = p; clauses = [] }) xs ys)

pub resolve-well : {φ : Formula} {source : List ℕ} {c : Counts} {ranks : List ℕ} → Given φ source c ranks → well_formed (decode source c) ≡ true
resolve-well {φ} {source} {c} {ranks} g = rw (decode-holds φ source c g.holds) g.well

pub phases-of : (v : ℕ) → v ≤ 1023 → Phases (2 * v) (2 * v + 1)
phases-of v h = record { low = omega arith; next = refl; back = unfold plain negated in opp-negated v }

module _ {φ : Formula} {source : List ℕ} {c : Counts} {ranks : List ℕ} (g : Given φ source c ranks) (a : ℕ) where
  whole : with_raws (tidied (remade (Free (2 * a)) Same a φ)) (each_of (of_clause (2 * a) (2 * a + 1) φ.clauses) φ.clauses) ≡ result_of φ resolve a 0
  unfolding result_of raw_of resolve_raw remade tidied plain negated
  whole =
      let r = in-range φ g.well g.holds.fitting in
      let q = drop_var a φ.prefix in
      ap (λ (ys : List (List ℕ)). with_raws (tidied (record { prefix = q; clauses = raws_by (Free (2 * a)) Same q 0 φ.clauses })) ys) (resolvents-are a φ.clauses φ.clauses)
      ∙ ap (λ (xs : List (List ℕ)). with_raws (tidied (record { prefix = q; clauses = xs })) (resolvents a (with_lit (plain a) φ.clauses) (with_lit (negated a) φ.clauses))) (free-raws a q φ.clauses r)
      ∙ tidied-append q (without_var a φ.clauses) (resolvents a (with_lit (plain a) φ.clauses) (with_lit (negated a) φ.clauses))

  pub resolve-never : {A : Type 0} → permitted φ resolve a 0 ≡ true → 1023 < a → A
  unfolding permitted
  resolve-never {A} p h = clash p (sym (resolve-large φ a (entries-of φ g.well g.holds.fitting) h))

  module _ (s : Bool) (r : Option Counts) (t : List ℕ) (k : Built (tidied (remade (Free (2 * a)) Same a φ)) s r t) where
    pub resolve-full : r ≡ None → (t' : List ℕ) → Built (result_of φ resolve a 0) s None t'
    resolve-full e t' =
        built-not (result_of φ resolve a 0) s t'
        (ap fits (sym whole) ∙ raws-not (tidied (remade (Free (2 * a)) Same a φ)) (each_of (of_clause (2 * a) (2 * a + 1) φ.clauses) φ.clauses) (built-full (tidied (remade (Free (2 * a)) Same a φ)) s r t k e))

    pub resolve-done : (d : Counts) → r ≡ Some d → (r' : Option Counts) (t' : List ℕ)
        → Built (with_raws (tidied (remade (Free (2 * a)) Same a φ)) (each_of (of_clause (2 * a) (2 * a + 1) φ.clauses) φ.clauses)) d.second r' t' → Built (result_of φ resolve a 0) s r' t'
    resolve-done d e r' t' m = rw (whole, built-second (tidied (remade (Free (2 * a)) Same a φ)) s r t k d e) at m

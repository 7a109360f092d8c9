-- The prefix with the copies, its ranks, then the clauses.
-- Assumes nothing.
use mathlib.Core.Path.{◌≡◌, sym}
use native.Mathlib.Omega.{arith}
use Prim.Native.Nat.{ℕ, ◌≤◌}
use mathlib.Core.Bool.{Bool}
use mathlib.Core.List.{List, map}
use lib.ListN.{take, drop, length}
use lib.Seq.{length-take-le}
use Rattle.meaning.specs.Formula.{Formula, plain, drop_var}
use Rattle.rules.specs.Eliminate.{fresh}
use Rattle.table.specs.Table.{Holds, Held}
use Rattle.table.specs.Answer.{Built}
use Rattle.table.specs.declared.Counts.{Counts}
use Rattle.std.specs.Prelude.{Option, Some}
use Rattle.table.proofs.HoldLaws.{bounds, held, count-variables}
use Rattle.table.specs.Ranks.{Ranked}
use Rattle.permits.specs.Places.{place_of}
use Rattle.rebuilds.specs.Given.{Given, Begun}
use Rattle.rebuilds.specs.Raws.{bare}
use Rattle.recipes.specs.Recipe.{Ready}
use Rattle.rebuilds.proofs.BuildLaws.{built-done}
use Rattle.rebuilds.proofs.RawLaws.{ranked-ready}
use Rattle.rebuilds.proofs.GivenLaws.{begun-held, begun-well, given-ready}
use Rattle.expanding.specs.Copies.{with_entries}
use Rattle.permits.specs.Variables.{existentials}
use Rattle.expanding.proofs.ExpandLaws.{front, expand-shrunk, expand-few, expand-good, expand-full, expand-done, expand-never}
use Rattle.expanding.proofs.expanding.expand_into.Goals as goal

-- Once the prefix is copied: a is the universal, m its place, n how many inner existentials there are.
module _ {source ranks : List ℕ} {c : Counts} (a m n : ℕ) (t : List ℕ) (d : Counts)
    (copies : (φ : Formula) → Holds φ source c → Holds (bare (drop_var a φ.prefix)) t d) where
  module _ {target scratch : List ℕ} (b : Begun source c target scratch ranks) where
    copied-held : Held t d
    copied-held = held (copies b.formula b.given.holds)

    few : m ≡ place_of b.formula.prefix a → n ≡ existentials (drop m (take c.variables source)) → n ≤ d.variables
    few at count = expand-few b.given a m n at count (copies b.formula b.given.holds)

    narrow : m ≡ place_of b.formula.prefix a → n ≡ existentials (drop m (take c.variables source)) → n ≤ 1023
    narrow at count = let k = bounds copied-held in omega (arith, few at count)

  -- once the copies are pushed
  module _ (r : Option Counts) (t' : List ℕ)
      (pushed : (p : List ℕ) (ψ : Formula) → Ready p ranks → length p ≡ c.variables → Holds ψ t d → Built (with_entries ψ (map plain (fresh p n))) d.second r t') where
    made : {φ : Formula} (g : Given φ source c ranks) → Built (front g a n) d.second r t'
    made {φ} g = pushed φ.prefix (bare (drop_var a φ.prefix)) (given-ready g) (sym (count-variables g.holds)) (copies φ g.holds)

    -- where there is room for them
    there : (e : Counts) → r ≡ Some e → {φ : Formula} (g : Given φ source c ranks) → Holds (front g a n) t' e
    there e is g = built-done _ _ _ _ (made g) e is

    there-held : (e : Counts) → r ≡ Some e → {target scratch : List ℕ} → Begun source c target scratch ranks → Held t' e
    there-held e is b = held (there e is b.given)

    -- once the new prefix is ranked
    ready-again : (e : Counts) → r ≡ Some e → {target scratch : List ℕ} (b : Begun source c target scratch ranks)
        → m ≡ place_of b.formula.prefix a → n ≡ existentials (drop m (take c.variables source))
        → (answer : Bool) (ranks' : List ℕ) → Ranked (take e.variables t') answer ranks' → Ready (take e.variables t') ranks'
    ready-again e is b at count answer ranks' k = ranked-ready (there e is b.given) (expand-good b.given a m n at count) answer ranks' k

pub returns-then-a-gt-VARIABLES : goal.returns-then-a-gt-VARIABLES
returns-then-a-gt-VARIABLES c = λ φ g ok. expand-never g _ ok c.if-a-gt-VARIABLES.true

pub slice_bounds-count_existentials-end : goal.slice_bounds-count_existentials-end
slice_bounds-count_existentials-end c =
    let b = bounds (begun-held c.requires) in
    sym (length-take-le _ _ (omega arith))

pub overflow_cast-c : goal.overflow_cast-c
overflow_cast-c c = let b = bounds (begun-held c.requires) in omega arith

pub overflow_cast-n : goal.overflow_cast-n
overflow_cast-n c = omega (arith, narrow c.args.a c.place_of.result c.count_existentials-n.result c.copy_prefix-d.new.target c.copy_prefix-d.result c.copy_prefix-d.ensures.holds c.requires (c.place_of.ensures c.requires.formula.prefix (given-ready c.requires.given).ranked (given-ready c.requires.given).good) c.count_existentials-n.ensures)

pub push_copies-requires-clause-readied : goal.push_copies-requires-clause-readied
push_copies-requires-clause-readied c =
    let b = bounds (begun-held c.requires) in
    (record { prefix = c.requires.formula.prefix; ready = given-ready c.requires.given }, omega arith, narrow c.args.a c.place_of.result c.count_existentials-n.result c.copy_prefix-d.new.target c.copy_prefix-d.result c.copy_prefix-d.ensures.holds c.requires (c.place_of.ensures c.requires.formula.prefix (given-ready c.requires.given).ranked (given-ready c.requires.given).good) c.count_existentials-n.ensures)

pub slice_bounds-rank_prefix-end : goal.slice_bounds-rank_prefix-end
slice_bounds-rank_prefix-end c = let b = bounds (there-held c.args.a c.place_of.result c.count_existentials-n.result c.copy_prefix-d.new.target c.copy_prefix-d.result c.copy_prefix-d.ensures.holds c.push_copies.result c.push_copies.new.target c.push_copies.ensures c.in_ok-e.e c.in_ok-e.was c.requires) in omega arith

pub slice_bounds-rank_prefix-end-2 : goal.slice_bounds-rank_prefix-end-2
slice_bounds-rank_prefix-end-2 c = let b = bounds (there-held c.args.a c.place_of.result c.count_existentials-n.result c.copy_prefix-d.new.target c.copy_prefix-d.result c.copy_prefix-d.ensures.holds c.push_copies.result c.push_copies.new.target c.push_copies.ensures c.in_ok-e.e c.in_ok-e.was c.requires) in sym (length-take-le _ _ (omega arith))

pub rank_prefix-requires : goal.rank_prefix-requires
rank_prefix-requires c =
    let b = bounds (there-held c.args.a c.place_of.result c.count_existentials-n.result c.copy_prefix-d.new.target c.copy_prefix-d.result c.copy_prefix-d.ensures.holds c.push_copies.result c.push_copies.new.target c.push_copies.ensures c.in_ok-e.e c.in_ok-e.was c.requires) in
    omega (arith, length-take-le c.in_ok-e.e.variables c.push_copies.new.target (omega arith))

pub overflow_sub-s : goal.overflow_sub-s
overflow_sub-s c = few c.args.a c.place_of.result c.count_existentials-n.result c.copy_prefix-d.new.target c.copy_prefix-d.result c.copy_prefix-d.ensures.holds c.requires (c.place_of.ensures c.requires.formula.prefix (given-ready c.requires.given).ranked (given-ready c.requires.given).good) c.count_existentials-n.ensures

pub overflow_cast-n-2 : goal.overflow_cast-n-2
overflow_cast-n-2 c = omega (arith, narrow c.args.a c.place_of.result c.count_existentials-n.result c.copy_prefix-d.new.target c.copy_prefix-d.result c.copy_prefix-d.ensures.holds c.requires (c.place_of.ensures c.requires.formula.prefix (given-ready c.requires.given).ranked (given-ready c.requires.given).good) c.count_existentials-n.ensures)

pub add_expanded-requires-clause-held_target : goal.add_expanded-requires-clause-held_target
add_expanded-requires-clause-held_target c = there-held c.args.a c.place_of.result c.count_existentials-n.result c.copy_prefix-d.new.target c.copy_prefix-d.result c.copy_prefix-d.ensures.holds c.push_copies.result c.push_copies.new.target c.push_copies.ensures c.in_ok-e.e c.in_ok-e.was c.requires

pub add_expanded-requires-clause-ready : goal.add_expanded-requires-clause-ready
add_expanded-requires-clause-ready c = ready-again c.args.a c.place_of.result c.count_existentials-n.result c.copy_prefix-d.new.target c.copy_prefix-d.result c.copy_prefix-d.ensures.holds c.push_copies.result c.push_copies.new.target c.push_copies.ensures c.in_ok-e.e c.in_ok-e.was c.requires (c.place_of.ensures c.requires.formula.prefix (given-ready c.requires.given).ranked (given-ready c.requires.given).good) c.count_existentials-n.ensures _ _ c.rank_prefix.ensures

pub add_expanded-requires-clause-shrunk : goal.add_expanded-requires-clause-shrunk
add_expanded-requires-clause-shrunk c = expand-shrunk c.requires.given _ (begun-well c.requires) _ (there c.args.a c.place_of.result c.count_existentials-n.result c.copy_prefix-d.new.target c.copy_prefix-d.result c.copy_prefix-d.ensures.holds c.push_copies.result c.push_copies.new.target c.push_copies.ensures c.in_ok-e.e c.in_ok-e.was c.requires.given)

pub returns : goal.returns
returns c = λ φ g ok. expand-done g _ _ _ (c.place_of.ensures φ.prefix (given-ready g).ranked (given-ready g).good) c.count_existentials-n.ensures ok (c.copy_prefix-d.ensures.holds φ g.holds) _ c.copy_prefix-d.ensures.second_value _ _
    (made c.args.a c.place_of.result c.count_existentials-n.result c.copy_prefix-d.new.target c.copy_prefix-d.result c.copy_prefix-d.ensures.holds c.push_copies.result c.push_copies.new.target c.push_copies.ensures g) _ c.in_ok-e.was _ _ (c.add_expanded.ensures φ _ g.holds (there c.args.a c.place_of.result c.count_existentials-n.result c.copy_prefix-d.new.target c.copy_prefix-d.result c.copy_prefix-d.ensures.holds c.push_copies.result c.push_copies.new.target c.push_copies.ensures c.in_ok-e.e c.in_ok-e.was g))

pub returns-in_err-e : goal.returns-in_err-e
returns-in_err-e c = rw c.from_residual.ensures (λ φ g ok. expand-full g _ _ _ (c.place_of.ensures φ.prefix (given-ready g).ranked (given-ready g).good) c.count_existentials-n.ensures ok _ _ _ (made c.args.a c.place_of.result c.count_existentials-n.result c.copy_prefix-d.new.target c.copy_prefix-d.result c.copy_prefix-d.ensures.holds c.push_copies.result c.push_copies.new.target c.push_copies.ensures g) c.in_err-e.was _ _)

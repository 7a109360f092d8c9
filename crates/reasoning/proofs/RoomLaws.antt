-- How many numbers the variables of a result need: after resolving as many as there are, after expanding one more, since no copy takes
-- the number of the expanded variable.
-- Assumes nothing.
use Prim.Native.Nat.{ℕ, ◌+◌, ◌≤◌, ◌<◌}
use mathlib.Core.Path.{◌≡◌, refl, ap}
use mathlib.Core.Bool.{Bool, true, false, ◌&&◌, not}
use mathlib.Core.List.{List, [], ◌∷◌}
use lib.Dec.{leb, ltb}
use borrow.Author.Tests.{ltb-true, ltb-false}
use lib.ListN.{length}
use native.Mathlib.Omega.{arith}
use Rattle.meaning.specs.Lists.{any_of, all_of}
use Rattle.meaning.specs.Formula.{Formula, var, odd, is_var, mentions, drop_var}
use Rattle.meaning.specs.Tidy.{tidied}
use Rattle.meaning.specs.WellFormed.{well_formed, fits}
use Rattle.rules.specs.Eliminate.{resolve_raw, expand_permitted, inner, fresh, expand_with, expand_raw}
use Rattle.rules.specs.Entry.{resolve, expand}
use Rattle.rules.specs.Step.{raw_of, result_of}
use Rattle.table.specs.Table.{Holds, counts_of}
use Rattle.table.specs.declared.Counts.{Counts}
use Rattle.reasons.specs.Reason.{of_variables, within}
use Rattle.meaning.proofs.Basics.{by_cases, clash, false_of}
use Rattle.meaning.proofs.Lists.{any-keep-le, all-keep-le}
use Rattle.meaning.proofs.Parts.{good_of, room_of}
use Rattle.meaning.proofs.Prefix.{forall-mentioned}
use Rattle.rules.proofs.Permitted.{expand-says}
use Rattle.table.proofs.HoldLaws.{count-variables}
use Rattle.rules.proofs.Place.{Place, forall-place}
use Rattle.rules.proofs.Expand.{copies-ok, with-u, fs-out}
use Rattle.rules.proofs.Raws.{RawOk, expand-ok}
use Rattle.permits.proofs.PlaceLaws.{entries-of, large-out}
use Rattle.growth.proofs.ExpandClauses.{Expands}
use Rattle.growth.proofs.ExpandRoom.{new-length, new-fits}

count-is : (ψ : Formula) (d : Counts) → d ≡ counts_of ψ d.second → d.variables ≡ length ψ.prefix
unfolding counts_of
count-is ψ d is = ap (λ (c : Counts). c.variables) is

mentions-some : (p : List ℕ) (v : ℕ) → mentions p v ≡ true → 0 < length p
unfolding mentions any_of
mentions-some [] v m = clash m refl
mentions-some (q ∷ p) v m = omega arith

-- a variable of the prefix has a number in range
pub small-there : {φ : Formula} {t : List ℕ} {c : Counts} → Holds φ t c → well_formed φ ≡ true → (v : ℕ) → mentions φ.prefix v ≡ true → v ≤ 1023
small-there {φ} h w v m =
    by_cases (ltb 1023 v) (λ l. clash m (large-out φ.prefix v (entries-of φ w h.fitting) (ltb-true 1023 v l))) (λ l. ltb-false 1023 v l)

-- Resolve ----------------------------------------------------------------------------------------------------------
and-true : (b : Bool) → (b && true) ≡ b
and-true true = refl
and-true false = refl

pub resolve-room : (φ : Formula) → fits φ ≡ true → (a : ℕ) (d : Counts) → d ≡ counts_of (result_of φ resolve a 0) d.second
    → within of_variables (result_of φ resolve a 0) ≡ leb d.variables 1023
resolve-room φ f a d is = rw (count-is _ d is) room
  where
    small : all_of (λ q. leb (var q) 1023) (drop_var a φ.prefix) ≡ true
    small = unfold drop_var in all-keep-le (λ q. leb (var q) 1023) (λ q. not (is_var a q)) φ.prefix (room_of φ f).numbers

    room : within of_variables (result_of φ resolve a 0) ≡ leb (length (result_of φ resolve a 0).prefix) 1023
    room = unfold within result_of raw_of tidied resolve_raw in rw small (and-true (leb (length (drop_var a φ.prefix)) 1023))

-- Expand -------------------------------------------------------------------------------------------------------------
module _ (φ : Formula) (w : well_formed φ ≡ true) (a : ℕ) (ok : expand_permitted φ a ≡ true) where
  abbrev es : List ℕ
  es = inner a φ.prefix

  expands : Expands φ.prefix a es (fresh φ.prefix (length es))
  unfolding inner
  expands =
      let k : (at : Place φ.prefix a) × (odd at.entry ≡ true) = forall-place φ w a (expand-says φ a ok).forall in
      let at = k.0 in
      rw at.behind (record {
        good = good_of φ w;
        forall = (expand-says φ a ok).forall;
        apart = unfold mentions in false_of _ (λ h. clash (any-keep-le (is_var a) _ _ h) (unfold mentions in at.right-out));
        copies = copies-ok φ w a at k.1;
        new = fs-out φ w a at k.1;
        touched = with-u φ w a at k.1;
      })

  expand-some : 0 < length φ.prefix
  expand-some = mentions-some φ.prefix a (forall-mentioned φ.prefix a (expand-says φ a ok).forall)

  pub expand-variables : {t : List ℕ} {c : Counts} → Holds φ t c → 0 < c.variables
  expand-variables h = omega (arith, expand-some, count-variables h)

  ok-raw : RawOk (expand_raw φ a)
  ok-raw = expand-ok φ w a ok

  pub expand-room : fits φ ≡ true → (d : Counts) → d ≡ counts_of (result_of φ expand a 0) d.second
      → within of_variables (result_of φ expand a 0) ≡ leb (d.variables + 1) 1023
  unfolding within result_of raw_of tidied expand_raw expand_with
  expand-room f d is =
      let s = expand-some in
      let n = new-length φ.prefix a es (length es) expands in
      let e : d.variables + 1 ≡ length φ.prefix + length es = omega (arith, count-is (result_of φ expand a 0) d is) in
      rw e (new-fits φ.prefix a es (length es) expands ok-raw.0 (room_of φ f).numbers)

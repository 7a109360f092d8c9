-- A variable is in the prefix exactly if it has a rank.
-- Assumes nothing.
use mathlib.Core.Path.{◌≡◌, refl, sym}
use mathlib.Core.Bool.{Bool, true, false, not}
use mathlib.Core.List.{List}
use Prim.Native.Nat.{ℕ, ◌≤◌, ◌<◌}
use native.Mathlib.Omega.{arith}
use borrow.Author.Tests.{leb-true}
use lib.Dec.{leb, eqb}
use lib.ListN.{get_or}
use Rattle.meaning.specs.Lists.{all_of}
use Rattle.meaning.specs.Formula.{var, mentions}
use Rattle.meaning.specs.WellFormed.{max_variables}
use Rattle.table.specs.Ranks.{ranks_of}
use Rattle.meaning.proofs.Basics.{false_of}
use Rattle.meaning.proofs.Prefix.{mentioned-all}
use Rattle.table.proofs.RankLaws.{rank-at, rank-there}

pub seen-large : (p : List ℕ) (v : ℕ) → all_of (λ q. leb (var q) max_variables) p ≡ true → 1023 < v → false ≡ mentions p v
seen-large p v h k = sym (false_of (mentions p v) (λ e. omega (arith, leb-true v max_variables (mentioned-all (λ x. leb x max_variables) p v h e))))

not-not : (b : Bool) → not (not b) ≡ b
not-not true = refl
not-not false = refl

pub seen-rank : (p : List ℕ) (v : ℕ) (k : List ℕ) → k ≡ ranks_of p → v ≤ 1023 → not (eqb (get_or k v 0) 0) ≡ mentions p v
seen-rank p v k e h = rw (e, rank-at p v (omega arith), rank-there 0 p v) (not-not (mentions p v))

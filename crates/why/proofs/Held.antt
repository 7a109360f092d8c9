-- In a table that holds a formula, what is taken out of it is the formula's.
-- Assumes nothing.
use Prim.Native.Nat.{ℕ, ◌+◌, ◌-◌, ◌≤◌}
use mathlib.Core.Path.{◌≡◌, ap, ◌∙◌}
use mathlib.Core.List.{List}
use native.Mathlib.Omega.{arith}
use lib.Dec.{eqb}
use lib.ListN.{get_or}
use lib.Seq.{take-take}
use Rattle.meaning.specs.Formula.{Formula}
use Rattle.meaning.proofs.Basics.{by_cases, eqb-true, eqb-false}
use Rattle.table.specs.Table.{start_of, Holds}
use Rattle.table.specs.Lent.{named}
use Rattle.table.specs.declared.Counts.{Counts}
use Rattle.table.proofs.HoldLaws as held
use Rattle.why.specs.Places.{prefix_part, prefix_counted, start_in}
use Rattle.why.proofs.PlaceLaws.{start_first, start-end}

pub prefix-held : {φ : Formula} (first second : List ℕ) (c : Counts) → Holds φ (named first second c) c → prefix_counted first second c ≡ φ.prefix
unfolding prefix_counted prefix_part
prefix-held first second c h = take-take c.variables 1023 (named first second c) (held.holds-bounds h).variables ∙ held.prefix-is h

pub start-held : {φ : Formula} {t : List ℕ} {c : Counts} → Holds φ t c → (i : ℕ) → i ≤ c.clauses → start_in t i ≡ start_of φ.clauses i
start-held {φ} {t} {c} h i k =
    by_cases (eqb i 0)
    (λ e. let z : i ≡ 0 = eqb-true i 0 e in omega (arith, start_first t i z, held.start_first h i z))
    (λ e.
    let z = eqb-false i 0 e in
    let b = held.holds-bounds h in
    let p : get_or t (1022 + i) 0 ≡ get_or t (1023 + (i - 1)) 0 = ap (λ (j : ℕ). get_or t j 0) (omega arith) in
    omega (arith, start-end t i z (omega arith), held.start-later h i z k))

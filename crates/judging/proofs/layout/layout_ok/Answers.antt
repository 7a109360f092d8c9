-- Test by test.
-- Assumes nothing.
use Prim.Native.Nat.{◌+◌}
use mathlib.Core.Path.{◌≡◌, sym, ◌∙◌}
use mathlib.Core.Bool.{◌&&◌}
use Rattle.judging.specs.Layout.{all_zero, part}
use Rattle.judging.proofs.LayoutLaws.{not-long, not-variables, not-clauses, not-literals, not-zero, ends-tell}
use Rattle.judging.proofs.layout.layout_ok.Goals.{then-t-ne-TABLE-via-then-t-ne-TABLE, then-t-ne-TABLE-via-else-t-ne-TABLE+then-v-gt-VARIABLES, then-t-ne-TABLE-via-else-t-ne-TABLE+else-v-gt-VARIABLES+then-n-gt-CLAUSES, then-t-ne-TABLE-via-else-t-ne-TABLE+else-v-gt-VARIABLES+else-n-gt-CLAUSES+then-m-gt-LITERALS, then-all_zero, else-all_zero, then-all_zero-2, else-all_zero-2}
use Rattle.judging.proofs.layout.layout_ok.Goals as goal

pub returns-then-t-ne-TABLE : goal.returns-then-t-ne-TABLE
returns-then-t-ne-TABLE c =
    elim c.then-t-ne-TABLE.branch [
      | then-t-ne-TABLE-via-then-t-ne-TABLE w ↦ not-long _ _ w.if-t-ne-TABLE.true
      | then-t-ne-TABLE-via-else-t-ne-TABLE+then-v-gt-VARIABLES w ↦ not-variables _ _ w.if-t-ne-TABLE.false w.if-v-gt-VARIABLES.true
      | then-t-ne-TABLE-via-else-t-ne-TABLE+else-v-gt-VARIABLES+then-n-gt-CLAUSES w ↦ not-clauses _ _ w.if-t-ne-TABLE.false w.if-v-gt-VARIABLES.false w.if-n-gt-CLAUSES.true
      | then-t-ne-TABLE-via-else-t-ne-TABLE+else-v-gt-VARIABLES+else-n-gt-CLAUSES+then-m-gt-LITERALS w ↦ not-literals _ _ w.if-t-ne-TABLE.false w.if-v-gt-VARIABLES.false w.if-n-gt-CLAUSES.false w.if-m-gt-LITERALS.true
    ]

pub returns-then-all_zero-3 : goal.returns-then-all_zero-3
returns-then-all_zero-3 c =
    let t = c.args.t.now in
    let k = c.args.c in
    let a : c.if-all_zero.value ≡ all_zero (part t k.variables 1023) && all_zero (part t (1023 + k.clauses) 3070) = elim c.if-all_zero.branch [
      | then-all_zero w ↦ w.value-is ∙ w.all_zero-then-all_zero.ensures ∙ rw (sym c.all_zero.ensures ∙ w.if-all_zero.true)
      | else-all_zero w ↦ w.value-is ∙ rw (sym c.all_zero.ensures ∙ w.if-all_zero.false) w.if-all_zero.false
    ] in
    let b : c.if-all_zero-2.value ≡ (all_zero (part t k.variables 1023) && all_zero (part t (1023 + k.clauses) 3070)) && all_zero (part t (3070 + k.literals) 11261) = elim c.if-all_zero-2.branch [
      | then-all_zero-2 w ↦ w.value-is ∙ w.all_zero-then-all_zero-2.ensures ∙ rw (sym a ∙ w.if-all_zero-2.true)
      | else-all_zero-2 w ↦ w.value-is ∙ rw (sym a ∙ w.if-all_zero-2.false) w.if-all_zero-2.false
    ] in
    ends-tell _ _ c.if-t-ne-TABLE.false c.if-v-gt-VARIABLES.false c.if-n-gt-CLAUSES.false c.if-m-gt-LITERALS.false (sym b ∙ c.if-all_zero-3.true) _ c.ends_up_to.ensures

pub returns-else-all_zero-3 : goal.returns-else-all_zero-3
returns-else-all_zero-3 c =
    let t = c.args.t.now in
    let k = c.args.c in
    let a : c.if-all_zero.value ≡ all_zero (part t k.variables 1023) && all_zero (part t (1023 + k.clauses) 3070) = elim c.if-all_zero.branch [
      | then-all_zero w ↦ w.value-is ∙ w.all_zero-then-all_zero.ensures ∙ rw (sym c.all_zero.ensures ∙ w.if-all_zero.true)
      | else-all_zero w ↦ w.value-is ∙ rw (sym c.all_zero.ensures ∙ w.if-all_zero.false) w.if-all_zero.false
    ] in
    let b : c.if-all_zero-2.value ≡ (all_zero (part t k.variables 1023) && all_zero (part t (1023 + k.clauses) 3070)) && all_zero (part t (3070 + k.literals) 11261) = elim c.if-all_zero-2.branch [
      | then-all_zero-2 w ↦ w.value-is ∙ w.all_zero-then-all_zero-2.ensures ∙ rw (sym a ∙ w.if-all_zero-2.true)
      | else-all_zero-2 w ↦ w.value-is ∙ rw (sym a ∙ w.if-all_zero-2.false) w.if-all_zero-2.false
    ] in
    c.if-all_zero-3.false ∙ not-zero _ _ c.if-t-ne-TABLE.false c.if-v-gt-VARIABLES.false c.if-n-gt-CLAUSES.false c.if-m-gt-LITERALS.false (sym b ∙ c.if-all_zero-3.false)

-- The prefix is a part of the table, and what stands right of a variable begins at its place.
-- Assumes nothing.
use Rattle.std.proofs.Common.{◌∙◌, sym, ap, not, eqb, ◌%◌, ◌/◌, ℕ, rules, tests}
use Rattle.std.specs.Prelude.{Option, unwrap_or}
use native.Mathlib.Omega.{arith}
use lib.ListN.{take}
use lib.Seq.{length-take-le}
use Rattle.std.proofs.lemmas.Iterator.{YieldsList-from_slice}
use Rattle.std.proofs.lemmas.Iterator.Adapters.{YieldsList-from_skip}
use Rattle.std.proofs.lemmas.Iterator.Search.{find_from_yields_List}
use Rattle.meaning.specs.Formula.{odd, var}
use Rattle.table.proofs.HoldLaws.{bounds}
use Rattle.permits.proofs.PlaceLaws.{entries-of}
use Rattle.reasoning.proofs.BehindLaws.{first-is, existential-is, even-is}
use Rattle.reasoning.proofs.behind.existential_after.Goals as goal

pub slice_bounds-iter-end : goal.slice_bounds-iter-end
slice_bounds-iter-end c = let b = bounds c.requires.held in sym (length-take-le _ _ (omega arith))

pub returns : goal.returns
unfolding var
returns c =
    λ φ h w e m. existential-is h _ _ (c.place_of.ensures φ.prefix e (entries-of φ w h.fitting)) m _
    (let g = find_from_yields_List (λ q. eqb (q % 2) 0) _ _ c.find-first.result c.find-first.ensures.ran
    (YieldsList-from_skip c.place_of.result (YieldsList-from_slice (take c.args.c.variables c.args.t.now) cc) cc) (λ x b q k. search (rules, tests)) in
    ap (λ (n : ℕ). n / 2)
    (c.unwrap_or.ensures ∙ ap (λ (o : Option ℕ). unwrap_or o 0) (c.copied.ensures ∙ g) ∙ first-is (λ q. not (odd q)) (λ q. eqb (q % 2) 0) even-is _))

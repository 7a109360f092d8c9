-- The fold of the rarer of two.
-- Assumes nothing.
use Rattle.std.proofs.Common.{◌∙◌, drop, arith, length-drop, rules}
use Rattle.std.proofs.lemmas.List.{take_all}
use Rattle.std.proofs.lemmas.Iterator.{YieldsList-from_slice}
use Rattle.std.proofs.lemmas.Iterator.Consumers.{fold_from_yields_List}
use Rattle.sides.specs.Sides.{rarer}
use Rattle.sides.proofs.SideLaws.{rarest_fold}
use Rattle.sides.proofs.sides.rarest.Goals as goal

pub returns : goal.returns
returns c = λ φ h.
    fold_from_yields_List _ (rarer φ.clauses) _ _ c.fold.ensures.ran (YieldsList-from_slice (drop 1 c.args.clause.now) (c.iter-others.ensures.rest ∙ take_all _ _ (omega (arith, length-drop 1 c.args.clause.now)))) (λ s x b q k. search rules)
    ∙ rarest_fold φ.clauses _ _

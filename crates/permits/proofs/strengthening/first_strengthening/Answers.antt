-- The first literal that passes.
-- Assumes nothing.
use Rattle.std.proofs.Common.{◌∙◌, rules, tests}
use Rattle.std.proofs.lemmas.Iterator.{YieldsList-from_slice}
use Rattle.std.proofs.lemmas.Iterator.Search.{find_from_yields_List}
use Rattle.rules.specs.Simplify.{strengthens}
use Rattle.permits.proofs.StrengthenLaws.{first-find}
use Rattle.permits.proofs.strengthening.first_strengthening.Goals as goal

pub returns : goal.returns
returns c = λ p e g. c.copied.ensures ∙ find_from_yields_List (strengthens p c.args.x.now c.args.y.now) _ _ _ c.find.ensures.ran (YieldsList-from_slice c.args.x.now cc) (λ x b q k. search (rules, tests)) ∙ first-find _ _

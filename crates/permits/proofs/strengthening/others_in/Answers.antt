-- Each literal of x is l or in y.
-- Assumes nothing.
use Rattle.std.proofs.Common.{◌∙◌, sym, rules, tests}
use Rattle.std.proofs.lemmas.Iterator.{YieldsList-from_slice}
use Rattle.std.proofs.lemmas.Iterator.Search.{all_from_yields_List}
use Rattle.meaning.proofs.StdLists.{all_of-std}
use Rattle.permits.specs.Choices.{is_or_in}
use Rattle.permits.proofs.StrengthenLaws.{others-all}
use Rattle.permits.proofs.strengthening.others_in.Goals as goal

pub returns : goal.returns
returns c = all_from_yields_List (is_or_in c.args.l c.args.y.now) _ _ _ c.all.ensures.ran (YieldsList-from_slice c.args.x.now cc) (λ x b q k. search (rules, tests)) ∙ sym (all_of-std _ _) ∙ others-all _ _ _

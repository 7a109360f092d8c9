-- The fold of the signature's own step.
-- Assumes nothing.
use Rattle.std.proofs.Common.{rules}
use Rattle.std.proofs.lemmas.Iterator.{YieldsList-from_slice}
use Rattle.std.proofs.lemmas.Iterator.Consumers.{fold_from_yields_List}
use Rattle.index.specs.Signs.{sign_on, signature_of}
use Rattle.index.proofs.SignLaws.{sign-shift}
use Rattle.index.proofs.signs.signature.Goals as goal

pub returns : goal.returns
unfolding signature_of
returns c = fold_from_yields_List _ sign_on 0 _ c.fold.ensures.ran (YieldsList-from_slice c.args.clause.now cc) (λ s x b q k. search (rules, sign-shift))

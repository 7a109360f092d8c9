-- By whether the clause is of f, then by whether it has the universal.
-- Assumes nothing.
use Rattle.growth.proofs.ExpandLoops.{share-stays, share-loses, share-doubles}
use Rattle.growth.proofs.share_of.Goals as goal

pub returns-then-has_variable : goal.returns-then-has_variable
returns-then-has_variable c = λ p e g. share-loses p _ _ _ _ (c.does_reach.ensures p e g) c.if-does_reach.true _ c.has_variable.ensures c.if-has_variable.true

pub returns-then-does_reach : goal.returns-then-does_reach
returns-then-does_reach c = λ p e g. share-doubles p _ _ _ _ (c.does_reach.ensures p e g) c.if-does_reach.true _ c.has_variable.ensures c.if-has_variable.false

pub returns : goal.returns
returns c = λ p e g. share-stays p _ _ _ _ (c.does_reach.ensures p e g) c.if-does_reach.false

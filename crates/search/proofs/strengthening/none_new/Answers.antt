-- The loop's invariant: where the first clauses are searched, no pair of clauses before b is permitted.
-- Assumes nothing.
use mathlib.Core.Path.{refl}
use native.Mathlib.Omega.{arith}
use Rattle.rules.specs.Simplify.{strengthen_permitted}
use Rattle.meaning.proofs.Basics.{clash}
use Rattle.search.proofs.SearchedLaws.{calm-strengthen, calm-turn, strengthen-end}
use Rattle.search.proofs.strengthening.none_new.Goals as goal

pub loop-b-init : goal.loop-b-init
loop-b-init c = λ φ s q. calm-strengthen φ _ q

pub loop-b-preserved : goal.loop-b-preserved
loop-b-preserved c = λ φ s q. calm-turn (strengthen_permitted φ) c.loop-b.b (c.loop-b.invariant φ s q) (c.is_apart.ensures φ s c.if-not-is_apart.false)

pub returns-then-not-is_apart : goal.returns-then-not-is_apart
returns-then-not-is_apart c = λ φ E s q e. clash e refl

pub returns : goal.returns
returns c = λ φ E s q e. strengthen-end s.holds c.loop-b.b (omega arith) E (c.loop-b.invariant φ s q)

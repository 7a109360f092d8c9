-- The loop's invariant: where the first clauses are searched, no pair of clauses before b is permitted.
-- Assumes nothing.
use Rattle.meaning.specs.Formula.{Formula}
use Rattle.rules.specs.Simplify.{strengthen_permitted}
use Rattle.index.specs.AtHand.{InHand}
use Rattle.search.specs.Searched.{SearchedTo}
use Rattle.search.proofs.SearchedLaws.{Calm}
use Rattle.search.proofs.strengthening.none_new.Given as goal

abbrev pub invariant-loop-b : goal.invariant-loop-b
invariant-loop-b l = (φ : Formula) → InHand φ l.at → SearchedTo φ l.searched → Calm (strengthen_permitted φ) l.b

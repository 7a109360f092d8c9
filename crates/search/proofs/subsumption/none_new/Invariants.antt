-- The loop's invariant: where the first clauses are searched, no pair of clauses before b is permitted.
-- Assumes nothing.
use mathlib.Core.Path.{◌≡◌}
use mathlib.Core.Bool.{false}
use Rattle.meaning.specs.Formula.{Formula}
use Rattle.rules.specs.Simplify.{subsume_permitted}
use Rattle.meaning.specs.Game.{empty_clause}
use Rattle.table.specs.Table.{Holds}
use Rattle.index.specs.Index.{Indexes}
use Rattle.search.specs.Searched.{SearchedTo}
use Rattle.search.proofs.SearchedLaws.{Calm}
use Rattle.search.proofs.subsumption.none_new.Given as goal

abbrev pub invariant-loop-b : goal.invariant-loop-b
invariant-loop-b l = (φ : Formula) → Holds φ l.t l.c → Indexes φ l.index → empty_clause φ.clauses ≡ false → SearchedTo φ l.searched → Calm (subsume_permitted φ) l.b

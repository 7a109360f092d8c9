-- Nothing where nothing is new; else what is found among all.
-- Assumes nothing.
use mathlib.Core.Path.{sym, ap}
use Rattle.search.specs.Candidates.{found_as}
use Rattle.search.proofs.subsumption.find_subsume.Goals as goal

pub returns-then-none_new : goal.returns-then-none_new
unfolding found_as
returns-then-none_new c = λ φ E h x n q. sym (ap found_as (c.none_new.ensures φ E h x n q c.if-none_new.true))

pub returns : goal.returns
returns c = λ φ E h x n q. c.search_all.ensures φ E h x n

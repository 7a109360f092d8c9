-- By what the result would weigh.
-- Assumes nothing.
use Rattle.std.proofs.Common.{◌≡◌, ℕ, refl, ◌∙◌}
use Rattle.std.specs.Prelude.{Result, Ok, Err}
use Rattle.std.specs.Result.{result_or}
use Rattle.choice.specs.Chosen.{considered, roomless}
use Rattle.choice.specs.declared.Lack.{Lack}
use Rattle.choice.specs.declared.Lack.TheVariants as lack
use Rattle.choice.proofs.Standing.after.Goals as goal

or-roomless : (r : Result ℕ Lack) → result_or r (Err lack.Room) ≡ roomless r
unfolding roomless
or-roomless (Ok a) = refl
or-roomless (Err l) = refl

pub returns-in-Over : goal.returns-in-Over
unfolding considered
returns-in-Over c = rw c.in-Over.is

pub returns-in-Fitting : goal.returns-in-Fitting
unfolding considered
returns-in-Fitting c = rw c.in-Fitting.is

pub returns-in-Wide : goal.returns-in-Wide
unfolding considered
returns-in-Wide c = rw (c.in-Wide.is, c.or.ensures ∙ or-roomless _)

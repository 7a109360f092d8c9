-- The step is taken, so its record is there.
-- Assumes nothing.
use mathlib.Core.Path.{ap, ◌∙◌}
use Rattle.std.specs.Result.{result_unwrap_or}
use Rattle.course.proofs.StepLaws.{advanced, advanced-says}
use Rattle.course.proofs.between.advance.Goals as goal

pub returns : goal.returns
returns c = λ φ ψ l h. let m = c.step.ensures φ l in (c.unwrap_or.ensures ∙ ap (λ r. result_unwrap_or r c.args.c) (advanced-says m h), advanced m h)

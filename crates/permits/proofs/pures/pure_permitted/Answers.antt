-- By whether it is there, and then by its phases.
-- Assumes nothing.
use mathlib.Core.Path.{ap, sym, ◌∙◌}
use mathlib.Core.Bool.{not}
use borrow.Author.Tests.{lt-leb}
use Rattle.meaning.proofs.Basics.{clash}
use Rattle.rules.specs.Simplify.{pure_permitted}
use Rattle.permits.proofs.AndLaws.{and_second}
use Rattle.permits.proofs.PlaceLaws.{entries-of}
use Rattle.permits.proofs.PureLaws.{pure-out, pure-large}
use Rattle.permits.proofs.pures.pure_permitted.Goals.{then-a-le-VARIABLES, else-a-le-VARIABLES}
use Rattle.permits.proofs.pures.pure_permitted.Goals as goal

pub returns-then-in_prefix : goal.returns-then-in_prefix
unfolding pure_permitted
returns-then-in_prefix c = λ φ h k e.
    elim c.if-a-le-VARIABLES.branch [
      | then-a-le-VARIABLES w ↦ and_second _ _ _ _ (w.in_prefix.ensures φ.prefix e (entries-of φ k h.fitting)) (sym w.value-is ∙ c.if-in_prefix.true) (ap not (c.both_occur.ensures φ h))
      | else-a-le-VARIABLES w ↦ clash (sym w.value-is ∙ c.if-in_prefix.true) (lt-leb _ _ w.if-a-le-VARIABLES.false)
    ]

pub returns-else-in_prefix : goal.returns-else-in_prefix
returns-else-in_prefix c = λ φ h k e. c.if-in_prefix.false ∙
    elim c.if-a-le-VARIABLES.branch [
      | then-a-le-VARIABLES w ↦ pure-out φ _ _ (w.in_prefix.ensures φ.prefix e (entries-of φ k h.fitting)) (sym w.value-is ∙ c.if-in_prefix.false)
      | else-a-le-VARIABLES w ↦ pure-large φ _ (entries-of φ k h.fitting) w.if-a-le-VARIABLES.false
    ]

-- By whether the clause's stamp was there.
-- Assumes nothing.
use mathlib.Core.Path.{sym, ap, ◌∙◌}
use lib.ListN.{take}
use Rattle.stamps.specs.Stamp.{stamped}
use Rattle.stamps.proofs.StampLaws.{not_there}
use Rattle.judging.proofs.check.is_repeated.Goals as goal

pub returns-else-stamp-clause-value : goal.returns-else-stamp-clause-value
returns-else-stamp-clause-value c = λ φ h. c.if-stamp.false ∙ sym (not_there (stamped _) _ (take c.args.i φ.clauses) (c.requires.before φ h) (ap (stamped _) (sym (c.clause_at-clause.ensures φ h)) ∙ sym c.stamp.ensures.value ∙ c.if-stamp.false))

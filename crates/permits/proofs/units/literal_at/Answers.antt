-- Past an end, 0.
-- Assumes nothing.
use mathlib.Core.Path.{◌≡◌, ◌∙◌}
use lib.ListN.{get_or, get_or-eq_default}
use native.Mathlib.Omega.{arith}
use Rattle.std.proofs.lemmas.Grind.{common_steps}
use Rattle.permits.proofs.ClauseLaws.{literal-absent, literal-is}
use Rattle.permits.proofs.units.literal_at.Goals as goal

pub returns-then-c-a : goal.returns-then-c-a
returns-then-c-a c = λ φ h. literal-absent h _ c.args.k c.if-c-a.true

pub returns : goal.returns
returns c = λ φ h. let e : c.unwrap_or.result ≡ get_or c.clause_at.result.now c.args.k 0 = grind (arith, common_steps, get_or-eq_default) in e ∙ literal-is h _ c.args.k _ (c.clause_at.ensures φ h)

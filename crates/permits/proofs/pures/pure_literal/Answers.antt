-- By the quantifier.
-- Assumes nothing.
use mathlib.Core.Path.{sym}
use Rattle.meaning.proofs.Basics.{clash}
use Rattle.permits.proofs.PlaceLaws.{entries-of}
use Rattle.permits.proofs.PureLaws.{pure-large, true-forall, true-exists}
use Rattle.permits.proofs.pures.pure_literal.Goals as goal

pub returns-then-a-gt-VARIABLES : goal.returns-then-a-gt-VARIABLES
returns-then-a-gt-VARIABLES c = λ φ h w e k. clash k (sym (pure-large φ _ (entries-of φ w h.fitting) c.if-a-gt-VARIABLES.true))

pub returns-then-is_universal : goal.returns-then-is_universal
returns-then-is_universal c = λ φ h w e k. true-forall φ _ _ _ _ (c.is_universal.ensures φ.prefix e (entries-of φ w h.fitting)) c.if-is_universal.true (c.lone_literal-literal.ensures φ h) c.flip.ensures

pub returns : goal.returns
returns c = λ φ h w e k. true-exists φ _ _ _ (c.is_universal.ensures φ.prefix e (entries-of φ w h.fitting)) c.if-is_universal.false (c.lone_literal-literal.ensures φ h)

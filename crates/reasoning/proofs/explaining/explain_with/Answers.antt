-- By what the run does next.
-- Assumes nothing.
use mathlib.Core.Path.{ap, ◌∙◌}
use Rattle.choice.specs.declared.Next.TheVariants as next
use Rattle.choice.proofs.HandLaws.{searched-start}
use Rattle.reasoning.proofs.NextLaws.{says-true, says-false, finished-quiet, roomless-quiet, says-next, dear-quiet, says-left}
use Rattle.reasoning.proofs.explaining.explain_with.Goals as goal

pub choose-chosen-requires : goal.choose-chosen-requires
choose-chosen-requires c = (searched-start c.requires.0, c.requires.1, c.requires.2)

pub why_left-requires : goal.why_left-requires
why_left-requires c = let said = c.choose-chosen.ensures.next_value c.requires.0.formula c.requires.0.holds c.requires.0.well in (record { formula = c.requires.0.formula; holds = c.requires.0.holds; well = c.requires.0.well; quiet = finished-quiet _ c.requires.0.formula _ said c.requires.0.well c.requires.0.holds.fitting (c.in-Over.is ∙ ap next.Over c.in-Finished.is) }, c.choose-chosen.auto.spare ∙ c.requires.1, c.requires.2)

pub why_left-requires-in-OutOfRoom : goal.why_left-requires-in-OutOfRoom
why_left-requires-in-OutOfRoom c = let said = c.choose-chosen.ensures.next_value c.requires.0.formula c.requires.0.holds c.requires.0.well in (record { formula = c.requires.0.formula; holds = c.requires.0.holds; well = c.requires.0.well; quiet = roomless-quiet _ c.requires.0.formula _ said c.requires.0.well c.requires.0.holds.fitting (c.in-Over.is ∙ ap next.Over c.in-OutOfRoom.is) }, c.choose-chosen.auto.spare ∙ c.requires.1, c.requires.2)

pub returns-then-entry-le5 : goal.returns-then-entry-le5
returns-then-entry-le5 c = λ φ h w m. says-next _ φ _ (c.choose-chosen.ensures.next_value φ h w) w h.fitting _ c.in-Step.is c.if-entry-le5.true _

pub why_left-requires-in-Step : goal.why_left-requires-in-Step
why_left-requires-in-Step c = let said = c.choose-chosen.ensures.next_value c.requires.0.formula c.requires.0.holds c.requires.0.well in (record { formula = c.requires.0.formula; holds = c.requires.0.holds; well = c.requires.0.well; quiet = dear-quiet _ c.requires.0.formula _ said c.requires.0.well c.requires.0.holds.fitting _ c.in-Step.is c.if-entry-le5.false }, c.choose-chosen.auto.spare ∙ c.requires.1, c.requires.2)

pub returns-in-True : goal.returns-in-True
returns-in-True c = λ φ h w m. says-true _ φ _ (c.choose-chosen.ensures.next_value φ h w) (c.in-Over.is ∙ ap next.Over c.in-True.is) _

pub returns-in-False : goal.returns-in-False
returns-in-False c = λ φ h w m. says-false _ φ _ (c.choose-chosen.ensures.next_value φ h w) (c.in-Over.is ∙ ap next.Over c.in-False.is) _

pub returns-in-Finished : goal.returns-in-Finished
returns-in-Finished c = λ φ h w m. let q = finished-quiet _ φ _ (c.choose-chosen.ensures.next_value φ h w) w h.fitting (c.in-Over.is ∙ ap next.Over c.in-Finished.is) in says-left _ φ _ q _ (c.why_left.ensures φ h w q m)

pub returns-in-OutOfRoom : goal.returns-in-OutOfRoom
returns-in-OutOfRoom c = λ φ h w m. let q = roomless-quiet _ φ _ (c.choose-chosen.ensures.next_value φ h w) w h.fitting (c.in-Over.is ∙ ap next.Over c.in-OutOfRoom.is) in says-left _ φ _ q _ (c.why_left-in-OutOfRoom.ensures φ h w q m)

pub returns-else-entry-le5 : goal.returns-else-entry-le5
returns-else-entry-le5 c = λ φ h w m. let q = dear-quiet _ φ _ (c.choose-chosen.ensures.next_value φ h w) w h.fitting _ c.in-Step.is c.if-entry-le5.false in says-left _ φ _ q _ (c.why_left-in-Step.ensures φ h w q m)

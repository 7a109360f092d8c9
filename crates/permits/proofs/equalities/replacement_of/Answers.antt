-- By the places of the two variables.
-- Assumes nothing.
use mathlib.Core.Path.{refl}
use Rattle.permits.proofs.PlaceLaws.{entries-of}
use Rattle.permits.proofs.EqualLaws.{replace-l, replace-k}
use Rattle.permits.proofs.equalities.replacement_of.Goals as goal

pub returns-then-place_of : goal.returns-then-place_of
returns-then-place_of c = λ φ h w e n ok. let g = entries-of φ w h.fitting in replace-l φ w _ n ok _ _ (c.literal_at-k.ensures φ h) (c.literal_at-l.ensures φ h) _ _ (c.place_of.ensures φ.prefix e g) (c.place_of-2.ensures φ.prefix e g) _ _ c.if-place_of.true c.flip.ensures refl

pub returns : goal.returns
returns c = λ φ h w e n ok. let g = entries-of φ w h.fitting in replace-k φ w _ n ok _ _ (c.literal_at-k.ensures φ h) (c.literal_at-l.ensures φ h) _ _ (c.place_of.ensures φ.prefix e g) (c.place_of-2.ensures φ.prefix e g) _ _ c.if-place_of.false c.flip-2.ensures refl

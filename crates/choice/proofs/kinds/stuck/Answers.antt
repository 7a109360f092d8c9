-- By the two.
-- Assumes nothing.
use mathlib.Core.Path.{◌≡◌, refl, sym, ◌∙◌}
use mathlib.Core.Bool.{Bool, true, false}
use Rattle.rules.specs.Run.{next_of}
use Rattle.choice.specs.Chosen.{end_as, next_as, stuck_as, lack_of}
use Rattle.choice.specs.declared.Lack.TheVariants as lack
use Rattle.choice.proofs.kinds.stuck.Goals as goal

no-room : (b : Bool) → lack.Steps ≡ lack_of b → b ≡ false
unfolding lack_of
no-room true h = cc
no-room false h = refl

for-room : (b : Bool) → lack.Room ≡ lack_of b → b ≡ true
unfolding lack_of
for-room true h = refl
for-room false h = cc

pub returns-in-Steps-Steps : goal.returns-in-Steps-Steps
unfolding stuck_as next_of next_as end_as
returns-in-Steps-Steps c = λ room too d e. rw (no-room room (sym c.in-Steps-Steps.is-0 ∙ d), no-room too (sym c.in-Steps-Steps.is-1 ∙ e))

pub returns-in_default : goal.returns-in_default
unfolding stuck_as next_of next_as end_as
returns-in_default c = λ room too d e. rw (no-room room (sym c.in_default.is-0 ∙ d), for-room too (sym c.in_default.is-1 ∙ e))

pub returns-in_default-2 : goal.returns-in_default-2
unfolding stuck_as next_of next_as end_as
returns-in_default-2 c = λ room too d e. rw (for-room room (sym c.in_default.is-0 ∙ d))

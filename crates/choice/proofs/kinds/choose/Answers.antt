-- What is known of the formula in the table is known of each that it holds.
-- Assumes nothing.
use Rattle.choice.proofs.HandLaws.{searched-held}
use Rattle.choice.proofs.kinds.choose.Goals as goal

pub returns-clause-next_value : goal.returns-clause-next_value
returns-clause-next_value c = λ φ h w. (c.decide-r.ensures φ h w (searched-held c.requires.0 h)).next

pub returns-clause-searched_to : goal.returns-clause-searched_to
returns-clause-searched_to c = λ φ i a b h w e. rw e at (c.decide-r.ensures φ h w (searched-held c.requires.0 h)).searched

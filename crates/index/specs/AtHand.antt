-- What is at hand, as a whole.
-- Assumes nothing.
use Rattle.meaning.specs.Formula.{Formula}
use Rattle.index.specs.Study.{Studied}
use Rattle.index.specs.declared.at_hand.AtHand.{AtHand}

-- it is that of the formula φ
abbrev pub InHand : Formula → AtHand → Type 0
InHand φ h = Studied φ h.table.now h.counts h.ranks.now h.index.now

-- By whether it may be expanded.
-- Assumes nothing.
use mathlib.Core.Path.{sym, ◌∙◌}
use Rattle.meaning.proofs.Prefix.{forall-mentioned}
use Rattle.choice.proofs.TurnLaws.{ranked-held}
use Rattle.reasoning.proofs.StepLaws.{between_is}
use Rattle.reasoning.proofs.looking.why_universal.Goals as goal

pub expand_permitted-requires : goal.expand_permitted-requires
expand_permitted-requires c = record { held = ranked-held c.requires.0 }

pub why_expand-requires-clause-ranked : goal.why_expand-requires-clause-ranked
why_expand-requires-clause-ranked c = c.requires

pub why_expand-requires-clause-u_value : goal.why_expand-requires-clause-u_value
why_expand-requires-clause-u_value c = λ φ g. sym (c.expand_permitted.ensures φ g.holds g.well g.ranked) ∙ c.if-expand_permitted.true

pub returns-then-expand_permitted : goal.returns-then-expand_permitted
returns-then-expand_permitted c = λ φ g q h. c.why_expand.ensures φ g

pub existential_after-e-requires : goal.existential_after-e-requires
existential_after-e-requires c = record { held = ranked-held c.requires.0 }

pub universal_after-requires : goal.universal_after-requires
universal_after-requires c = record { held = ranked-held c.requires.0 }

pub returns : goal.returns
returns c = λ φ g q h. between_is _ φ _ g.well _ (c.expand_permitted.ensures φ g.holds g.well g.ranked) c.if-expand_permitted.false q h _ _ (c.existential_after-e.ensures φ g.holds g.well g.ranked (forall-mentioned φ.prefix _ h)) (c.universal_after.ensures φ g.holds g.well g.ranked)

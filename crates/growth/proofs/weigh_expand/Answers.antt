-- By whether there is a variable, then by whether the step is permitted.
-- Assumes nothing.
use mathlib.Core.Path.{◌∙◌, sym}
use Rattle.growth.proofs.ExpandWeight.{step-none, step-not, step_is}
use Rattle.growth.proofs.weigh_expand.Goals as goal

pub returns-then-c-eq0 : goal.returns-then-c-eq0
returns-then-c-eq0 c = λ φ h w e none. step-none h w _ _ c.if-c-eq0.true

pub weigh_expanded-requires : goal.weigh_expanded-requires
weigh_expanded-requires c = c.expanded_counts.ensures.summable

pub returns-then-expand_permitted : goal.returns-then-expand_permitted
returns-then-expand_permitted c =
    λ φ h w e none. let s = c.expand_permitted.ensures φ h w e in
    step_is h w _ _ _ s c.if-expand_permitted.true _ (c.expanded_counts.ensures.value φ h w e none (sym s ∙ c.if-expand_permitted.true)) _ c.weigh_expanded.ensures

pub returns : goal.returns
returns c = λ φ h w e none. step-not h w _ _ _ (c.expand_permitted.ensures φ h w e) c.if-expand_permitted.false

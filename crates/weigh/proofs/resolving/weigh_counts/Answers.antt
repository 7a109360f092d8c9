-- Assumes nothing.
use Rattle.weigh.proofs.ResolvWeigh.{weighed-over, weighed-clauses, weighed-literals, weighed-fitting}
use Rattle.weigh.proofs.resolving.weigh_counts.Goals as goal

pub returns-then-below-w : goal.returns-then-below-w
returns-then-below-w c = λ ψ e s. weighed-over ψ _ e _ _ (c.weight_of-w.ensures.weighed ψ e) c.if-below-w.true

pub returns-then-d-gt-CLAUSES : goal.returns-then-d-gt-CLAUSES
returns-then-d-gt-CLAUSES c = λ ψ e s. weighed-clauses ψ _ e _ _ (c.weight_of-w.ensures.weighed ψ e) c.if-below-w.false c.if-d-gt-CLAUSES.true

pub returns-then-d-gt-LITERALS : goal.returns-then-d-gt-LITERALS
returns-then-d-gt-LITERALS c = λ ψ e s. weighed-literals ψ _ e _ _ (c.weight_of-w.ensures.weighed ψ e) c.if-below-w.false c.if-d-gt-LITERALS.true

pub returns : goal.returns
returns c =
    λ ψ e s. weighed-fitting ψ _ e _ _ (c.weight_of-w.ensures.weighed ψ e) c.if-below-w.false s c.requires.0
    c.if-d-gt-CLAUSES.false c.if-d-gt-LITERALS.false

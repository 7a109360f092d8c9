-- The pairs of an earlier positive clause have the literal in one of their clauses; those of the same one are tried apart.
-- Assumes nothing.
use Rattle.index.proofs.ReadLaws.{study-in}
use Rattle.table.proofs.HoldLaws.{count-clauses}
use Rattle.index.proofs.ReadLaws.{studied-indexes, study-indexed}
use Rattle.sides.proofs.FileLaws.{filed-of, clause-ordered}
use Rattle.sides.proofs.SideLaws.{rarest-has}
use Rattle.earlier.proofs.EarlierLaws.{earlier-first, earlier-second, earlier-third}
use Rattle.earlier.proofs.earlier.is_made_earlier.Goals as goal

pub rarest-literal-requires-clause-indexed : goal.rarest-literal-requires-clause-indexed
rarest-literal-requires-clause-indexed c = study-indexed (study-in c.args.at.now.studied)

pub returns-then-any_partnered : goal.returns-then-any_partnered
returns-then-any_partnered c =
    λ φ g. let is = rarest-has φ.clauses _ c.requires.nonempty _ (c.rarest-literal.ensures φ (studied-indexes g)) in
    earlier-first φ c.args.a _ _ _ _ _ is (count-clauses g.holds) _ (c.any_partnered.ensures φ g) c.if-any_partnered.true

pub returns-then-any_partnered-2 : goal.returns-then-any_partnered-2
returns-then-any_partnered-2 c =
    λ φ g. let is = rarest-has φ.clauses _ c.requires.nonempty _ (c.rarest-literal.ensures φ (studied-indexes g)) in
    earlier-second φ c.args.a _ _ _ _ _ is (count-clauses g.holds) _ (c.any_partnered.ensures φ g) c.if-any_partnered.false _ (c.any_partnered-2.ensures φ g) c.if-any_partnered-2.true

pub has_partner-requires-clause-ordered : goal.has_partner-requires-clause-ordered
has_partner-requires-clause-ordered c =
    rw (c.clause_at-x.ensures (study-in c.args.at.now.studied).formula (study-in c.args.at.now.studied).studied.holds) (clause-ordered (filed-of (study-in c.args.at.now.studied).studied) _)

pub returns : goal.returns
returns c =
    λ φ g. let is = rarest-has φ.clauses _ c.requires.nonempty _ (c.rarest-literal.ensures φ (studied-indexes g)) in
    earlier-third φ c.args.a _ _ _ _ _ is (count-clauses g.holds) _ (c.any_partnered.ensures φ g) c.if-any_partnered.false _ (c.any_partnered-2.ensures φ g) c.if-any_partnered-2.false _
    (c.clause_at-x.ensures φ g.holds) _ (c.has_partner.ensures φ g)

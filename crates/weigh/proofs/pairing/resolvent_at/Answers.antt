-- The two clauses are those of the pair, and the old ranks serve for what does not have the variable.
-- Assumes nothing.
use Rattle.index.proofs.ReadLaws.{study-in}
use mathlib.Core.Path.{◌∙◌}
use Rattle.meaning.proofs.Parts.{good_of}
use Rattle.index.proofs.ReadLaws.{studied-indexes}
use Rattle.sides.proofs.FileLaws.{filed-of, side-ordered}
use Rattle.weigh.proofs.ResolvFile.{positive-there, negative-there, positive-is, negative-is}
use Rattle.weigh.proofs.ResolvResult.{pair_made}
use Rattle.weigh.proofs.pairing.resolvent_at.Goals as goal

pub clause_with-x-requires : goal.clause_with-x-requires
clause_with-x-requires c = λ φ h. positive-there φ c.args.a c.args.p (c.requires.pair φ h)

pub clause_with-y-requires : goal.clause_with-y-requires
clause_with-y-requires c = λ φ h. negative-there φ c.args.a c.args.p (c.requires.pair φ h)

pub resolve_pair-requires-clause-ordered : goal.resolve_pair-requires-clause-ordered
resolve_pair-requires-clause-ordered c =
    let f = filed-of (study-in c.args.at.now.studied).studied in (
      rw (c.clause_with-x.ensures (study-in c.args.at.now.studied).formula f) (side-ordered f _ c.args.p.row),
      rw (c.clause_with-y.ensures (study-in c.args.at.now.studied).formula f) (side-ordered f _ c.args.p.column),
    )

pub returns-clause-tidied : goal.returns-clause-tidied
returns-clause-tidied c = λ φ g. let f = filed-of g in let k = c.requires.pair φ (studied-indexes g) in
    c.resolve_pair.ensures.tidied φ.prefix (good_of φ g.well) g.ranked
    ∙ pair_made φ g.well c.args.a c.args.p.number k.there _ _
    (c.clause_with-x.ensures φ f ∙ positive-is φ c.args.a c.args.p k)
    (c.clause_with-y.ensures φ f ∙ negative-is φ c.args.a c.args.p k)

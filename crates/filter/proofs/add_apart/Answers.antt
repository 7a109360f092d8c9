-- By whether the clause's stamp is there.
-- Assumes nothing.
use Rattle.table.proofs.AnswerLaws.{add-new}
use Rattle.filter.proofs.ApartLaws.{apart-new}
use Rattle.filter.proofs.add_apart.Goals as goal

pub returns-then-has_stamp : goal.returns-then-has_stamp
returns-then-has_stamp c = λ φ others h k out. c.add_clause.ensures φ h

pub returns : goal.returns
returns c = λ φ others h k out. add-new h _ _ _ (apart-new h k _ out _ c.has_stamp.ensures c.if-has_stamp.false) (c.push_clause.ensures φ h)

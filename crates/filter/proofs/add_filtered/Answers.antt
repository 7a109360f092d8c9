-- By whether the clause's stamp was there.
-- Assumes nothing.
use Rattle.table.proofs.AnswerLaws.{add-new}
use Rattle.filter.proofs.FilterLaws.{covers_new, covers_more}
use Rattle.filter.proofs.add_filtered.Goals as goal

pub returns-then-stamp-clause-became : goal.returns-then-stamp-clause-became
returns-then-stamp-clause-became c = c.add_clause.ensures

pub returns-then-stamp-clause-covers_2 : goal.returns-then-stamp-clause-covers_2
returns-then-stamp-clause-covers_2 c = covers_more c.requires.held.holds c.requires.covers _ _ _ _ _ (c.add_clause.ensures _ c.requires.held.holds) c.stamp.ensures.filter_after

pub returns-clause-became : goal.returns-clause-became
returns-clause-became c = λ φ k. add-new k _ _ _ (covers_new k c.requires.covers _ _ c.stamp.ensures.value c.if-stamp.false) (c.push_clause.ensures φ k)

pub returns-clause-covers_2 : goal.returns-clause-covers_2
returns-clause-covers_2 c = covers_more c.requires.held.holds c.requires.covers _ _ _ _ _ (add-new c.requires.held.holds _ _ _ (covers_new c.requires.held.holds c.requires.covers _ _ c.stamp.ensures.value c.if-stamp.false) (c.push_clause.ensures _ c.requires.held.holds)) c.stamp.ensures.filter_after

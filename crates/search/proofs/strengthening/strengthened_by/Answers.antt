-- The lowest of the clauses with the rarest variable.
-- Assumes nothing.
use mathlib.Core.Path.{sym, ◌∙◌}
use Rattle.index.proofs.ReadLaws.{studied-indexes, study-indexed, study-in}
use Rattle.search.proofs.PrefixLaws.{mentions-in}
use Rattle.table.proofs.HoldLaws.{held}
use Rattle.search.proofs.StrengthenLaws.{strong-empty, strong-nothing, strong-found}
use Rattle.search.proofs.strengthening.strengthened_by.Goals as goal

pub clause_at-x-requires-clause-held : goal.clause_at-x-requires-clause-held
clause_at-x-requires-clause-held c = held c.args.at.now.studied.holds

pub clause_at-x-requires-clause-i_lt_clauses : goal.clause_at-x-requires-clause-i_lt_clauses
clause_at-x-requires-clause-i_lt_clauses c = c.requires.a_lt_clauses

pub returns-in_err-v : goal.returns-in_err-v
returns-in_err-v c = λ φ d. c.from_residual.ensures ∙ strong-empty d.holds _ _ (c.clause_at-x.ensures φ d.holds) c.in_err-v.ensures

pub signatures-signs-requires : goal.signatures-signs-requires
signatures-signs-requires c = study-indexed (study-in c.args.at.now.studied)

pub rarest_by_variable-requires : goal.rarest_by_variable-requires
rarest_by_variable-requires c = record { indexed = study-indexed (study-in c.args.at.now.studied) }

pub clauses_of-requires : goal.clauses_of-requires
clauses_of-requires c = study-indexed (study-in c.args.at.now.studied)

pub returns-in_err-b : goal.returns-in_err-b
returns-in_err-b c =
    λ φ d. let h = d.holds in
    let i = studied-indexes d in
    let e = c.clause_at-x.ensures φ h in
    c.from_residual-in_err-b.ensures ∙ strong-nothing h _ _ e _ (mentions-in _ _ c.in_ok-v.ensures) _ (c.clauses_of.ensures φ i)
    (sym c.in_err-b.was
    ∙ c.lowest_among.ensures φ d
    (record { is = e; own = c.signature-sign.ensures; all = c.signatures-signs.ensures φ i }))

pub returns : goal.returns
returns c =
    λ φ d. let h = d.holds in
    let i = studied-indexes d in
    let e = c.clause_at-x.ensures φ h in
    strong-found h _ _ e _ (mentions-in _ _ c.in_ok-v.ensures) _ (c.clauses_of.ensures φ i) _
    (sym c.in_ok-b.was
    ∙ c.lowest_among.ensures φ d
    (record { is = e; own = c.signature-sign.ensures; all = c.signatures-signs.ensures φ i }))

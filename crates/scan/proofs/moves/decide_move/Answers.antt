use Rattle.qdimacs.specs.Decide.{decide}
use Rattle.scan.specs.Phases.{right_phase}
use mathlib.Core.Path.{◌∙◌, subst}
use Rattle.scan.proofs.moves.decide_move.Goals as goal

pub on_variable-requires : goal.on_variable-requires
on_variable-requires c = (subst right_phase c.in-Open.is c.requires.0, c.requires.1)

pub on_variable-requires-in-Vars : goal.on_variable-requires-in-Vars
on_variable-requires-in-Vars c = (subst right_phase c.in-Vars.is c.requires.0, c.requires.1)

pub returns-in-AtP : goal.returns-in-AtP
unfolding decide
returns-in-AtP c = c.on_p.ensures ∙ rw c.in-AtP.is

pub returns-in-AtCnf : goal.returns-in-AtCnf
unfolding decide
returns-in-AtCnf c = c.on_cnf.ensures ∙ rw c.in-AtCnf.is

pub returns-in-AtM : goal.returns-in-AtM
unfolding decide
returns-in-AtM c = c.on_m.ensures ∙ rw c.in-AtM.is

pub returns-in-AtC : goal.returns-in-AtC
unfolding decide
returns-in-AtC c = c.on_c.ensures ∙ rw c.in-AtC.is

pub returns-in-Line : goal.returns-in-Line
unfolding decide
returns-in-Line c = c.on_line.ensures ∙ rw c.in-Line.is

pub returns-in-Open : goal.returns-in-Open
unfolding decide
returns-in-Open c = c.on_variable.ensures ∙ rw c.in-Open.is

pub returns-in-Vars : goal.returns-in-Vars
unfolding decide
returns-in-Vars c = c.on_variable-in-Vars.ensures ∙ rw c.in-Vars.is

pub returns-in-Clause : goal.returns-in-Clause
unfolding decide
returns-in-Clause c = c.on_literal.ensures ∙ rw c.in-Clause.is

pub returns-in-Full : goal.returns-in-Full
unfolding decide
returns-in-Full c = rw c.in-Full.is

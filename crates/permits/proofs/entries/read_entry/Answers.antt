-- By the kind that the entry's top bits give.
-- Assumes nothing.
use mathlib.Core.Path.{refl}
use Rattle.rules.specs.Entry.{unit, pure, subsume, strengthen, equality, resolve, expand, code, uses_b}
use Rattle.permits.specs.Calls.{called, call_read}
use Rattle.permits.proofs.CallLaws.{read_low, read-pair, read-alone, read_none}
use borrow.Author.Rules.{rules}
use Rattle.permits.proofs.entries.read_entry.Goals as goal

pub returns-then-e-ne0 : goal.returns-then-e-ne0
returns-then-e-ne0 c = read_low _ c.if-e-ne0.true

pub returns-in-1 : goal.returns-in-1
unfolding called call_read code uses_b
returns-in-1 c = read-alone unit _ c.if-e-ne0.false c.in-1.is refl _ refl _ c.alone.ensures

pub returns-in-2 : goal.returns-in-2
unfolding called call_read code uses_b
returns-in-2 c = read-alone pure _ c.if-e-ne0.false c.in-2.is refl _ refl _ c.alone-in-2.ensures

pub returns-in-3 : goal.returns-in-3
unfolding called call_read code uses_b
returns-in-3 c = read-pair subsume _ c.if-e-ne0.false c.in-3.is refl

pub returns-in-4 : goal.returns-in-4
unfolding called call_read code uses_b
returns-in-4 c = read-pair strengthen _ c.if-e-ne0.false c.in-4.is refl

pub returns-in-5 : goal.returns-in-5
unfolding called call_read code uses_b
returns-in-5 c = read-pair equality _ c.if-e-ne0.false c.in-5.is refl

pub returns-in-6 : goal.returns-in-6
unfolding called call_read code uses_b
returns-in-6 c = read-alone resolve _ c.if-e-ne0.false c.in-6.is refl _ refl _ c.alone-in-6.ensures

pub returns-in-7 : goal.returns-in-7
unfolding called call_read code uses_b
returns-in-7 c = read-alone expand _ c.if-e-ne0.false c.in-7.is refl _ refl _ c.alone-in-7.ensures

pub returns-in_default : goal.returns-in_default
returns-in_default c = read_none _ (search rules) (search rules) (search rules) (search rules) (search rules) (search rules) (search rules)

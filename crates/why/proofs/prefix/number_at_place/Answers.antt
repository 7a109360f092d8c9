-- In the first or in the second table; past the part for the prefix, 0.
-- Assumes nothing.
use mathlib.Core.Path.{◌∙◌}
use native.Mathlib.Omega.{arith}
use Rattle.why.proofs.PlaceLaws.{place-past, place-second, place-first}
use Rattle.why.proofs.prefix.number_at_place.Goals as goal

pub returns-then-i-gt1022 : goal.returns-then-i-gt1022
returns-then-i-gt1022 c = place-past c.args.first.now c.args.second.now c.args.c c.args.i c.if-i-gt1022.true

pub returns-then-c : goal.returns-then-c
returns-then-c c = c.from.ensures ∙ place-second c.args.first.now c.args.second.now c.args.c c.args.i (omega arith) c.if-c.true

pub returns : goal.returns
returns c = c.from-2.ensures ∙ place-first c.args.first.now c.args.second.now c.args.c c.args.i (omega arith) c.if-c.false

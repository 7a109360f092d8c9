use mathlib.Core.Path.{sym}
use native.Mathlib.Omega.{arith}
use Rattle.scan.proofs.Spans.{not-blank, cr-or-space, tab-or-lf}
use Rattle.scan.proofs.bytes.blank.Goals as goal

pub returns-in_default : goal.returns-in_default
returns-in_default c = sym (not-blank _ (omega arith) (omega arith) (omega arith) (omega arith))

pub returns-in_default-2 : goal.returns-in_default-2
returns-in_default-2 c = sym (not-blank _ (grind arith) (omega arith) (grind arith) (omega arith))

pub returns-in-9 : goal.returns-in-9
returns-in-9 c = sym (cr-or-space _ c.in-9.is)

pub returns-in-9-2 : goal.returns-in-9-2
returns-in-9-2 c = sym (tab-or-lf _ (omega arith) (omega arith))

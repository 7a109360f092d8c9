-- The step that a call of the code names, and what was read from an entry: none where it is bad.
-- Assumes nothing.
use Rattle.std.specs.Prelude.{Option, Some, None}
use Rattle.rules.specs.Entry as rules
use Rattle.rules.specs.Entry.{unit, pure, subsume, strengthen, equality, resolve, expand, bad, call}
use Rattle.permits.specs.declared.Call.{Call}
use Rattle.permits.specs.declared.Call.TheVariants.{Unit, Pure, Subsume, Strengthen, Equality, Resolve, Expand}

unfoldable pub called : Call → rules.Call
called (Unit a) = call unit a 0
called (Pure a) = call pure a 0
called (Subsume a b) = call subsume a b
called (Strengthen a b) = call strengthen a b
called (Equality a b) = call equality a b
called (Resolve a) = call resolve a 0
called (Expand a) = call expand a 0

unfoldable pub call_read : Option Call → rules.Call
call_read None = bad
call_read (Some x) = called x

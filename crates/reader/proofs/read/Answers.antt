-- Refused for a length; else both tables are zeroed, the first is filled, or zeroed again, and the second is zeroed again.
-- Assumes nothing.
use mathlib.Core.Path.{refl}
use Rattle.reader.proofs.ReadLaws.{starts, wrong_first, wrong_second, wrong-text, right-lengths, reads_nothing, reads-fault, reads-formula}
use Rattle.reader.proofs.read.Goals.{then-first-ne-TABLE-via-then-first-ne-TABLE, then-first-ne-TABLE-via-else-first-ne-TABLE+then-second-ne-TABLE, then-first-ne-TABLE-via-else-first-ne-TABLE+else-second-ne-TABLE+then-text-gt65536}
use Rattle.reader.proofs.read.Goals as goal

pub returns-then-first-ne-TABLE : goal.returns-then-first-ne-TABLE
returns-then-first-ne-TABLE c =
    reads_nothing _ _ _ (elim c.then-first-ne-TABLE.branch [
      | then-first-ne-TABLE-via-then-first-ne-TABLE w ↦ wrong_first _ _ _ w.if-first-ne-TABLE.true
      | then-first-ne-TABLE-via-else-first-ne-TABLE+then-second-ne-TABLE w ↦ wrong_second _ _ _ w.if-second-ne-TABLE.true
      | then-first-ne-TABLE-via-else-first-ne-TABLE+else-second-ne-TABLE+then-text-gt65536 w ↦ wrong-text _ _ _ w.if-text-gt65536.true
    ]) _ c.refuse.ensures

pub fill-outcome-requires-clause-text_len_bound : goal.fill-outcome-requires-clause-text_len_bound
fill-outcome-requires-clause-text_len_bound c = c.if-text-gt65536.false

pub fill-outcome-requires-clause-tracks : goal.fill-outcome-requires-clause-tracks
fill-outcome-requires-clause-tracks c = starts _ _ c.zero.ensures c.zero-2.ensures

pub returns-in-Ok : goal.returns-in-Ok
returns-in-Ok c =
    let lengths = right-lengths _ _ _ c.if-first-ne-TABLE.false c.if-second-ne-TABLE.false c.if-text-gt65536.false in
    reads-formula _ _ _ lengths _ _ c.fill-outcome.ensures _ c.zero-3.ensures _ c.in-Ok.is _ refl

pub returns-in-Err : goal.returns-in-Err
returns-in-Err c =
    let lengths = right-lengths _ _ _ c.if-first-ne-TABLE.false c.if-second-ne-TABLE.false c.if-text-gt65536.false in
    reads-fault _ _ _ lengths _ _ c.fill-outcome.ensures _ c.zero-3.ensures _ c.in-Err.is
    _ c.zero-in-Err.ensures _ c.refuse-in-Err.ensures

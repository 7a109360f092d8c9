-- A chain over the literals.
-- Assumes nothing.
use Prim.Native.Nat.{◌<◌}
use Rattle.std.proofs.Common.{◌∙◌, sym, rules, tests}
use Rattle.std.proofs.lemmas.Iterator.Adapters.{serves_from_places}
use Rattle.std.proofs.lemmas.Iterator.{YieldsList-from_slice}
use Rattle.std.proofs.lemmas.Iterator.Search.{all_from_yields_List}
use Rattle.table.specs.Ranks.{stays_by}
use Rattle.meaning.proofs.StdLists.{all_of-std}
use Rattle.table.proofs.StayLaws.{small_item}
use Rattle.table.proofs.reduce.all_stay_by.Goals as goal

pub all-requires : goal.all-requires
all-requires c = record { can = tt; finite = tt; callable = serves_from_places (YieldsList-from_slice c.args.clause.now cc) (λ x q k. search (rules, tests)) (λ x k n e. let h : x.now < 2048 = small_item _ k _ c.requires n e in search rules) }

pub returns : goal.returns
returns c = all_from_yields_List (stays_by c.args.ranks.now c.args.last) _ _ _ c.all.ensures.ran (YieldsList-from_slice c.args.clause.now cc) (λ x b q k. search (rules, tests)) ∙ sym (all_of-std _ _)

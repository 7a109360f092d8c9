-- What a step starts from is what a rebuild asks for.
-- Assumes nothing.
use Prim.Native.Nat.{ℕ}
use mathlib.Core.Path.{◌≡◌, ap, ◌∙◌}
use mathlib.Core.Bool.{true}
use mathlib.Core.List.{List}
use lib.ListN.{length}
use Rattle.meaning.specs.Formula.{Formula}
use Rattle.meaning.specs.WellFormed.{well_formed}
use Rattle.table.specs.Table.{table_of, empty_formula, decode, Held}
use Rattle.table.specs.declared.Counts.{Counts}
use Rattle.recipes.specs.Recipe.{Ready}
use Rattle.recipes.specs.Left.{about}
use Rattle.rebuilds.specs.Given.{Given, Begun}
use Rattle.recipes.specs.declared.Turn.{Turn}
use Rattle.table.proofs.HoldLaws.{held}
use Rattle.table.proofs.DecodeLaws.{decode-holds}
use Rattle.table.proofs.RankLaws.{length-ranks}
use Rattle.permits.proofs.PlaceLaws.{entries-of}

module _ {source : List ℕ} {c : Counts} {target scratch ranks : List ℕ} (b : Begun source c target scratch ranks) where
  pub begun-held : Held source c
  begun-held = held b.given.holds

  pub begun-well : well_formed (decode source c) ≡ true
  begun-well = ap well_formed (decode-holds b.formula source c b.given.holds) ∙ b.given.well

  pub begun-ranks : length ranks ≡ 1024
  begun-ranks = ap length b.given.ranked ∙ length-ranks b.formula.prefix

  pub begun-rebuild : (t : Turn) (v : ℕ) → about t v ≡ true → Held source c × (((well_formed (decode source c) ≡ true) × (about t v ≡ true)) × ((target ≡ table_of empty_formula) × ((length scratch ≡ 1023) × (length ranks ≡ 1024))))
  begun-rebuild t v a = (begun-held, ((begun-well, a), (b.empty, (b.room, begun-ranks))))

-- the ranks are those of the formula's prefix
pub given-ready : {φ : Formula} {source : List ℕ} {c : Counts} {ranks : List ℕ} → Given φ source c ranks → Ready φ.prefix ranks
given-ready {φ} {source} {c} {ranks} g = record { good = entries-of φ g.well g.holds.fitting; ranked = g.ranked }

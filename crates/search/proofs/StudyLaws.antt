-- What is at hand while a step is chosen.
-- Assumes nothing.
use Prim.Native.Nat.{ℕ, ◌<◌}
use mathlib.Core.Path.{◌≡◌, ap, ◌∙◌}
use mathlib.Core.Bool.{true}
use mathlib.Core.List.{List, []}
use lib.ListN.{get_or}
use Rattle.meaning.specs.Formula.{Formula}
use Rattle.meaning.specs.WellFormed.{ascends, well_formed}
use Rattle.rules.specs.Simplify.{clause_at}
use Rattle.table.specs.Table.{Holds, decode}
use Rattle.table.specs.declared.Counts.{Counts}
use Rattle.index.specs.Study.{Studied, Study}
use Rattle.meaning.proofs.Parts.{ascends-of}
use Rattle.rules.proofs.Permitted.{tidy-at}
use Rattle.table.proofs.DecodeLaws.{decode-holds}
use Rattle.permits.proofs.ClauseLaws.{present}

module _ {t : List ℕ} {c : Counts} {ranks index : List ℕ} (s : Study t c ranks index) where
  -- the formula is that of the table
  pub studied-in : Studied (decode t c) t c ranks index
  studied-in = rw (decode-holds s.formula t c s.studied.holds) s.studied

-- the variables of its clauses ascend
pub clause-rises : {φ : Formula} {t : List ℕ} {c : Counts} → Holds φ t c → well_formed φ ≡ true
    → (a : ℕ) → a < c.clauses → (x : List ℕ) → x ≡ get_or φ.clauses a [] → ascends x ≡ true
unfolding clause_at
clause-rises {φ} {t} {c} h w a k x e =
    ap ascends e ∙ ascends-of φ.prefix (clause_at φ.clauses a) (tidy-at φ w a (present h a k))

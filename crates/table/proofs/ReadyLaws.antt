-- What is ready stays ready, whatever is answered; and what else callers ask for.
-- Assumes nothing.
use Prim.Native.Nat.{ℕ, ◌<◌}
use mathlib.Core.Path.{◌≡◌, refl, ap, ◌∙◌}
use mathlib.Core.Bool.{Bool, true, false}
use mathlib.Core.List.{List, [], ◌∷◌, ◌++◌}
use lib.ListN.{length}
use native.Mathlib.Omega.{arith}
use Rattle.meaning.specs.Lists.{all_of}
use Rattle.meaning.specs.Formula.{Formula, var, mentions}
use Rattle.meaning.specs.WellFormed.{good_prefix}
use Rattle.table.specs.Table.{table_of, counts_of, empty_formula, with_raw, with_variable, Held}
use Rattle.table.specs.Answer.{Became}
use Rattle.table.specs.Ranks.{ranks_of, rankable, good_entries, small, Ranked}
use Rattle.table.specs.Pending.{Pended}
use Rattle.table.specs.Ready.{Ready}
use Rattle.table.specs.declared.Counts.{Counts}
use Rattle.std.specs.Prelude.{Option, Some, None}
use Rattle.meaning.proofs.Parts.{room_of}
use Rattle.meaning.proofs.Prefix.{good-snoc}
use Rattle.table.proofs.HoldLaws.{held, count-variables, empty_holds}
use Rattle.table.proofs.RankLaws.{length-ranks, rankable-is}
use Rattle.table.proofs.StayLaws.{small-below}
use Rattle.table.proofs.PendingLaws.{pended, pends-empty}
use Rattle.table.proofs.AnswerLaws.{became-done, became-fits, became-left, variables-more}

pub ready-empty : (t ranks : List ℕ) (c : Counts) (b : Bool) → t ≡ table_of empty_formula → c ≡ counts_of empty_formula b → ranks ≡ ranks_of [] → Ready t ranks c
unfolding empty_formula good_prefix
ready-empty t ranks c b e q r = record { formula = empty_formula; holds = empty_holds t c b e q; good = refl; ranked = r }

module _ {t ranks : List ℕ} {c : Counts} (a : Ready t ranks c) where
  pub ready_held : Held t c
  ready_held = held a.holds

  pub ready-ranks : length ranks ≡ 1024
  ready-ranks = ap length a.ranked ∙ length-ranks a.formula.prefix

  -- an answer that leaves the table as it was
  pub ready-full : (ψ : Formula) (s : Bool) (r : Option Counts) (t' : List ℕ) → Became a.formula ψ s r t' → r ≡ None → Ready t' ranks c
  ready-full ψ s r t' b e =
      record {
        formula = a.formula;
        holds = record { table = became-left a.formula ψ s r t' b e; counts = a.holds.counts; fitting = a.holds.fitting };
        good = a.good;
        ranked = a.ranked;
      }

  -- a raw clause more
  pub ready-raw : (raw : List ℕ) (s : Bool) (r : Option Counts) (t' : List ℕ) → Became a.formula (with_raw a.formula raw) s r t' → (d : Counts) → r ≡ Some d → Ready t' ranks d
  unfolding with_raw
  ready-raw raw s r t' b d e =
      record {
        formula = with_raw a.formula raw;
        holds = became-done a.formula (with_raw a.formula raw) s r t' b d e;
        good = a.good;
        ranked = a.ranked;
      }

  -- a variable more
  module _ (q : ℕ) (new : rankable a.formula.prefix q ≡ true) where
    pub ready-new : mentions a.formula.prefix (var q) ≡ false
    ready-new = (rankable-is a.formula.prefix q new).2

    module _ (s : Bool) (r : Option Counts) (t' : List ℕ) (b : Became a.formula (with_variable a.formula q) s r t') (d : Counts) (e : r ≡ Some d) where
      pub ready-room : c.variables < 1023
      ready-room =
          omega (arith, count-variables a.holds, variables-more a.formula q, (room_of (with_variable a.formula q) (became-fits a.formula (with_variable a.formula q) s r t' b d e)).variables)

      pub ready-variable : (ranks' : List ℕ) → ranks' ≡ ranks_of (a.formula.prefix ++ (q ∷ [])) → Ready t' ranks' d
      unfolding with_variable
      ready-variable ranks' k =
          record {
            formula = with_variable a.formula q;
            holds = became-done a.formula (with_variable a.formula q) s r t' b d e;
            good = good-snoc a.formula.prefix q a.good (rankable-is a.formula.prefix q new).0 ready-new;
            ranked = k;
          }

-- the ranks of no prefix
pub ranked-none : (r : Bool) (ranks : List ℕ) → Ranked [] r ranks → ranks ≡ ranks_of []
unfolding good_entries good_prefix all_of
ranked-none r ranks h = h.table h.answer

pub rankable-small : (p : List ℕ) (q : ℕ) → rankable p q ≡ true → q < 2048
rankable-small p q h = small-below q (unfold small in (rankable-is p q h).1)

pub pended-empty : (s : List ℕ) → length s ≡ 1023 → Pended s (Some 0)
pended-empty s e = pended (pends-empty s e)

-- a table that something was to be added to
module _ {t : List ℕ} {c : Counts} (h : Held t c) (ψ : Formula) (s : Bool) (r : Option Counts) (t' : List ℕ) (b : Became h.formula ψ s r t') where
  pub held-done : (d : Counts) → r ≡ Some d → Held t' d
  held-done d e = held (became-done h.formula ψ s r t' b d e)

  pub held-full : r ≡ None → Held t' c
  held-full e =
      held (record { table = became-left h.formula ψ s r t' b e; counts = h.holds.counts; fitting = h.holds.fitting })

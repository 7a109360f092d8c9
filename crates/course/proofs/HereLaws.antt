-- A formula that stands on one side of two lent tables, while a run or a replay goes on.
-- Assumes nothing.
use Prim.Native.Nat.{ℕ}
use mathlib.Core.Path.{◌≡◌, refl, sym, ap, ◌∙◌}
use mathlib.Core.Bool.{Bool, true, false, not, cond}
use mathlib.Core.List.{List}
use lib.ListN.{length}
use Rattle.meaning.specs.Formula.{Formula}
use Rattle.meaning.specs.WellFormed.{fits}
use Rattle.rules.specs.Step.{Refusal, refused, stepped, step_of}
use Rattle.rules.proofs.Kept.{Kept, step_kept}
use Rattle.table.specs.Table.{table_of, counts_of, empty_formula, Holds}
use Rattle.table.specs.Lent.{named}
use Rattle.table.specs.declared.Counts.{Counts}
use Rattle.table.proofs.HoldLaws.{empty_holds, held, bounds}
use Rattle.apply.specs.Applied.{Lends, Lent, Stands, Moves, formula_after, side_after}
use Rattle.std.specs.Prelude.{Result}
use Rattle.apply.specs.declared.Refusal as told
use Rattle.apply.proofs.StartLaws.{lends-second, lends_first}
use Rattle.course.specs.Course.{Here}

-- the length of a table with a formula within the limits, and of one that is all zero
table-long : (ψ : Formula) (s : Bool) → fits ψ ≡ true → length (table_of ψ) ≡ 11261
table-long ψ s f =
    let h : Holds ψ (table_of ψ) (counts_of ψ s) = record { table = refl; counts = unfold counts_of in refl; fitting = f } in
    (bounds (held h)).table

zero-long : length (table_of empty_formula) ≡ 11261
zero-long = (bounds (held (empty_holds (table_of empty_formula) (counts_of empty_formula false) false refl refl))).table

module _ {ψ : Formula} {s : Bool} {a b : List ℕ} {d : Counts} (h : Here ψ s a b d) where
  -- the record names the side
  pub here-side : d.second ≡ s
  here-side = ap (λ c. c.second) h.counts ∙ (unfold counts_of in refl)

  pub here-lends : Lends ψ a b d
  unfolding named
  here-lends =
      let q : named a b d ≡ cond s b a = ap (λ x. cond x b a) here-side in
      let l = lengths s h.stands in
      record {
        holds =
            record {
              table = q ∙ side s h.stands;
              counts = h.counts ∙ ap (counts_of ψ) (sym here-side);
              fitting = h.room;
            };
        well = h.well;
        first-length = l.0;
        second-length = l.1;
      }
    where
      side : (x : Bool) → Stands ψ x a b → cond x b a ≡ table_of ψ
      side true k = k.second
      side false k = k.first

      lengths : (x : Bool) → Stands ψ x a b → (length a ≡ 11261) × (length b ≡ 11261)
      lengths true k = (ap length k.first ∙ zero-long, ap length k.second ∙ table-long ψ true h.room)
      lengths false k = (ap length k.first ∙ table-long ψ false h.room, ap length k.second ∙ zero-long)

  pub here-lent : Lent a b d
  here-lent = record { formula = ψ; lends = here-lends }

  -- a step: the result stands on the other side
  pub here-stepped : {e : ℕ} {r : Result Counts told.Refusal} {a' b' : List ℕ} {χ : Formula} → step_of ψ e ≡ stepped χ
      → Moves ψ e d.second r a' b' → Here χ (not s) a' b' (counts_of χ (not s))
  unfolding formula_after side_after
  here-stepped {e} {r} {a'} {b'} {χ} i m =
      let k : Kept ψ χ = step_kept ψ h.well e χ i in
      let g : Stands χ (not d.second) a' b' = rw i at m.stands in
      record { stands = rw here-side at g; counts = refl; well = k.well; room = k.room }

  -- a refusal: all is as before
  pub here-refused : {e : ℕ} {r : Result Counts told.Refusal} {a' b' : List ℕ} {x : Refusal} → step_of ψ e ≡ refused x
      → Moves ψ e d.second r a' b' → Here ψ s a' b' d
  unfolding formula_after side_after
  here-refused {e} {r} {a'} {b'} {x} i m =
      let g : Stands ψ d.second a' b' = rw i at m.stands in
      record { stands = rw here-side at g; counts = h.counts; well = h.well; room = h.room }

-- The start: what is lent, once the spare table is zero.
pub lends-here : {ψ : Formula} {a b a' b' : List ℕ} {c : Counts} → Lends ψ a b c → Stands ψ c.second a' b' → Here ψ c.second a' b' c
lends-here l k = record { stands = k; counts = l.holds.counts; well = l.well; room = l.holds.fitting }

-- The spare table is zeroed: the first where the record names the second, and the second where it names the first.
module _ {φ : Formula} {a b : List ℕ} {c : Counts} (l : Lends φ a b c) where
  pub first-cleared : {a' : List ℕ} → c.second ≡ true → a' ≡ table_of empty_formula → Stands φ c.second a' b
  first-cleared e z = rw e (record { first = z; second = (lends-second l e).table })

  pub second-cleared : {b' : List ℕ} → c.second ≡ false → b' ≡ table_of empty_formula → Stands φ c.second a b'
  second-cleared e z = rw e (record { first = (lends_first l e).table; second = z })

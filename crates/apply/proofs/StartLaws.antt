-- What a step starts from, once the prefix is ranked.
-- Assumes nothing.
use mathlib.Core.Path.{◌≡◌, sym, ap, ◌∙◌}
use Prim.Native.Nat.{ℕ, ◌≤◌}
use native.Mathlib.Omega.{arith}
use mathlib.Core.Bool.{Bool, true, false, cond}
use mathlib.Core.List.{List}
use lib.ListN.{length, take}
use lib.Seq.{length-take-le}
use Rattle.meaning.specs.Formula.{Formula}
use Rattle.meaning.specs.WellFormed.{well_formed}
use Rattle.table.specs.Table.{Holds, Held}
use Rattle.table.specs.Ranks.{ranks_of, good_entries, Ranked}
use Rattle.table.specs.declared.Counts.{Counts}
use Rattle.table.proofs.HoldLaws.{prefix-is, held, bounds}
use Rattle.permits.proofs.PlaceLaws.{entries-of}
use Rattle.rebuilds.specs.Given.{Given}
use Rattle.table.specs.Lent.{named}
use Rattle.apply.specs.Applied.{Kept, Lends, Lent}

pub kept-held : {t : List ℕ} {c : Counts} → Kept t c → Held t c
kept-held k = held k.holds

pub given-of : {φ : Formula} {t : List ℕ} {c : Counts} → Holds φ t c → well_formed φ ≡ true → {r : Bool} {ranks : List ℕ} → Ranked (take c.variables t) r ranks → Given φ t c ranks
given-of {φ} {t} {c} h w {r} {ranks} k =
    let good : r ≡ true = k.answer ∙ ap good_entries (prefix-is h) ∙ entries-of φ w h.fitting in
    record { holds = h; well = w; ranked = k.table good ∙ ap ranks_of (prefix-is h) }

-- the part of the table that is lent for ranking
pub prefix-part : {t : List ℕ} {c : Counts} → Held t c → c.variables ≡ length (take c.variables t)
prefix-part {t} {c} h = let b = bounds h in sym (length-take-le c.variables t (omega arith))

pub prefix-short : {t : List ℕ} {c : Counts} → Held t c → length (take c.variables t) ≤ 1023
prefix-short {t} {c} h = let b = bounds h in omega (arith, length-take-le c.variables t (omega arith))

-- Two lent tables: which one is the source --------------------------------------------------------------------
module _ {φ : Formula} {a b : List ℕ} {c : Counts} (l : Lends φ a b c) where
  pub lends-second : c.second ≡ true → Holds φ b c
  unfolding named
  lends-second e = let q : named a b c ≡ b = ap (λ s. cond s b a) e in rw q at l.holds

  pub lends_first : c.second ≡ false → Holds φ a c
  unfolding named
  lends_first e = let q : named a b c ≡ a = ap (λ s. cond s b a) e in rw q at l.holds

module _ {a b : List ℕ} {c : Counts} (l : Lent a b c) where
  -- what is known of the formula that is lent is known of it in the source
  pub known-second : {P : Formula → Type 0} → ((φ : Formula) → Lends φ a b c → P φ) → c.second ≡ true → (φ : Formula) → Holds φ b c → well_formed φ ≡ true → P φ
  unfolding named
  known-second k e φ h w =
      let q : named a b c ≡ b = ap (λ s. cond s b a) e in
      k φ (record { holds = rw q h; well = w; first-length = l.lends.first-length; second-length = l.lends.second-length })

  pub known-first : {P : Formula → Type 0} → ((φ : Formula) → Lends φ a b c → P φ) → c.second ≡ false → (φ : Formula) → Holds φ a c → well_formed φ ≡ true → P φ
  unfolding named
  known-first k e φ h w =
      let q : named a b c ≡ a = ap (λ s. cond s b a) e in
      k φ (record { holds = rw q h; well = w; first-length = l.lends.first-length; second-length = l.lends.second-length })

  pub lent-second : c.second ≡ true → Kept b c × (length a ≡ 11261)
  lent-second e = (record { formula = l.formula; holds = lends-second l.lends e; well = l.lends.well }, l.lends.first-length)

  pub lent-first : c.second ≡ false → Kept a c × (length b ≡ 11261)
  lent-first e = (record { formula = l.formula; holds = lends_first l.lends e; well = l.lends.well }, l.lends.second-length)

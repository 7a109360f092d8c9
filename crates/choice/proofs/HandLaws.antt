-- What is at hand, from kind to kind.
-- Assumes nothing.
use Prim.Native.Nat.{ℕ, ◌+◌, ◌*◌, ◌≤◌}
use mathlib.Core.Path.{◌≡◌, sym, ap, ◌∙◌}
use mathlib.Core.Bool.{Bool, true, false}
use mathlib.Core.List.{List}
use native.Mathlib.Omega.{arith}
use lib.ListN.{length, take}
use lib.Seq.{length-take-le}
use Rattle.meaning.specs.Lists.{has}
use Rattle.meaning.specs.Formula.{Formula, universal}
use Rattle.meaning.specs.WellFormed.{well_formed}
use Rattle.table.specs.Table.{Holds, Held}
use Rattle.table.specs.Ranks.{ranks_of, good_entries, Ranked}
use Rattle.table.specs.declared.Counts.{Counts}
use Rattle.table.proofs.HoldLaws.{prefix-is, held, bounds}
use Rattle.table.proofs.DecodeLaws.{decode-holds}
use Rattle.permits.proofs.PlaceLaws.{entries-of}
use Rattle.index.specs.declared.at_hand.AtHand.{AtHand}
use Rattle.index.specs.Study.{Studied}
use Rattle.index.specs.Build.{HeldWell, tally_of, Tallies}
use Rattle.search.specs.Searched.{SearchedTo}
use Rattle.search.proofs.SearchedLaws.{searched-none}
use Rattle.growth.specs.Weights.{NoneSubsumed}
use Rattle.choice.specs.Chosen as choice
use Rattle.choice.specs.Chosen.{HeldSearched, Unsettled, Busy, Unsubsumed, Apart, Ranks}

pub studied-ranks : {φ : Formula} {t : List ℕ} {c : Counts} {ranks index : List ℕ} → Studied φ t c ranks index → NoneSubsumed φ → Ranks φ t c ranks
studied-ranks s n = record { holds = s.holds; well = s.well; ranked = s.ranked; apart = n }

module _ {at : AtHand} where
  pub busy-unsubsumed : {m : ℕ} → (b : Busy at m) → NoneSubsumed b.formula → Unsubsumed at m
  busy-unsubsumed b n = record { formula = b.formula; studied = b.studied; apart = n; searched = b.searched }

  pub unsubsumed-apart : {m : ℕ} → Unsubsumed at m → Apart at
  unsubsumed-apart b = record { formula = b.formula; studied = b.studied; apart = b.apart }

  pub apart-ranked : Apart at → choice.Ranked at.table.now at.counts at.ranks.now
  apart-ranked b = record { formula = b.formula; ranks-of = studied-ranks b.studied b.apart }

-- At the start -------------------------------------------------------------------------------------------------
module _ {φ : Formula} {t : List ℕ} {c : Counts} (h : Holds φ t c) (w : well_formed φ ≡ true) where
  pub ranked-is : {r : Bool} {ranks : List ℕ} → Ranked (take c.variables t) r ranks → ranks ≡ ranks_of φ.prefix
  ranked-is {r} {ranks} k =
      let good : r ≡ true = k.answer ∙ ap good_entries (prefix-is h) ∙ entries-of φ w h.fitting in k.table good ∙ ap ranks_of (prefix-is h)

pub unsettled-well : {t : List ℕ} {c : Counts} {m : ℕ} → Unsettled t c m → HeldWell t c
unsettled-well u = record { formula = u.formula; holds = u.holds; well = u.well }

-- where nothing is known
pub searched-start : {t : List ℕ} {c : Counts} → HeldWell t c → HeldSearched t c 0
searched-start k = record { formula = k.formula; holds = k.holds; well = k.well; searched = searched-none k.formula }

-- a table holds one formula, so what is known of it is known of each that it holds
pub searched-held : {φ : Formula} {t : List ℕ} {c : Counts} {m : ℕ} → HeldSearched t c m → Holds φ t c → SearchedTo φ m
searched-held {φ} {t} {c} {m} k h =
    let e : k.formula ≡ φ = sym (decode-holds k.formula t c k.holds) ∙ decode-holds φ t c h in rw e at k.searched

-- the tally of the formula
pub tally-of : {φ : Formula} {t tally : List ℕ} {c : Counts} → Holds φ t c → well_formed φ ≡ true → tally ≡ tally_of φ.clauses → Tallies φ tally
tally-of h w e = record { well = w; fitting = h.fitting; counts = e }

pub well-held : {t : List ℕ} {c : Counts} → HeldWell t c → Held t c
well-held k = held k.holds

-- the part of the table that is lent with the prefix
pub prefix-held : {t : List ℕ} {c : Counts} → Held t c → c.variables ≡ length (take c.variables t)
prefix-held {t} {c} h = let b = bounds h in sym (length-take-le c.variables t (omega arith))

pub prefix-part : {t : List ℕ} {c : Counts} → HeldWell t c → c.variables ≡ length (take c.variables t)
prefix-part h = prefix-held (well-held h)

pub prefix-short : {t : List ℕ} {c : Counts} → HeldWell t c → length (take c.variables t) ≤ 1023
prefix-short {t} {c} h = let b = bounds (well-held h) in omega (arith, prefix-part h)

-- the entry of a universal is not in it
pub not-universal : {φ : Formula} {t : List ℕ} {c : Counts} → Holds φ t c → (a : ℕ) (r : Bool) → r ≡ has (2 * a + 1) (take c.variables t) → r ≡ false
    → universal φ.prefix a ≡ false
unfolding universal
not-universal h a r is e = ap (has (2 * a + 1)) (sym (prefix-is h)) ∙ sym is ∙ e

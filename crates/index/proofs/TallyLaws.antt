-- A tally is read: in how many clauses a literal stands.
-- Assumes nothing.
use Prim.Native.Nat.{ℕ, ◌≤◌, ◌<◌}
use mathlib.Core.Path.{◌≡◌, refl, ap, ◌∙◌}
use mathlib.Core.List.{List, map}
use native.Mathlib.Omega.{arith}
use lib.ListN.{length, get_or, replicate, length-append, length-replicate}
use Rattle.meaning.specs.Lists.{up_from}
use Rattle.meaning.specs.Formula.{Formula}
use Rattle.table.specs.Table.{all_literals}
use Rattle.index.specs.Index.{clauses_with, index_of, Indexes}
use Rattle.index.specs.Build.{times, counts_in, tally_of, Tallies}
use Rattle.meaning.proofs.Parts.{room_of}
use Rattle.table.proofs.PadLaws.{length-all}
use Rattle.index.proofs.CountLaws.{times-with}
use Rattle.index.proofs.PlaceLaws.{places-length, place-at}
use Rattle.index.proofs.ReadLaws.{rise-all, list-none}

module _ {φ : Formula} {tally : List ℕ} (h : Tallies φ tally) where
  pub tally-length : length tally ≡ 11261
  unfolding tally_of counts_in
  tally-length =
      ap length h.counts ∙ length-append (map (times (all_literals φ.clauses)) (up_from 0 2048)) (replicate {A = ℕ} 9213 0)
      ∙ omega (arith, places-length (times (all_literals φ.clauses)) 2048, length-replicate {A = ℕ} 9213 0)

  -- so many literals at most
  pub tally-room : length (all_literals φ.clauses) ≤ 8191
  tally-room = omega (arith, length-all φ.clauses, (room_of φ h.fitting).literals)

  pub tally-is : (l : ℕ) → l < 2048 → get_or tally l 0 ≡ length (clauses_with φ.clauses l)
  unfolding tally_of counts_in
  tally-is l k =
      ap (λ (t : List ℕ). get_or t l 0) h.counts ∙ place-at (times (all_literals φ.clauses)) 2048 (replicate {A = ℕ} 9213 0) l k
      ∙ times-with φ.clauses (rise-all φ h.well) l

  pub tally-none : (l : ℕ) → 2047 < l → 0 ≡ length (clauses_with φ.clauses l)
  tally-none l k =
      let x : Indexes φ (index_of φ.clauses) = record { well = h.well; fitting = h.fitting; places = refl } in
      ap length (list-none x l k)

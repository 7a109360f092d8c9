-- What is read in the index of a formula: where the list of a literal begins and ends, that it is the clauses with the literal, and the
-- signatures of the clauses.
-- Assumes nothing.
use Prim.Native.Nat.{ℕ, zero, suc, ◌+◌, ◌-◌, ◌≤◌, ◌<◌}
use mathlib.Core.Path.{◌≡◌, refl, sym, ap, ap₂, ◌∙◌}
use mathlib.Core.Bool.{true, false}
use mathlib.Core.List.{List, [], ◌∷◌, ◌++◌, map}
use lib.ListN.{length, get_or, take, drop, replicate, length-append, length-take, length-drop}
use lib.Seq.{take-append-le, take-add, take_all, drop_at, drop-drop, get_or-take, get_or-drop}
use lib.Dec.{leb}
use native.Mathlib.Omega.{arith}
use native.Mathlib.Nat.{add-zero, add-suc}
use native.Mathlib.Numerals.{add-one}
use Rattle.meaning.specs.Lists.{all_of, has, up_from}
use Rattle.meaning.specs.Formula.{Formula}
use Rattle.meaning.specs.WellFormed.{ascends, bound, tidy_clause, well_formed, fits, max_variables}
use Rattle.table.specs.Table.{pad}
use Rattle.table.specs.Ranks.{small}
use Rattle.table.specs.declared.Counts.{Counts}
use Rattle.index.specs.Index.{clauses_from, clauses_with, lists_below, list_start, list_end, placed, lists_of, signs_at, index_of, Indexes, Indexed}
use Rattle.index.specs.Signs.{Signs}
use Rattle.index.specs.Study.{Studied, Study}
use Rattle.meaning.proofs.Basics.{false_of, and_l, and_r}
use Rattle.meaning.proofs.Lists.{all-le, all-has}
use Rattle.meaning.proofs.Parts.{room_of, tidy_of, ascends-of, bound_all}
use Rattle.meaning.proofs.Prefix.{bound-numbers}
use Rattle.table.proofs.PadLaws.{length-pad, pad-drop-le}
use Rattle.table.proofs.StayLaws.{small-below}
use Rattle.index.proofs.CountLaws.{lists-within}
use Rattle.index.proofs.PlaceLaws.{places-length, place-at, places_behind}
use Rattle.index.proofs.SignLaws.{signed-length, signed_below, signed_part, signed-at}

-- The clauses of a well formed formula --------------------------------------------------------------------------
pub rise-all : (φ : Formula) → well_formed φ ≡ true → all_of ascends φ.clauses ≡ true
rise-all φ w = all-le (tidy_clause φ.prefix) ascends φ.clauses (ascends-of φ.prefix) (tidy_of φ w)

pub small_all : (φ : Formula) → well_formed φ ≡ true → fits φ ≡ true → all_of (all_of small) φ.clauses ≡ true
unfolding small
small_all φ w f =
    all-le (bound φ.prefix) (all_of small) φ.clauses
    (λ c b. bound-numbers (λ v. leb v max_variables) φ.prefix c (room_of φ f).numbers b)
    (bound_all φ w)

-- no clause has a literal over 2,047
from-large : (l k : ℕ) (cs : List (List ℕ)) → all_of (all_of small) cs ≡ true → 2047 < l → clauses_from k cs l ≡ []
unfolding clauses_from all_of
from-large l k [] s h = refl
from-large l k (c ∷ cs) s h =
    rw (out (and_l (all_of small c) (all_of (all_of small) cs) s)) (from-large l (suc k) cs (and_r (all_of small c) (all_of (all_of small) cs) s) h)
  where
    out : all_of small c ≡ true → has l c ≡ false
    out a = false_of (has l c) (λ t. let b = small-below l (all-has small c l a t) in omega arith)

-- The lists, one after the other --------------------------------------------------------------------------------
lists-grow : (cs : List (List ℕ)) (n m : ℕ) → list_start cs n ≤ list_start cs (n + m)
unfolding lists_below
lists-grow cs n zero = rw (add-zero n) (omega arith)
lists-grow cs n (suc m) =
    let ih : list_start cs n ≤ list_start cs (n + m) = lists-grow cs n m in
    rw (add-suc n m) (omega (arith, length-append (lists_below cs (n + m)) (clauses_with cs (n + m))))

lists-front : (cs : List (List ℕ)) (n m : ℕ) → take (list_start cs n) (lists_below cs (n + m)) ≡ lists_below cs n
unfolding lists_below
lists-front cs n zero = rw (add-zero n) (take_all (list_start cs n) (lists_below cs n) (omega arith))
lists-front cs n (suc m) =
    rw (add-suc n m)
    (take-append-le (list_start cs n) (lists_below cs (n + m)) (clauses_with cs (n + m)) (lists-grow cs n m) ∙ lists-front cs n m)

pub lists-more : (cs : List (List ℕ)) (l : ℕ) → lists_below cs (suc l) ≡ lists_below cs l ++ clauses_with cs l
unfolding lists_below
lists-more cs l = refl

pub lists-next : (cs : List (List ℕ)) (l : ℕ) → list_start cs (suc l) ≡ list_start cs l + length (clauses_with cs l)
lists-next cs l = ap length (lists-more cs l) ∙ length-append (lists_below cs l) (clauses_with cs l)

module _ (cs : List (List ℕ)) (l n : ℕ) (h : l < n) where
  pub lists-le : list_start cs (suc l) ≤ list_start cs n
  lists-le =
      let e : suc l + (n - suc l) ≡ n = omega arith in
      omega (arith, lists-grow cs (suc l) (n - suc l), ap (list_start cs) e)

  -- the list of l among them
  list-among : take (length (clauses_with cs l)) (drop (list_start cs l) (lists_below cs n)) ≡ clauses_with cs l
  list-among =
      let b = list_start cs l in
      let a = length (clauses_with cs l) in
      sym (drop_at (take b (lists_below cs n)) (take a (drop b (lists_below cs n))) b (ap length lower-front))
      ∙ ap (drop b) (sym (take-add b a (lists_below cs n)) ∙ ap (λ (k : ℕ). take k (lists_below cs n)) (sym (lists-next cs l)) ∙ upper-front)
      ∙ drop_at (lists_below cs l) (clauses_with cs l) b refl
    where
      lower-front : take (list_start cs l) (lists_below cs n) ≡ lists_below cs l
      lower-front =
          let e : l + (n - l) ≡ n = omega arith in
          ap (λ (k : ℕ). take (list_start cs l) (lists_below cs k)) (sym e) ∙ lists-front cs l (n - l)

      upper-front : take (list_start cs (suc l)) (lists_below cs n) ≡ lists_below cs l ++ clauses_with cs l
      upper-front =
          let e : suc l + (n - suc l) ≡ n = omega arith in
          ap (λ (k : ℕ). take (list_start cs (suc l)) (lists_below cs k)) (sym e) ∙ lists-front cs (suc l) (n - suc l) ∙ lists-more cs l

  -- and with zeros behind them
  list-padded : (m : ℕ) → take (length (clauses_with cs l)) (drop (list_start cs l) (pad m (lists_below cs n))) ≡ clauses_with cs l
  list-padded m =
      let b = list_start cs l in
      let a = length (clauses_with cs l) in
      ap (take a) (pad-drop-le m (lists_below cs n) b (omega (arith, lists-le, lists-next cs l)))
      ∙ take-append-le a (drop b (lists_below cs n)) (replicate (m - list_start cs n) 0)
      (omega (arith, lists-le, lists-next cs l, length-drop b (lists_below cs n)))
      ∙ list-among

-- An index -------------------------------------------------------------------------------------------------------
module _ {φ : Formula} {index : List ℕ} (h : Indexes φ index) where
  lists-room : (l : ℕ) → list_start φ.clauses l ≤ 8191
  lists-room l = omega (arith, lists-within φ.clauses (rise-all φ h.well) l, (room_of φ h.fitting).literals)

  -- what stands before the signatures is read in the lists
  before-signs : (k : ℕ) → k < 2048 + list_start φ.clauses 2048 → get_or index k 0 ≡ get_or (lists_of φ.clauses) k 0
  unfolding index_of signs_at
  before-signs k l = ap (λ (t : List ℕ). get_or t k 0) h.places ∙ signed_below (2048 + list_start φ.clauses 2048) φ.clauses (lists_of φ.clauses) k l

  pub index-length : length index ≡ 11261
  unfolding index_of lists_of
  index-length =
      let cs = φ.clauses in
      ap length h.places
      ∙ signed-length (signs_at cs) cs (placed (list_end cs) (pad 9213 (lists_below cs 2048)))
      ∙ length-append (map (list_end cs) (up_from 0 2048)) (pad 9213 (lists_below cs 2048))
      ∙ omega (arith, places-length (list_end cs) 2048, length-pad 9213 (lists_below cs 2048) (omega (arith, lists-room 2048)))

  -- what list_start reads
  pub start_first : (l : ℕ) → l ≡ 0 → 2048 ≡ 2048 + list_start φ.clauses l
  unfolding lists_below
  start_first l e = rw e

  pub start-later : (l : ℕ) → (l ≡ 0 → ⊥) → l ≤ 2048 → 2048 + get_or index (l - 1) 0 ≡ 2048 + list_start φ.clauses l
  unfolding lists_of list_end
  start-later l z k =
      let cs = φ.clauses in
      let e : suc (l - 1) ≡ l = omega arith in
      ap (λ (n : ℕ). 2048 + n)
      (before-signs (l - 1) (omega arith)
      ∙ place-at (list_end cs) 2048 (pad 9213 (lists_below cs 2048)) (l - 1) (omega arith)
      ∙ ap (list_start cs) e)

  -- what clauses_with reads: s and e are where the lists of l and of the next literal begin
  module _ (l s e : ℕ) (k : l < 2048) (p : s ≡ 2048 + list_start φ.clauses l)
      (q : e ≡ 2048 + list_start φ.clauses (l + 1)) where
    next : e ≡ s + length (clauses_with φ.clauses l)
    next = omega (arith, lists-next φ.clauses l, ap (list_start φ.clauses) (add-one l))

    pub list-there : (s ≤ e) × (e ≤ length index) × (length index ≡ 11261)
    list-there = (omega (arith, next), omega (arith, index-length, lists-room (l + 1)), index-length)

    pub list-is : take (e - s) (drop s index) ≡ clauses_with φ.clauses l
    unfolding index_of lists_of signs_at
    list-is =
        let cs = φ.clauses in
        let n : e - s ≡ length (clauses_with cs l) = omega (arith, next) in
        rw (n, p, h.places)
        (signed_part (2048 + list_start cs 2048) cs (placed (list_end cs) (pad 9213 (lists_below cs 2048))) (2048 + list_start cs l) (length (clauses_with cs l))
        (omega (arith, lists-le cs l 2048 k, lists-next cs l))
        ∙ ap (take (length (clauses_with cs l))) (places_behind (list_end cs) 2048 (pad 9213 (lists_below cs 2048)) (list_start cs l))
        ∙ list-padded cs l 2048 k 9213)

  -- what signatures reads: s is where the last list ends
  module _ (s : ℕ) (p : s ≡ 2048 + list_start φ.clauses 2048) where
    pub signs-there : (s ≤ length index) × (length index ≡ 11261)
    signs-there = (omega (arith, index-length, lists-room 2048), index-length)

    pub signs-are : Signs φ.clauses (take (length index - s) (drop s index))
    unfolding index_of signs_at
    signs-are =
        record {
          each = λ i k l.
              let cs = φ.clauses in
              let m : i < length index - s = omega (arith, length-take (length index - s) (drop s index)) in
              get_or-take (length index - s) (drop s index) i 0 m
              ∙ get_or-drop s index i 0
              ∙ rw (p, h.places) (signed-at (2048 + list_start cs 2048) cs (lists_of cs) i k
              (omega (arith, ap length h.places, signed-length (2048 + list_start cs 2048) cs (lists_of cs))));
        }

  -- what clauses_of reads: s and e are where the lists of l and of the second next literal begin
  module _ (l s e : ℕ) (k : l < 2047) (p : s ≡ 2048 + list_start φ.clauses l) (q : e ≡ 2048 + list_start φ.clauses (l + 2)) where
    abbrev middle : ℕ
    middle = 2048 + list_start φ.clauses (l + 1)

    upper : e ≡ 2048 + list_start φ.clauses ((l + 1) + 1)
    upper = q ∙ ap (λ (n : ℕ). 2048 + list_start φ.clauses n) (omega arith)

    pub pair-there : (s ≤ e) × (e ≤ length index) × (length index ≡ 11261)
    pair-there =
        let a = list-there l s middle (omega arith) p refl in
        let b = list-there (l + 1) middle e (omega arith) refl upper in
        (omega arith, b.1, b.2)

    pub pair_is : take (e - s) (drop s index) ≡ clauses_with φ.clauses l ++ clauses_with φ.clauses (l + 1)
    pair_is =
        let a = list-there l s middle (omega arith) p refl in
        let b = list-there (l + 1) middle e (omega arith) refl upper in
        ap (λ (n : ℕ). take n (drop s index)) (let n : e - s ≡ (middle - s) + (e - middle) = omega arith in n)
        ∙ take-add (middle - s) (e - middle) (drop s index)
        ∙ ap₂ (λ (x y : List ℕ). x ++ y) (list-is l s middle (omega arith) p refl)
        (ap (take (e - middle)) (drop-drop (middle - s) s index ∙ ap (λ (n : ℕ). drop n index) (let n : s + (middle - s) ≡ middle = omega arith in n))
        ∙ list-is (l + 1) middle e (omega arith) refl upper)

  pub list-none : (l : ℕ) → 2047 < l → [] ≡ clauses_with φ.clauses l
  unfolding clauses_with
  list-none l k = sym (from-large l 0 φ.clauses (small_all φ h.well h.fitting) k)

  pub pair-none : (l : ℕ) → 2047 < l → [] ≡ clauses_with φ.clauses l ++ clauses_with φ.clauses (l + 1)
  pair-none l k = rw (← list-none l k, ← list-none (l + 1) (omega arith))

pub indexed : {φ : Formula} {index : List ℕ} → Indexes φ index → Indexed index
indexed {φ} {index} h = record { formula = φ; indexes = h }

-- the index at hand while a step is chosen
pub studied-indexes : {φ : Formula} {t : List ℕ} {c : Counts} {ranks index : List ℕ} → Studied φ t c ranks index → Indexes φ index
studied-indexes {φ} {t} {c} {ranks} {index} s = record { well = s.well; fitting = s.holds.fitting; places = s.indexed }

pub study-indexed : {t : List ℕ} {c : Counts} {ranks index : List ℕ} → Study t c ranks index → Indexed index
study-indexed {t} {c} {ranks} {index} s = indexed (studied-indexes s.studied)

-- what is at hand is that of some formula
pub study-in : {φ : Formula} {t : List ℕ} {c : Counts} {ranks index : List ℕ} → Studied φ t c ranks index → Study t c ranks index
study-in {φ} s = record { formula = φ; studied = s }

-- The clauses put one after the other: where that starts, how it goes on, and that it ends with the lists.
-- Assumes nothing.
use Prim.Native.Nat.{ℕ, zero, suc, ◌+◌, ◌-◌, ◌≤◌, ◌<◌}
use mathlib.Core.Path.{◌≡◌, refl, sym, ap, ◌∙◌, subst}
use mathlib.Core.Bool.{Bool, true}
use mathlib.Core.List.{List, [], ◌∷◌, ◌++◌, map}
use lib.ListN.{length, get_or, take, drop, replicate, length-append, length-replicate, take-append-drop}
use lib.Seq.{take_all, take-add}
use native.Mathlib.Omega.{arith}
use Rattle.meaning.specs.Lists.{all_of, up_from}
use Rattle.meaning.specs.Formula.{Formula}
use Rattle.meaning.specs.WellFormed.{ascends, well_formed}
use Rattle.table.specs.Table.{all_literals, pad, Holds}
use Rattle.table.specs.Ranks.{small}
use Rattle.table.specs.declared.Counts.{Counts}
use Rattle.index.specs.Index.{clauses_from, clauses_with, lists_below, list_start, list_end, placed, lists_of, signs_at, index_of}
use Rattle.index.specs.Signs.{signed}
use Rattle.index.specs.Build.{lower, starts_in, with_number, Filled, Listable, Turn, Turned, Tallies, TallyIn}
use Rattle.meaning.proofs.Basics.{and_l, and_r, and_i}
use Rattle.meaning.proofs.Lists.{all_append}
use Rattle.table.proofs.HoldLaws.{room, count-clauses, used-is}
use Rattle.table.proofs.ListLaws.{drop-replicate}
use Rattle.table.proofs.LoopLaws.{all_get_d}
use Rattle.table.proofs.PadLaws.{length-all}
use Rattle.table.proofs.StayLaws.{small_at}
use Rattle.index.proofs.CountLaws.{lower-lists, lists-within}
use Rattle.index.proofs.PlaceLaws.{places-length, places_same, place-at}
use Rattle.index.proofs.ReadLaws.{rise-all, small_all, lists-next, lists-more}
use Rattle.index.proofs.PartlyLaws.{partly, partly-start, partly-end, partly-within, partly_more, partly-other, partly-free}
use Rattle.index.proofs.PutLaws.{put-fits, put-number}

-- The clauses of a formula ---------------------------------------------------------------------------------------
pub listable : {φ : Formula} {t : List ℕ} {c : Counts} → Holds φ t c → well_formed φ ≡ true → Listable φ.clauses
listable {φ} {t} {c} h w = record { rise = rise-all φ w; low = small_all φ w h.fitting; literals = (room h).literals }

-- Before any clause ----------------------------------------------------------------------------------------------
pub fill_start : (cs : List (List ℕ)) (index : List ℕ) → Listable cs → index ≡ starts_in (all_literals cs) → Filled cs (clauses_with (take 0 cs)) index
unfolding starts_in clauses_with clauses_from
fill_start cs index s e =
    record {
      numbers = replicate 9213 0;
      table =
          e
          ∙ ap (λ (r : List ℕ). r ++ replicate 9213 0)
          (places_same (lower (all_literals cs)) (λ l. list_start cs l + 0) 2048 (λ l h. omega (arith, lower-lists cs s.rise l)));
      long = length-replicate {A = ℕ} 9213 0;
      lists = λ l h. refl;
      zeros = drop-replicate (list_start cs 2048) 9213 0;
    }

pub filled-length : {cs : List (List ℕ)} {list : ℕ → List ℕ} {index : List ℕ} → Filled cs list index → length index ≡ 11261
filled-length {cs} {list} {index} f =
    let p : ℕ → ℕ = λ l. list_start cs l + length (list l) in
    ap length f.table ∙ length-append (map p (up_from 0 2048)) f.numbers ∙ omega (arith, places-length p 2048, f.long)

-- After all clauses ----------------------------------------------------------------------------------------------
module _ (cs : List (List ℕ)) (index : List ℕ) (f : Filled cs (clauses_with cs) index) where
  front : (n : ℕ) → n ≤ 2048 → take (list_start cs n) f.numbers ≡ lists_below cs n
  front zero h = unfold lists_below in refl
  front (suc n) h =
      ap (λ (k : ℕ). take k f.numbers) (lists-next cs n)
      ∙ take-add (list_start cs n) (length (clauses_with cs n)) f.numbers
      ∙ ap (λ (r : List ℕ). r ++ take (length (clauses_with cs n)) (drop (list_start cs n) f.numbers)) (front n (omega arith))
      ∙ ap (λ (r : List ℕ). lists_below cs n ++ r) (f.lists n (omega arith))
      ∙ sym (lists-more cs n)

  numbers-are : f.numbers ≡ pad 9213 (lists_below cs 2048)
  unfolding pad
  numbers-are =
      sym (take-append-drop (list_start cs 2048) f.numbers)
      ∙ ap (λ (r : List ℕ). r ++ drop (list_start cs 2048) f.numbers) (front 2048 (omega arith))
      ∙ ap (λ (r : List ℕ). lists_below cs 2048 ++ r) f.zeros

  index_is : index ≡ lists_of cs
  unfolding lists_of list_end
  index_is =
      f.table
      ∙ ap (λ (r : List ℕ). placed (λ l. list_start cs l + length (clauses_with cs l)) r) numbers-are
      ∙ ap (λ (r : List ℕ). r ++ pad 9213 (lists_below cs 2048))
      (places_same (λ l. list_start cs l + length (clauses_with cs l)) (list_end cs) 2048 (λ l h. sym (lists-next cs l)))

pub fill_end : (cs : List (List ℕ)) (index : List ℕ) (i : ℕ) → Filled cs (clauses_with (take i cs)) index → length cs ≤ i → index ≡ lists_of cs
fill_end cs index i f h = index_is cs index (subst (λ (ds : List (List ℕ)). Filled cs (clauses_with ds) index) (take_all i cs h) f)

-- The loop over the literals of clause i ---------------------------------------------------------------------------
module _ {cs : List (List ℕ)} {index₀ clause : List ℕ} {i : ℕ} (t : Turn cs index₀ clause i) where
  pub put-start : Filled cs (partly cs i 0) index₀
  put-start = rw (← partly-start cs i) t.filled

  pub put-end : (index : List ℕ) (j : ℕ) → Filled cs (partly cs i j) index → length clause ≤ j → Filled cs (clauses_with (take (i + 1) cs)) index
  put-end index j f h = rw (partly-end cs i t.there j (omega (arith, ap length t.same))) at f

  module _ (index : List ℕ) (j : ℕ) (f : Filled cs (partly cs i j) index) (more : j < length clause) where
    enough : list_start cs 2048 ≤ 8191
    enough = omega (arith, lists-within cs t.listable.rise 2048, t.listable.literals)

    rising : ascends (get_or cs i []) ≡ true
    rising = all_get_d ascends [] cs i t.listable.rise t.there

    there : j < length (get_or cs i [])
    there = omega (arith, ap length t.same)

    low : get_or (get_or cs i []) j 0 < 2048
    low = small_at (get_or cs i []) j (all_get_d (all_of small) [] cs i t.listable.low t.there) there

    free : length (partly cs i j (get_or (get_or cs i []) j 0)) < length (clauses_with cs (get_or (get_or cs i []) j 0))
    free = partly-free cs i t.there rising j there

    pub put-needs : (length index ≡ 11261) × (get_or clause j 0 < 2048) × (get_or index (get_or clause j 0) 0 < 8191)
    put-needs =
        rw t.same
        (filled-length f, low, put-fits cs (partly cs i j) index f (partly-within cs i t.there j) enough (get_or (get_or cs i []) j 0) low free)

    pub put-turn : Filled cs (partly cs i (j + 1)) (with_number index (get_or clause j 0) i)
    put-turn =
        rw t.same
        (put-number cs (partly cs i j) index f (partly-within cs i t.there j) enough (get_or (get_or cs i []) j 0) low free i (partly cs i (j + 1))
        (partly_more cs i t.there rising j there) (partly-other cs i t.there rising j there))

-- The loop over the clauses ----------------------------------------------------------------------------------------
all-literals : (f : ℕ → Bool) (cs : List (List ℕ)) → all_of (all_of f) cs ≡ true → all_of f (all_literals cs) ≡ true
unfolding all_literals
all-literals f [] h = unfold all_of in refl
all-literals f (c ∷ cs) h =
    all_append f c (all_literals cs)
    ∙ and_i (all_of f c) (all_of f (all_literals cs)) (and_l (all_of f c) (all_of (all_of f) cs) (unfold all_of in h))
    (all-literals f cs (and_r (all_of f c) (all_of (all_of f) cs) (unfold all_of in h)))

-- what list_starts asks of the literals
pub starts-needs : {φ : Formula} {t : List ℕ} {c : Counts} → Holds φ t c → well_formed φ ≡ true
    → (length (take (3070 + c.literals - 3070) (drop 3070 t)) ≤ 8191) × (all_of small (take (3070 + c.literals - 3070) (drop 3070 t)) ≡ true)
starts-needs {φ} {t} {c} h w =
    let s = listable h w in
    rw (used-is h) (omega (arith, length-all φ.clauses, s.literals), all-literals small φ.clauses s.low)

module _ {φ : Formula} {t : List ℕ} {c : Counts} (h : Holds φ t c) (w : well_formed φ ≡ true) where
  pub tallies : (tally : List ℕ) → TallyIn t c tally → Tallies φ tally
  tallies tally f = record { well = w; fitting = h.fitting; counts = f φ h w }

  pub build-start : (index : List ℕ) → index ≡ starts_in (all_literals φ.clauses) → Filled φ.clauses (clauses_with (take 0 φ.clauses)) index
  build-start index e = fill_start φ.clauses index (listable h w) e

  pub build-turn : (index clause : List ℕ) (i : ℕ) → i < c.clauses → clause ≡ get_or φ.clauses i []
      → Filled φ.clauses (clauses_with (take i φ.clauses)) index → Turn φ.clauses index clause i
  build-turn index clause i more e f = record { listable = listable h w; there = omega (arith, count-clauses h); same = e; filled = f }

  pub build-end : (index : List ℕ) (i : ℕ) → c.clauses ≤ i
      → Filled φ.clauses (clauses_with (take i φ.clauses)) index → index ≡ lists_of φ.clauses
  build-end index i done f = fill_end φ.clauses index i f (omega (arith, count-clauses h))

pub turned : {cs : List (List ℕ)} {index clause : List ℕ} {i : ℕ} → Turn cs index clause i → Turned index clause i
turned {cs} {index} {clause} {i} t = record { clauses = cs; turn = t }

-- The signatures ---------------------------------------------------------------------------------------------------
-- they begin where the place of the last literal says that its list ends
pub signs-start : (cs : List (List ℕ)) (index : List ℕ) → index ≡ lists_of cs → index_of cs ≡ signed (2048 + get_or index 2047 0 + 0) cs index
unfolding index_of signs_at lists_of list_end
signs-start cs index is =
    let e : get_or index 2047 0 ≡ list_start cs 2048 =
    ap (λ (t : List ℕ). get_or t 2047 0) is ∙ place-at (list_end cs) 2048 (pad 9213 (lists_below cs 2048)) 2047 (omega arith) in
    ap (λ (n : ℕ). signed n cs (placed (list_end cs) (pad 9213 (lists_below cs 2048)))) (omega (arith, e))
    ∙ ap (λ (t : List ℕ). signed (2048 + get_or index 2047 0 + 0) cs t) (sym is)

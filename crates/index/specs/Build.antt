-- How the index is built: the literals are counted, the counts are summed, and each clause is put into the lists of its literals.
-- Assumes nothing.
use Rattle.std.specs.Prelude.{◌≡◌, ℕ, ◌+◌, ◌-◌, ◌≤◌, ◌<◌, true, List, [], eqb, ltb, length, get_or, take, drop, set, replicate}
use Rattle.meaning.specs.Lists.{all_of, keep_if}
use Rattle.meaning.specs.Formula.{Formula}
use Rattle.meaning.specs.WellFormed.{ascends, well_formed, fits, literals, max_literals}
use Rattle.table.specs.Table.{all_literals, Holds}
use Rattle.table.specs.Ranks.{small}
use Rattle.table.specs.declared.Counts.{Counts}
use Rattle.index.specs.Index.{clauses_with, list_start, numbers_at, numbers_room, placed}

-- The table t with the counts c holds some well formed formula.
pub record HeldWell (t : List ℕ) (c : Counts) : Type 0 where
  pub formula : Formula
  pub holds : Holds formula t c
  pub well : well_formed formula ≡ true

-- Where the lists begin --------------------------------------------------------------------------------------
-- how often l stands among the literals, and how many of them are lower
unfoldable pub times : List ℕ → ℕ → ℕ
times c l = length (keep_if (λ k. eqb l k) c)

unfoldable pub lower : List ℕ → ℕ → ℕ
lower c l = length (keep_if (λ k. ltb k l) c)

-- a table of these, with no number yet
unfoldable pub counts_in : List ℕ → List ℕ
counts_in c = placed (times c) (replicate numbers_room 0)

unfoldable pub starts_in : List ℕ → List ℕ
starts_in c = placed (lower c) (replicate numbers_room 0)

-- How often each literal stands in the clauses: the tally of a formula; of some formula ---------------------------
unfoldable pub tally_of : List (List ℕ) → List ℕ
tally_of cs = counts_in (all_literals cs)

pub record Tallies (φ : Formula) (tally : List ℕ) : Type 0 where
  pub well : well_formed φ ≡ true
  pub fitting : fits φ ≡ true
  pub counts : tally ≡ tally_of φ.clauses

pub record Tallied (tally : List ℕ) : Type 0 where
  pub formula : Formula
  pub tallies : Tallies formula tally

-- the tally of the formula that the table t with the counts c holds
abbrev pub TallyIn : List ℕ → Counts → List ℕ → Type 0
TallyIn t c tally = (φ : Formula) → Holds φ t c → well_formed φ ≡ true → tally ≡ tally_of φ.clauses

-- The numbers ------------------------------------------------------------------------------------------------
-- the number i at the end of the list of l, whose place then tells the new end
unfoldable pub with_number : List ℕ → ℕ → ℕ → List ℕ
with_number index l i = set (set index (numbers_at + get_or index l 0) i) l (get_or index l 0 + 1)

-- an index on its way to that of cs: each literal has this much of its list, and its place tells where that ends
pub record Filled (cs : List (List ℕ)) (list : ℕ → List ℕ) (index : List ℕ) : Type 0 where
  pub numbers : List ℕ
  pub table : index ≡ placed (λ l. list_start cs l + length (list l)) numbers
  pub long : length numbers ≡ numbers_room
  pub lists : (l : ℕ) → l < numbers_at → take (length (list l)) (drop (list_start cs l) numbers) ≡ list l
  pub zeros : drop (list_start cs numbers_at) numbers ≡ replicate (numbers_room - list_start cs numbers_at) 0

-- clauses whose lists have room: those of a well formed formula
pub record Listable (cs : List (List ℕ)) : Type 0 where
  pub rise : all_of ascends cs ≡ true
  pub low : all_of (all_of small) cs ≡ true
  pub literals : literals cs ≤ max_literals

-- clause i of cs is the next to be put
pub record Turn (cs : List (List ℕ)) (index clause : List ℕ) (i : ℕ) : Type 0 where
  pub listable : Listable cs
  pub there : i < length cs
  pub same : clause ≡ get_or cs i []
  pub filled : Filled cs (clauses_with (take i cs)) index

-- there are such clauses
pub record Turned (index clause : List ℕ) (i : ℕ) : Type 0 where
  pub clauses : List (List ℕ)
  pub turn : Turn clauses index clause i

-- A filter of 8 words that covers a table: the stamp of every clause of the table is there, so what is not stamped is not in the
-- table. Assumes nothing.
use Rattle.std.specs.Prelude.{◌≡◌, Bool, true, ◌||◌, List, ℕ, length}
use Rattle.meaning.specs.Lists.{all_of, any_of, same}
use Rattle.stamps.specs.Stamp.{stamped}
use Rattle.table.specs.Table.{decode}
use Rattle.table.specs.declared.Counts.{Counts}

-- the filter has the stamps of all clauses of the table t with the counts c
pub record Covers (t : List ℕ) (c : Counts) (f : List ℕ) : Type 0 where
  pub long : length f ≡ 8
  pub every : all_of (stamped f) (decode t c).clauses ≡ true

-- the clause is one of the others, or its stamp is there
unfoldable pub known : List (List ℕ) → List ℕ → List ℕ → Bool
known others f x = any_of (same x) others || stamped f x

-- the filter has the stamp of every clause of the table that is none of the others
pub record CoversBut (others : List (List ℕ)) (t : List ℕ) (c : Counts) (f : List ℕ) : Type 0 where
  pub long : length f ≡ 8
  pub every : all_of (known others f) (decode t c).clauses ≡ true

-- the clause is one of the others
unfoldable pub one_of : List (List ℕ) → List ℕ → Bool
one_of others x = any_of (same x) others

-- every clause of the table is one of the others, so that any filter will do
pub record Among (others : List (List ℕ)) (t : List ℕ) (c : Counts) : Type 0 where
  pub every : all_of (one_of others) (decode t c).clauses ≡ true

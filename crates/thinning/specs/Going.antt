-- What is known while the clauses are looked at one after the other.
-- Assumes nothing.
use Rattle.std.specs.Prelude.{ℕ, ◌≤◌, ◌<◌, ◌≡◌, Bool, true, false, List, [], length, get_or, drop}
use Rattle.meaning.specs.Lists.{keep_if, has}
use Rattle.meaning.specs.WellFormed.{well_formed}
use Rattle.table.specs.Table.{decode, Held}
use Rattle.table.specs.declared.Counts.{Counts}
use Rattle.flags.specs.Flags.{flag}
use Rattle.thinning.specs.Thin.{firm, met_with, free_of, StoodFor}

-- the source holds a well formed formula
pub record Readable (source : List ℕ) (c : Counts) : Type 0 where
  pub held : Held source c
  pub well : well_formed (decode source c) ≡ true

-- from index i on, r is the first at which the test passes
pub record NextOf (f : ℕ → Bool) (c : List ℕ) (i r : ℕ) : Type 0 where
  pub behind : i ≤ r
  pub within : r ≤ length c
  pub passes : r < length c → f (get_or c r 0) ≡ true
  pub rest : keep_if f (drop i c) ≡ keep_if f (drop r c)

-- every literal of a near clause with o is flagged
pub record Meets (ranks : List ℕ) (e o : ℕ) (cs : List (List ℕ)) (met : List ℕ) : Type 0 where
  pub all : (l : ℕ) → met_with ranks e o cs l ≡ true → flag met l ≡ true

-- of the clauses before clause i, those that f picks are flagged, and no other
pub record Picking (f : List ℕ → Bool) (cs : List (List ℕ)) (w : List ℕ) (i : ℕ) : Type 0 where
  pub words : length w ≡ 32
  pub before : (j : ℕ) → j < i → flag w j ≡ f (get_or cs j [])
  pub none : (j : ℕ) → j < length cs → i ≤ j → flag w j ≡ false

-- Of the clauses before clause i, those that are flagged have k, and for the others with k one of them stands in.
pub record Thinning (ranks : List ℕ) (e k o : ℕ) (cs : List (List ℕ)) (w : List ℕ) (i : ℕ) : Type 0 where
  pub words : length w ≡ 32
  pub taken : (j : ℕ) → j < length cs → flag w j ≡ true → (j < i) × (has k (get_or cs j []) ≡ true)
  pub left : (j : ℕ) → j < i → flag w j ≡ false → has k (get_or cs j []) ≡ true → StoodFor ranks e o cs w j

-- The clauses flagged by m may stand in: they are flagged by w, and free.
pub record Standing (ranks : List ℕ) (e o : ℕ) (cs : List (List ℕ)) (w m : List ℕ) : Type 0 where
  pub words : length m ≡ 32
  pub flagged : (j : ℕ) → j < length cs → flag m j ≡ true → flag w j ≡ true
  pub free : (j : ℕ) → j < length cs → flag m j ≡ true → free_of ranks e o cs (get_or cs j []) ≡ true

-- both
pub record Going (ranks : List ℕ) (e k o : ℕ) (cs : List (List ℕ)) (w m : List ℕ) (i : ℕ) : Type 0 where
  pub thinning : Thinning ranks e k o cs w i
  pub standing : Standing ranks e o cs w m

-- a clause before clause i that is flagged by m has this firm part
pub record StandIn (ranks : List ℕ) (e : ℕ) (cs : List (List ℕ)) (m : List ℕ) (i : ℕ) (part : List ℕ) : Type 0 where
  pub index : ℕ
  pub earlier : index < i
  pub flagged : flag m index ≡ true
  pub same : firm ranks e (get_or cs index []) ≡ part

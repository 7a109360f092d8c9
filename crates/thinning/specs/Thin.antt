-- Which clauses step 6 looks at. A clause with a literal may be left out where an earlier one, which is not left out, stands in for it: the
-- two differ only in universals that their resolvents with the near clauses of the other side lose. With the far ones, which are few, it is
-- looked at all the same.
-- Assumes nothing.
use Rattle.std.specs.Prelude.{ℕ, suc, ◌<◌, ◌≡◌, Bool, true, false, ◌&&◌, ◌||◌, not, cond, List, [], ◌∷◌, leb, length, get_or, take, drop}
use Rattle.meaning.specs.Lists.{any_of, all_of, keep_if, has}
use Rattle.meaning.specs.Formula.{opposite}
use Rattle.table.specs.Ranks.{last_by, stays_by}
use Rattle.flags.specs.Flags.{flag}

-- the flagged ones of the clauses, the first of which is clause j
unfoldable pub chosen : List ℕ → ℕ → List (List ℕ) → List (List ℕ)
chosen w j [] = []
chosen w j (c ∷ cs) = cond (flag w j) (c ∷ chosen w (suc j) cs) (chosen w (suc j) cs)

-- the flagged clauses are those that f picks
pub record Picks (f : List ℕ → Bool) (cs : List (List ℕ)) (w : List ℕ) : Type 0 where
  pub each : (j : ℕ) → j < length cs → flag w j ≡ f (get_or cs j [])

-- Near is a short clause without an existential right of place e. Far are the other clauses with k.
unfoldable pub near : List ℕ → ℕ → List ℕ → Bool
near ranks e c = leb (length c) 16 && leb (last_by ranks 0 c) e

unfoldable pub far : List ℕ → ℕ → ℕ → List ℕ → Bool
far ranks e k c = has k c && not (near ranks e c)

-- A clause without the universals that stand right of place e and of all its existentials. Joined with a near clause, it loses them.
unfoldable pub firm : List ℕ → ℕ → List ℕ → List ℕ
firm ranks e c = keep_if (stays_by ranks (last_by ranks e c)) c

-- a near clause with o has the literal l
unfoldable pub met_with : List ℕ → ℕ → ℕ → List (List ℕ) → ℕ → Bool
met_with ranks e o cs l = any_of (λ c. (has o c && near ranks e c) && has l c) cs

-- of no literal that goes is the opposite in a near clause with o
unfoldable pub free_of : List ℕ → ℕ → ℕ → List (List ℕ) → List ℕ → Bool
free_of ranks e o cs c = all_of (λ l. stays_by ranks (last_by ranks e c) l || not (met_with ranks e o cs (opposite l))) c

-- an earlier clause that is flagged stands in for clause j: with any near clause that has o they come to the same
pub record StoodFor (ranks : List ℕ) (e o : ℕ) (cs : List (List ℕ)) (w : List ℕ) (j : ℕ) : Type 0 where
  pub index : ℕ
  pub earlier : index < j
  pub flagged : flag w index ≡ true
  pub same : firm ranks e (get_or cs index []) ≡ firm ranks e (get_or cs j [])
  pub one : free_of ranks e o cs (get_or cs index []) ≡ true
  pub other : free_of ranks e o cs (get_or cs j []) ≡ true

-- The flagged clauses have the literal k, of which o is the opposite; for every other clause with k one of them stands in.
pub record Thinned (ranks : List ℕ) (e k o : ℕ) (cs : List (List ℕ)) (w : List ℕ) : Type 0 where
  pub taken : (j : ℕ) → j < length cs → flag w j ≡ true → has k (get_or cs j []) ≡ true
  pub left : (j : ℕ) → j < length cs → flag w j ≡ false → has k (get_or cs j []) ≡ true → StoodFor ranks e o cs w j

-- Four sets of flags, one after the other, for the literals l and m: the clauses with l that are not left out, by the place e; those with m
-- that are not left out, by the place f; all with m; and those with m that are far, by the place e.
abbrev pub set_at : List ℕ → ℕ → List ℕ
set_at w at = take 32 (drop at w)

pub record Sets (ranks : List ℕ) (e f l m : ℕ) (cs : List (List ℕ)) (w : List ℕ) : Type 0 where
  pub room : length w ≡ 128
  pub first : Thinned ranks e l m cs (set_at w 0)
  pub second : Thinned ranks f m l cs (set_at w 32)
  pub all : Picks (has m) cs (set_at w 64)
  pub distant : Picks (far ranks e m) cs (set_at w 96)

-- where the set begins that clause i, which is x and has l, is joined with
unfoldable pub columns_at : List ℕ → ℕ → List ℕ → ℕ → List ℕ → ℕ
columns_at ranks f w i x = cond (flag (set_at w 0) i) (cond (near ranks f x) 32 64) 96

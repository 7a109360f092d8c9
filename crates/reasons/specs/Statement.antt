-- What a reason says, as a statement about the formula by itself: nothing here is found by a search of Reason.antt. `Says` names the
-- statement of each reason. That the reason given satisfies its statement, and no other reason its own, is proved in proofs/.
-- Assumes nothing.
use Rattle.std.specs.Prelude.{◌≡◌, ℕ, ◌+◌, ◌<◌, ◌≤◌, Bool, true, false, length}
use Rattle.meaning.specs.Formula.{Formula, mentions, existential, universal}
use Rattle.meaning.specs.Game.{empty_clause, no_clause}
use Rattle.meaning.specs.WellFormed.{weight}
use Rattle.rules.specs.Simplify.{clause_at}
use Rattle.rules.specs.Entry.{Kind, resolve, expand, code, call, read_entry}
use Rattle.rules.specs.Step.{permitted, result_of}
use Rattle.rules.specs.Choice.{light, allowed}
use Rattle.rules.proofs.Ahead.{left_of}
use Rattle.rules.proofs.First.{First}
use Rattle.reasons.specs.Reason.{Limit, of_variables, of_clauses, of_literals, within, Reason, verdict, next_entry, own_entry, too_far_right, not_lighter, between, too_heavy, over_limit}

-- Before the variable is looked at -------------------------------------------------------------------------------
-- TRUE: there is no clause; FALSE: there is an empty one
abbrev pub Verdict : Formula → Bool → Type 0
Verdict φ true = no_clause φ.clauses ≡ true
Verdict φ false = empty_clause φ.clauses ≡ true

pub record NoVerdict (φ : Formula) : Type 0 where
  pub some-clause : no_clause φ.clauses ≡ false
  pub none-empty : empty_clause φ.clauses ≡ false

-- the entry e calls a step of kinds 1 to 5, and it is the run's first: it counts, and none that counts is of a lower kind, or of its
-- kind and ahead of it
pub record NextEntry (E : ℕ) (φ : Formula) (e : ℕ) : Type 0 where
  pub no-verdict : NoVerdict φ
  pub kind : Kind
  pub a : ℕ
  pub b : ℕ
  pub calls : read_entry e ≡ call kind a b
  pub of-1-to-5 : code kind ≤ 5
  pub first : First E φ kind a b

-- no verdict, and no step of kinds 1 to 5 can be taken
pub record Quiet (φ : Formula) : Type 0 where
  pub no-verdict : NoVerdict φ
  pub none : (k : Kind) (a b : ℕ) → code k ≤ 5 → permitted φ k a b ≡ false

-- the entry e calls the step of kind 6 or 7 on v, and it counts
pub record OwnEntry (E : ℕ) (φ : Formula) (v e : ℕ) : Type 0 where
  pub quiet : Quiet φ
  pub kind : Kind
  pub calls : read_entry e ≡ call kind v 0
  pub of-6-or-7 : 6 ≤ code kind
  pub counts : allowed E φ e ≡ true

-- Places in the prefix -------------------------------------------------------------------------------------------
-- u is a universal right of x, and no universal right of x stands left of u
pub record FirstUniversal (φ : Formula) (x u : ℕ) : Type 0 where
  pub forall : universal φ.prefix u ≡ true
  pub right : left_of φ x u ≡ true
  pub first : (w : ℕ) → universal φ.prefix w ≡ true → left_of φ x w ≡ true → left_of φ w u ≡ false

-- e is an existential right of u, and no existential right of u stands left of e
pub record LeftmostExistential (φ : Formula) (u e : ℕ) : Type 0 where
  pub exists : existential φ.prefix e ≡ true
  pub right : left_of φ u e ≡ true
  pub leftmost : (d : ℕ) → existential φ.prefix d ≡ true → left_of φ u d ≡ true → left_of φ d e ≡ false

-- An existential -------------------------------------------------------------------------------------------------
-- clause i has the existential x and the variable y; u is the first universal right of x, and y does not stand left of it; no lower
-- clause with x has such a variable; and none of clause i that is such stands left of y
pub record TooFarRight (φ : Formula) (x i y u : ℕ) : Type 0 where
  pub quiet : Quiet φ
  pub exists : existential φ.prefix x ≡ true
  pub first-universal : FirstUniversal φ x u
  pub there : i < length φ.clauses
  pub has-x : mentions (clause_at φ.clauses i) x ≡ true
  pub has-y : mentions (clause_at φ.clauses i) y ≡ true
  pub far : left_of φ y u ≡ false
  pub lowest : (j z : ℕ) → j < i → mentions (clause_at φ.clauses j) x ≡ true → mentions (clause_at φ.clauses j) z ≡ true → left_of φ z u ≡ true
  pub leftmost : (z : ℕ) → mentions (clause_at φ.clauses i) z ≡ true → left_of φ z u ≡ false → left_of φ z y ≡ false

-- x may be resolved, from the weight m to the weight n, which is not lower
pub record NotLighter (φ : Formula) (x m n : ℕ) : Type 0 where
  pub quiet : Quiet φ
  pub may : permitted φ resolve x 0 ≡ true
  pub before : m ≡ weight φ
  pub after : n ≡ weight (result_of φ resolve x 0)
  pub no-fall : m ≤ n

-- A universal ----------------------------------------------------------------------------------------------------
-- e is the leftmost existential right of the universal u, and w the first universal right of e
pub record Between (φ : Formula) (u e w : ℕ) : Type 0 where
  pub quiet : Quiet φ
  pub forall : universal φ.prefix u ≡ true
  pub leftmost : LeftmostExistential φ u e
  pub first-universal : FirstUniversal φ e w

-- u may be expanded, from the weight m to the weight n, which is more than E over it
pub record TooHeavy (E : ℕ) (φ : Formula) (u m n : ℕ) : Type 0 where
  pub quiet : Quiet φ
  pub may : permitted φ expand u 0 ≡ true
  pub before : m ≡ weight φ
  pub after : n ≡ weight (result_of φ expand u 0)
  pub rise : m + E < n

-- Limits ---------------------------------------------------------------------------------------------------------
-- the formula passes the limit, and none of those before it
abbrev pub PassesFirst : Formula → Limit → Type 0
PassesFirst ψ of_variables = within of_variables ψ ≡ false
PassesFirst ψ of_clauses = (within of_variables ψ ≡ true) × (within of_clauses ψ ≡ false)
PassesFirst ψ of_literals = (within of_variables ψ ≡ true) × (within of_clauses ψ ≡ true) × (within of_literals ψ ≡ false)

-- the step of kind 6 or 7 on v may be taken, its weight is light enough, and its result passes the limit l first
pub record OverLimit (E : ℕ) (φ : Formula) (v : ℕ) (l : Limit) : Type 0 where
  pub quiet : Quiet φ
  pub kind : Kind
  pub of-6-or-7 : 6 ≤ code kind
  pub may : permitted φ kind v 0 ≡ true
  pub light-enough : light E kind (weight φ) (weight (result_of φ kind v 0)) ≡ true
  pub passes : PassesFirst (result_of φ kind v 0) l

-- What the reason r for the variable v says ----------------------------------------------------------------------
abbrev pub Says : ℕ → Formula → ℕ → Reason → Type 0
Says E φ v (verdict b) = Verdict φ b
Says E φ v (next_entry e) = NextEntry E φ e
Says E φ v (own_entry e) = OwnEntry E φ v e
Says E φ v (too_far_right i y u) = TooFarRight φ v i y u
Says E φ v (not_lighter m n) = NotLighter φ v m n
Says E φ v (between e w) = Between φ v e w
Says E φ v (too_heavy m n) = TooHeavy E φ v m n
Says E φ v (over_limit l) = OverLimit E φ v l

-- the reason is neither a verdict nor an entry: it names what keeps the variable
unfoldable pub keeps : Reason → Bool
keeps (verdict b) = false
keeps (next_entry e) = false
keeps (own_entry e) = false
keeps (too_far_right i y u) = true
keeps (not_lighter m n) = true
keeps (between e w) = true
keeps (too_heavy m n) = true
keeps (over_limit l) = true

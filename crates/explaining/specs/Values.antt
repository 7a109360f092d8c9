-- A reason as numbers, for those who take numbers only: one for its kind, and three for the values that it names, in their order; those that it has not are 0.
-- Assumes nothing.
use Rattle.std.specs.Prelude.{ℕ, List, [], ◌∷◌}
use Rattle.explaining.specs.declared.explains.ReasonAnswer.{ReasonAnswer}
use Rattle.explaining.specs.declared.explains.ReasonAnswer.TheVariants as says

-- a verdict and a refusal have document 01's number, and no kind
unfoldable pub reason_kind : ReasonAnswer → ℕ
reason_kind says.True = 0
reason_kind says.False = 0
reason_kind (says.NextEntry e) = 1
reason_kind (says.OwnEntry e) = 2
reason_kind (says.TooFarRight i y u) = 3
reason_kind (says.NotLighter m n) = 4
reason_kind (says.Between e u) = 5
reason_kind (says.TooHeavy m n) = 6
reason_kind says.OverVariables = 7
reason_kind says.OverClauses = 8
reason_kind says.OverLiterals = 9
reason_kind says.Length = 0
reason_kind says.Malformed = 0
reason_kind says.Allowance = 0
reason_kind says.NotPermitted = 0

unfoldable pub triple : ℕ → ℕ → ℕ → List ℕ
triple a b c = a ∷ (b ∷ (c ∷ []))

unfoldable pub no_values : List ℕ
no_values = triple 0 0 0

-- the entry; the clause, the variable and the universal; the weight and the weight after; the existential and the universal
unfoldable pub reason_values : ReasonAnswer → List ℕ
reason_values says.True = no_values
reason_values says.False = no_values
reason_values (says.NextEntry e) = triple e 0 0
reason_values (says.OwnEntry e) = triple e 0 0
reason_values (says.TooFarRight i y u) = triple i y u
reason_values (says.NotLighter m n) = triple m n 0
reason_values (says.Between e u) = triple e u 0
reason_values (says.TooHeavy m n) = triple m n 0
reason_values says.OverVariables = no_values
reason_values says.OverClauses = no_values
reason_values says.OverLiterals = no_values
reason_values says.Length = no_values
reason_values says.Malformed = no_values
reason_values says.Allowance = no_values
reason_values says.NotPermitted = no_values

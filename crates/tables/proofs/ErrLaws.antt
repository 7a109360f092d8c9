-- What holds whether or not there is an error holds at the error.
-- Assumes nothing.
use Rattle.std.specs.Prelude.{Result, Ok, Err, IfErr}

pub any-err : {T E : Type 0} (r : Result T E) {A : Type 0} → A → IfErr r (λ _. A)
any-err (Ok v) a = tt
any-err (Err e) a = a

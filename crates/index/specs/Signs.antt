-- Signatures: 16 bits of a clause, told by its variables. If every variable of one clause is in another, the signature of the one is a
-- part of that of the other; so two numbers can tell that a clause is no part of another, and strengthens nothing of it.
-- Assumes nothing.
use Rattle.std.specs.Prelude.{◌≡◌, Bool, ℕ, suc, ◌%◌, ◌^◌, ◌<◌, length, get_or, set}
use mathlib.Core.List.{List, [], ◌∷◌, foldl}
use Rattle.std.specs.Int.Bits.{bit_or}
use Rattle.meaning.specs.Lists.{all_of}
use Rattle.meaning.specs.Formula.{var, mentions}

-- the bit of a literal, by its variable: a literal and its opposite have the same
unfoldable pub bit_of : ℕ → ℕ
bit_of l = 2 ^ (var l % 16)

unfoldable pub sign_on : ℕ → ℕ → ℕ
sign_on s l = bit_or s (bit_of l)

-- the bits of all literals of the clause
unfoldable pub signature_of : List ℕ → ℕ
signature_of c = foldl sign_on 0 c

-- every variable of x is one of y
unfoldable pub variables_in : List ℕ → List ℕ → Bool
variables_in x y = all_of (λ l. mentions y (var l)) x

-- the table with the signatures of the clauses in its places from at on, as far as there are places
unfoldable pub signed : ℕ → List (List ℕ) → List ℕ → List ℕ
signed at [] t = t
signed at (c ∷ cs) t = signed (suc at) cs (set t at (signature_of c))

-- each place that has the number of a clause holds the signature of the clause
pub record Signs (cs : List (List ℕ)) (signs : List ℕ) : Type 0 where
  pub each : (i : ℕ) → i < length cs → i < length signs → get_or signs i 0 ≡ signature_of (get_or cs i [])

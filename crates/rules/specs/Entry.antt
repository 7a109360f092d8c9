-- Log entries and logs (document 01, "Log entry").
-- Assumes nothing.
use Rattle.std.specs.Prelude.{ℕ, ◌+◌, ◌*◌, ◌/◌, ◌%◌, Bool, true, false, ◌&&◌, ◌||◌, cond, List, [], ◌∷◌, ◌++◌, eqb}

-- the seven kinds of step, and their numbers
pub data Kind : Type 0 where
  unit pure subsume strengthen equality resolve expand : Kind

unfoldable pub code : Kind → ℕ
code unit = 1
code pure = 2
code subsume = 3
code strengthen = 4
code equality = 5
code resolve = 6
code expand = 7

-- "b is 0 in kinds 1, 2, 6, 7"; in the others it is a clause
unfoldable pub uses_b : Kind → Bool
uses_b unit = false
uses_b pure = false
uses_b subsume = true
uses_b strengthen = true
uses_b equality = true
uses_b resolve = false
uses_b expand = false

-- "32 bits, most significant first: kind 3, a 11, b 11, seven zeros"
unfoldable pub entry : Kind → ℕ → ℕ → ℕ
entry k a b = code k * 536870912 + (a * 262144 + b * 128)

-- Back from a number -----------------------------------------------------------------------------------------
pub data KindRead : Type 0 where
  no_kind : KindRead
  is_kind : Kind → KindRead

unfoldable pub kind_at : ℕ → KindRead
kind_at c =
    cond (eqb c 1) (is_kind unit) (cond (eqb c 2) (is_kind pure) (cond (eqb c 3) (is_kind subsume) (cond (eqb c 4) (is_kind strengthen)
    (cond (eqb c 5) (is_kind equality) (cond (eqb c 6) (is_kind resolve) (cond (eqb c 7) (is_kind expand) no_kind))))))

-- what a number says: it is a BAD ENTRY, or it calls a step
pub data Call : Type 0 where
  bad : Call
  call : Kind → ℕ → ℕ → Call

-- "kind 0, low seven bits or an unused b not zero" is bad, and so is what has more than 32 bits
unfoldable pub call_of : KindRead → ℕ → ℕ → ℕ → Call
call_of no_kind a b low = bad
call_of (is_kind k) a b low = cond (eqb low 0 && (uses_b k || eqb b 0)) (call k a b) bad

unfoldable pub read_entry : ℕ → Call
read_entry n = call_of (kind_at (n / 536870912)) (n / 262144 % 2048) (n / 128 % 2048) (n % 128)

-- Logs -------------------------------------------------------------------------------------------------------
-- a log is its entries as bytes, four each, most significant first
unfoldable pub entry_bytes : ℕ → List ℕ
entry_bytes n = n / 16777216 % 256 ∷ n / 65536 % 256 ∷ n / 256 % 256 ∷ n % 256 ∷ []

unfoldable pub log_bytes : List ℕ → List ℕ
log_bytes [] = []
log_bytes (e ∷ es) = entry_bytes e ++ log_bytes es

unfoldable pub byte_entry : ℕ → ℕ → ℕ → ℕ → ℕ
byte_entry a b c d = a * 16777216 + (b * 65536 + (c * 256 + d))

-- the entries of a log, unless its length is not a multiple of 4
pub data LogRead : Type 0 where
  bad_length : LogRead
  entries : List ℕ → LogRead

unfoldable pub one_more : ℕ → LogRead → LogRead
one_more e bad_length = bad_length
one_more e (entries es) = entries (e ∷ es)

unfoldable pub read_log : List ℕ → LogRead
read_log [] = entries []
read_log (a ∷ []) = bad_length
read_log (a ∷ b ∷ []) = bad_length
read_log (a ∷ b ∷ c ∷ []) = bad_length
read_log (a ∷ b ∷ c ∷ d ∷ bs) = one_more (byte_entry a b c d) (read_log bs)

-- Writing (document 01, "Reading and writing").
-- Assumes nothing.
use Rattle.std.specs.Prelude.{cond, List, [], ◌∷◌, ◌++◌, ℕ, zero, suc, ◌+◌, ◌/◌, ◌%◌, max, ltb, eqb, length}
use Prim.Native.Char.{code}
use Rattle.meaning.specs.Formula.{Formula, var, odd}

-- the digits of n; the first argument, at least n, bounds their number
unfoldable pub digits : ℕ → ℕ → List ℕ
digits zero n = (code "0" + n) ∷ []
digits (suc k) n = let longer = digits k (n / 10) ++ ((code "0" + n % 10) ∷ []) in cond (ltb n 10) ((code "0" + n) ∷ []) longer

unfoldable pub decimal : ℕ → List ℕ
decimal n = digits n n

-- `a` for a universal, `e` for an existential
unfoldable pub letter : ℕ → ℕ
letter e = cond (odd e) (code "a") (code "e")

-- "M the largest prefix variable (0 if none)"
unfoldable pub largest : List ℕ → ℕ
largest [] = 0
largest (e ∷ es) = max (var e) (largest es)

-- "one line per stretch of equal quantifiers": what follows the entry q and a blank, the rest of its line and the further lines
unfoldable pub line_rest : ℕ → List ℕ → List ℕ
line_rest q [] = code "0" ∷ code "\n" ∷ []
line_rest q (e ∷ es) =
    cond (eqb (q % 2) (e % 2))
    (decimal (var e) ++ (code " " ∷ line_rest e es))
    (code "0" ∷ code "\n" ∷ letter e ∷ code " " ∷ (decimal (var e) ++ (code " " ∷ line_rest e es)))

unfoldable pub prefix_lines : List ℕ → List ℕ
prefix_lines [] = []
prefix_lines (e ∷ es) = letter e ∷ code " " ∷ (decimal (var e) ++ (code " " ∷ line_rest e es))

-- "one per clause by ascending variable, single spaces, each line ended by LF; the empty clause is `0`"
unfoldable pub literal_text : ℕ → List ℕ
literal_text l = cond (odd l) (code "-" ∷ decimal (var l)) (decimal (var l))

unfoldable pub clause_line : List ℕ → List ℕ
clause_line [] = code "0" ∷ code "\n" ∷ []
clause_line (l ∷ ls) = literal_text l ++ (code " " ∷ clause_line ls)

unfoldable pub clause_lines : List (List ℕ) → List ℕ
clause_lines [] = []
clause_lines (c ∷ cs) = clause_line c ++ clause_lines cs

-- "`p cnf M C`"
unfoldable pub header : ℕ → ℕ → List ℕ → List ℕ
header m c rest = code "p" ∷ code " " ∷ code "c" ∷ code "n" ∷ code "f" ∷ code " " ∷ (decimal m ++ (code " " ∷ (decimal c ++ (code "\n" ∷ rest))))

unfoldable pub write : Formula → List ℕ
write φ = header (largest φ.prefix) (length φ.clauses) (prefix_lines φ.prefix ++ clause_lines φ.clauses)

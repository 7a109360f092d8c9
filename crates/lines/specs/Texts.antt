-- Parts of lines: a number with the byte after it, the end of a line of numbers, what is written for one prefix entry.
-- Assumes nothing.
use Rattle.std.specs.Prelude.{cond, List, [], ◌∷◌, ◌++◌, ℕ, ◌%◌, eqb}
use Prim.Native.Char.{code}
use Rattle.meaning.specs.Formula.{var}
use Rattle.qdimacs.specs.Write.{decimal, letter}

-- a number and the byte b
unfoldable pub field_text : ℕ → ℕ → List ℕ
field_text n b = decimal n ++ (b ∷ [])

-- the end of a line of numbers
unfoldable pub end_text : List ℕ
end_text = code "0" ∷ code "\n" ∷ []

-- the first entry of a line: its letter, a space, its variable, a space
unfoldable pub first_text : ℕ → List ℕ
first_text e = letter e ∷ code " " ∷ field_text (var e) (code " ")

-- the entry e after the entry q
unfoldable pub entry_text : ℕ → ℕ → List ℕ
entry_text q e = cond (eqb (q % 2) (e % 2)) (field_text (var e) (code " ")) (end_text ++ first_text e)

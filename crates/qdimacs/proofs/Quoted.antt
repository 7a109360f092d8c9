-- A text in quotes, as its bytes: for the cases. Assumes nothing.
use Prim.Native.Nat.{ℕ}
use Prim.Native.Char.{code}
use Prim.Native.String.{String, [] as []ˢ, ◌∷◌ as ◌∷ˢ◌}
use mathlib.Core.List.{List, [], ◌∷◌}

unfoldable pub bytes_of : String → List ℕ
bytes_of []ˢ = []
bytes_of (c ∷ˢ s) = code c ∷ bytes_of s

-- How a number is put into its place in an ascending front of a list.
-- Assumes nothing.
use Rattle.std.specs.Prelude.{ℕ, suc, ◌+◌, ◌-◌, cond, List, [], ◌∷◌, ◌++◌, ltb, take, drop}

-- how many numbers at the front of l are below x
unfoldable pub count_below : List ℕ → ℕ → ℕ
count_below [] x = 0
count_below (y ∷ l) x = cond (ltb y x) (suc (count_below l x)) 0

-- s with the numbers from p to m one place further right; what stood at p stays there too
unfoldable pub shifted : List ℕ → ℕ → ℕ → List ℕ
shifted s p m = take (p + 1) s ++ (take (m - p) (drop p s) ++ drop (m + 1) s)

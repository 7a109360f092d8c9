-- Lists whose numbers rise from left to right.
-- Assumes nothing.
use Rattle.std.specs.Prelude.{Bool, true, ◌&&◌, List, [], ◌∷◌, ℕ, ltb}
use Rattle.meaning.specs.Lists.{all_of}

unfoldable pub rising : List ℕ → Bool
rising [] = true
rising (l ∷ c) = all_of (λ k. ltb l k) c && rising c

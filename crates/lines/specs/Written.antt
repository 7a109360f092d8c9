-- What a writer does to a buffer, and what is told of a size.
-- Assumes nothing.
use Rattle.std.specs.Prelude.{◌≡◌, List, ℕ, ◌+◌, ◌≤◌, length}
use Rattle.std.proofs.lemmas.List.Edits.{sets}

-- the buffer has room for the text at the place `at`
pub record Room (text : List ℕ) (at : ℕ) (out : List ℕ) : Type 0 where
  pub fits : at + length text ≤ length out

-- the text stands at the place `at`, all else is as before, and `r` is the place after the text
pub record Written (text : List ℕ) (at : ℕ) (before after : List ℕ) (r : ℕ) : Type 0 where
  pub place : r ≡ at + length text
  pub bytes : after ≡ sets before at text

-- r is the size of the text, and at most `most`
pub record Sized (text : List ℕ) (most r : ℕ) : Type 0 where
  pub is : r ≡ length text
  pub few : r ≤ most

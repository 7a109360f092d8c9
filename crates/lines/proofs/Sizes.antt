-- How many digits a number has.
-- Assumes nothing.
use mathlib.Core.Path.{◌≡◌, ap, ◌∙◌}
use Prim.Native.Nat.{ℕ, ◌+◌, ◌*◌, ◌/◌, ◌%◌, ◌≤◌, ◌<◌}
use Prim.Native.Char.{code}
use native.Mathlib.Omega.{arith}
use lib.ListN.{length, length-append}
use mathlib.Core.List.{[], ◌∷◌}
use Rattle.qdimacs.specs.Write.{decimal}
use Rattle.qdimacs.proofs.Words.{decimal-short, decimal-long}

pub size-one : (n : ℕ) → n < 10 → length (decimal n) ≡ 1
size-one n h = ap length (decimal-short n h)

pub size-long : (n : ℕ) → 10 ≤ n → length (decimal n) ≡ length (decimal (n / 10)) + 1
size-long n h = ap length (decimal-long n h) ∙ length-append (decimal (n / 10)) ((code "0" + n % 10) ∷ [])

-- ten times as large, one digit more
more : (k lo hi : ℕ) → 1 ≤ lo → ((n : ℕ) → lo ≤ n → n < hi → length (decimal n) ≡ k) → (n : ℕ) → 10 * lo ≤ n → n < 10 * hi → length (decimal n) ≡ k + 1
more k lo hi p h n a b = omega (arith, size-long n (omega arith), h (n / 10) (omega arith) (omega arith))

pub size-two : (n : ℕ) → 10 ≤ n → n < 100 → length (decimal n) ≡ 2
size-two = more 1 1 10 (omega arith) (λ n _ h. size-one n h)

pub size-three : (n : ℕ) → 100 ≤ n → n < 1000 → length (decimal n) ≡ 3
size-three = more 2 10 100 (omega arith) size-two

pub size-four : (n : ℕ) → 1000 ≤ n → n < 10000 → length (decimal n) ≡ 4
size-four = more 3 100 1000 (omega arith) size-three

pub size-five : (n : ℕ) → 10000 ≤ n → n < 100000 → length (decimal n) ≡ 5
size-five = more 4 1000 10000 (omega arith) size-four

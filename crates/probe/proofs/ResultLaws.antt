-- Bytes put one part after the other, and how far a table reaches.
-- Assumes nothing.
use Prim.Native.Nat.{ℕ, zero, suc, ◌+◌, ◌*◌, ◌≤◌, ◌<◌}
use mathlib.Core.Path.{◌≡◌, refl, sym, ap, ◌∙◌}
use mathlib.Core.List.{List, [], ◌∷◌, ◌++◌, append_assoc, append-nil}
use native.Mathlib.Omega.{arith}
use lib.ListN.{length, get_or, take, set, length-append, length-set}
use Rattle.std.proofs.lemmas.List.{take_more}
use Rattle.std.proofs.lemmas.Grind.{take-set_at}
use Rattle.std.specs.Int.{w16, w64, to_le_bytes}
use Rattle.probe.specs.Results.{Puts, of_count, of_counts, of_numbers, reached}

-- one part behind the other
pub both : (old a b middle new : List ℕ) → Puts old a middle → Puts middle b new → Puts old (a ++ b) new
both old a b middle new p q h =
    let e : middle ≡ old ++ a = p (omega (arith, length-append a b)) in
    q (omega (arith, ap length e, length-append old a, length-append a b)) ∙ ap (λ l. l ++ b) e ∙ append_assoc old a b

pub puts-same : (old a b new : List ℕ) → a ≡ b → Puts old a new → Puts old b new
puts-same old a b new e p h = p (omega (arith, ap length e)) ∙ ap (λ l. old ++ l) e

pub length-numbers : (xs : List ℕ) → length (of_numbers xs) ≡ 2 * length xs
unfolding of_numbers
length-numbers [] = refl
length-numbers (x ∷ xs) = omega (arith, length-numbers xs)

-- the place behind the last number that is not zero
pub reached_is : (t : List ℕ) (n : ℕ) → n ≤ length t → ((k : ℕ) → n ≤ k → get_or t k 0 ≡ 0) → ((k : ℕ) → n ≡ k + 1 → 0 < get_or t k 0) → n ≡ reached t
unfolding reached
reached_is [] n h z p = omega arith
reached_is (x ∷ xs) zero h z p =
    let r = reached_is xs zero (omega arith) (λ k l. z (suc k) (omega arith)) (λ k e. absurd (omega arith)) in
    rw (sym r, z 0 (omega arith)) refl
reached_is (x ∷ xs) (suc zero) h z p =
    let r = reached_is xs zero (omega arith) (λ k l. z (suc k) (omega arith)) (λ k e. absurd (omega arith)) in
    let q : 0 < x = p 0 (omega arith) in
    rw (sym r) (grind arith)
reached_is (x ∷ xs) (suc (suc m)) h z p =
    let r = reached_is xs (suc m) (omega arith) (λ k l. z (suc k) (omega arith)) (λ k e. p (suc k) (omega arith)) in
    rw (sym r) (grind arith)

-- numbers behind one another, their bytes too
pub numbers-append : (xs ys : List ℕ) → of_numbers (xs ++ ys) ≡ of_numbers xs ++ of_numbers ys
unfolding of_numbers
numbers-append [] ys = refl
numbers-append (x ∷ xs) ys = ap (λ l. to_le_bytes w16 x ++ l) (numbers-append xs ys) ∙ sym (append_assoc (to_le_bytes w16 x) (of_numbers xs) (of_numbers ys))

-- one more number, at its place in the block
pub fill_more : (b xs : List ℕ) (i low high : ℕ) → i < length xs → 2 * i + 1 < length b → take (2 * i) b ≡ of_numbers (take i xs) → low ∷ high ∷ [] ≡ to_le_bytes w16 (get_or xs i 0) → take (2 * (i + 1)) (set (set b (2 * i) low) (2 * i + 1) high) ≡ of_numbers (take (i + 1) xs)
unfolding of_numbers
fill_more b xs i low high h room inv bytes =
    let one : take (2 * i + 1) (set b (2 * i) low) ≡ take (2 * i) b ++ low ∷ [] = take-set_at b (2 * i) (2 * i + 1) low refl (omega arith) in
    let two : take (2 * (i + 1)) (set (set b (2 * i) low) (2 * i + 1) high) ≡ take (2 * i + 1) (set b (2 * i) low) ++ high ∷ [] = take-set_at (set b (2 * i) low) (2 * i + 1) (2 * (i + 1)) high (omega arith) (simp length-set (omega arith)) in
    let more : take (i + 1) xs ≡ take i xs ++ get_or xs i 0 ∷ [] = take_more xs i 0 h in
    two ∙ ap (λ l. l ++ high ∷ []) (one ∙ ap (λ l. l ++ low ∷ []) inv) ∙ append_assoc (of_numbers (take i xs)) (low ∷ []) (high ∷ []) ∙ ap (λ l. of_numbers (take i xs) ++ l) bytes ∙ sym (ap of_numbers more ∙ numbers-append (take i xs) (get_or xs i 0 ∷ []))

-- a part of what is left has been put: the rest is left
pub part_put : (start xs now part left rest new block : List ℕ) → now ++ of_numbers left ≡ start ++ of_numbers xs → left ≡ part ++ rest → block ≡ of_numbers part → new ≡ now ++ block → new ++ of_numbers rest ≡ start ++ of_numbers xs
part_put start xs now part left rest new block inv cut e f =
    ap (λ l. l ++ of_numbers rest) (f ∙ ap (λ l. now ++ l) e) ∙ append_assoc now (of_numbers part) (of_numbers rest) ∙ ap (λ l. now ++ l) (sym (ap of_numbers cut ∙ numbers-append part rest)) ∙ inv

pub numbers-end : (start xs now rest : List ℕ) → now ++ of_numbers rest ≡ start ++ of_numbers xs → length rest ≡ 0 → now ≡ start ++ of_numbers xs
unfolding of_numbers
numbers-end start xs now [] inv h = sym (append-nil now) ∙ inv
numbers-end start xs now (x ∷ rest) inv h = absurd (omega arith)

pub three-counts : (l a b c : List ℕ) → length l ≡ 3 → a ≡ to_le_bytes w64 (get_or l 0 0) → b ≡ to_le_bytes w64 (get_or l 1 0) → c ≡ to_le_bytes w64 (get_or l 2 0) → a ++ (b ++ (c ++ [])) ≡ of_counts l
unfolding of_counts of_count
three-counts [] a b c h p q r = absurd (omega arith)
three-counts (x ∷ []) a b c h p q r = absurd (omega arith)
three-counts (x ∷ y ∷ []) a b c h p q r = absurd (omega arith)
three-counts (x ∷ y ∷ z ∷ []) a b c h p q r = ap (λ l. l ++ (b ++ (c ++ []))) p ∙ ap (λ l. to_le_bytes w64 x ++ (l ++ (c ++ []))) q ∙ ap (λ l. to_le_bytes w64 x ++ (to_le_bytes w64 y ++ (l ++ []))) r
three-counts (x ∷ y ∷ z ∷ w ∷ rest) a b c h p q r = absurd (omega arith)

-- Building in order, clause by clause: what is there afterwards, and that it never gets lighter.
-- Assumes nothing.
use Prim.Native.Nat.{ℕ, ◌+◌, ◌≤◌, ◌<◌}
use mathlib.Core.Path.{◌≡◌, refl, sym, ap, ◌∙◌}
use mathlib.Core.Bool.{Bool, true, false, ◌||◌, cond}
use mathlib.Core.List.{List, [], ◌∷◌, ◌++◌}
use lib.ListN.{length, get_or, take, length-append}
use lib.Seq.{take-suc}
use native.Mathlib.Numerals.{add-one}
use native.Mathlib.Omega.{arith}
use Rattle.meaning.specs.Lists.{any_of, same}
use Rattle.meaning.specs.Tidy.{Tidied, dropped, kept, tidy, add_tidied, build_on}
use Rattle.meaning.specs.WellFormed.{literals}
use Rattle.resolvents.specs.Resolvent.{becomes}
use Rattle.meaning.proofs.Basics.{or-false}
use Rattle.meaning.proofs.Lists.{any_append, same-path}
use Rattle.meaning.proofs.Weight.{size}
use Rattle.table.proofs.PadLaws.{literals-snoc}

pub build-append : (p : List ℕ) (cs xs ys : List (List ℕ)) → build_on p cs (xs ++ ys) ≡ build_on p (build_on p cs xs) ys
unfolding build_on
build-append p cs [] ys = refl
build-append p cs (x ∷ xs) ys = build-append p (add_tidied cs (tidy p x)) xs ys

-- one raw clause more
pub build-next : (p : List ℕ) (cs raws : List (List ℕ)) (k : ℕ) → k < length raws
    → build_on p cs (take (k + 1) raws) ≡ add_tidied (build_on p cs (take k raws)) (tidy p (get_or raws k []))
unfolding build_on
build-next p cs raws k h = rw (add-one, take-suc raws k []) (build-append p cs (take k raws) (get_or raws k [] ∷ []))

-- What is there -------------------------------------------------------------------------------------------------------
any-add : (c : List ℕ) (cs : List (List ℕ)) (x : Tidied) → any_of (same c) (add_tidied cs x) ≡ (any_of (same c) cs || becomes c x)
unfolding add_tidied becomes
any-add c cs dropped = sym (or-false (any_of (same c) cs))
any-add c cs (kept d) = go (any_of (same d) cs) refl
  where
    there : (b : Bool) → same c d ≡ b → any_of (same d) cs ≡ true → any_of (same c) cs ≡ (any_of (same c) cs || b)
    there true e i = rw (same-path c d e, i)
    there false e i = sym (or-false (any_of (same c) cs))

    go : (b : Bool) → any_of (same d) cs ≡ b → any_of (same c) (cond b cs (cs ++ (d ∷ []))) ≡ (any_of (same c) cs || same c d)
    go true i = there (same c d) refl i
    go false i = any_append (same c) cs (d ∷ []) ∙ (unfold any_of in ap (λ (b : Bool). any_of (same c) cs || b) (or-false (same c d)))

pub any-built : (p c : List ℕ) (cs raws : List (List ℕ))
    → any_of (same c) (build_on p cs raws) ≡ (any_of (same c) cs || any_of (λ raw. becomes c (tidy p raw)) raws)
unfolding build_on any_of
any-built p c cs [] = sym (or-false (any_of (same c) cs))
any-built p c cs (r ∷ raws) =
    any-built p c (add_tidied cs (tidy p r)) raws
    ∙ rw (any-add c cs (tidy p r)) (assoc (any_of (same c) cs) (becomes c (tidy p r)) (any_of (λ raw. becomes c (tidy p raw)) raws))
  where
    assoc : (x y z : Bool) → ((x || y) || z) ≡ (x || (y || z))
    assoc true y z = refl
    assoc false y z = refl

-- Its weight ----------------------------------------------------------------------------------------------------------
-- what a clause adds
pub add_none : (cs : List (List ℕ)) (c : List ℕ) → any_of (same c) cs ≡ true → add_tidied cs (kept c) ≡ cs
unfolding add_tidied
add_none cs c h = rw h

pub add-clauses : (cs : List (List ℕ)) (c : List ℕ) → any_of (same c) cs ≡ false → length (add_tidied cs (kept c)) ≡ length cs + 1
unfolding add_tidied
add-clauses cs c h = rw h (length-append cs (c ∷ []))

pub add-literals : (cs : List (List ℕ)) (c : List ℕ) → any_of (same c) cs ≡ false → literals (add_tidied cs (kept c)) ≡ literals cs + length c
unfolding add_tidied
add-literals cs c h = rw h (literals-snoc cs c)

add-grows : (cs : List (List ℕ)) (x : Tidied) → size cs ≤ size (add_tidied cs x)
unfolding add_tidied
add-grows cs dropped = omega arith
add-grows cs (kept c) = go (any_of (same c) cs)
  where
    go : (b : Bool) → size cs ≤ size (cond b cs (cs ++ (c ∷ [])))
    go true = omega arith
    go false = omega (arith, length-append cs (c ∷ []), literals-snoc cs c)

pub build-grows : (p : List ℕ) (cs raws : List (List ℕ)) → size cs ≤ size (build_on p cs raws)
unfolding build_on
build-grows p cs [] = omega arith
build-grows p cs (r ∷ raws) = omega (arith, add-grows cs (tidy p r), build-grows p (add_tidied cs (tidy p r)) raws)

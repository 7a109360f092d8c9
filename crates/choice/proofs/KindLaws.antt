-- From the candidate of each kind to what the run does next.
-- Assumes nothing.
use Prim.Native.Nat.{ℕ, ◌<◌}
use mathlib.Core.Path.{◌≡◌, refl, sym, ap, ◌∙◌, fun_ext}
use mathlib.Core.Bool.{Bool, true, false, ◌&&◌, ◌||◌}
use mathlib.Core.List.{List, [], ◌∷◌}
use native.Mathlib.Omega.{arith}
use lib.ListN.{length}
use Rattle.meaning.specs.Lists.{any_of}
use Rattle.meaning.specs.Formula.{Formula}
use Rattle.meaning.specs.Game.{empty_clause, no_clause}
use Rattle.meaning.specs.WellFormed.{fits}
use Rattle.rules.specs.Entry.{Kind, unit, pure, subsume, strengthen, equality, resolve, expand, uses_b, entry}
use Rattle.rules.specs.Step.{permitted, result_of}
use Rattle.rules.specs.Choice.{Found, none, found, costly, wanted, blocked_call, firsts, seconds, candidate, any_blocked, stuck, take_found, choose_of, choose}
use Rattle.rules.specs.Run as rules
use Rattle.rules.specs.Run.{over, step, true_end, false_end}
use Rattle.rules.proofs.Permitted.{allowed-wanted, wanted-permitted}
use Rattle.rules.proofs.Choose.{find-found, fields-of}
use Rattle.rules.proofs.Search.{found-lightest}
use Rattle.search.specs.Candidates.{found_as}
use Rattle.std.specs.Prelude.{Option, Some, None, Result, Ok, Err}
use Rattle.search.specs.Searched.{SearchedTo}
use Rattle.meaning.proofs.Basics.{or-false}
use Rattle.choice.specs.Chosen.{next_as, lack_of, best_as, any_of_kind, best_of, kinds_after, stuck_as, next_from, SearchedAfter, ChosenAs}
use Rattle.choice.specs.declared.Chosen.{Chosen}
use Rattle.choice.specs.declared.Next.{Next}
use Rattle.choice.specs.declared.Next.TheVariants.{Step}
use Rattle.choice.specs.declared.Lack.{Lack}

-- a candidate, as the code has it
pair_is : (f : Found) (a b : ℕ) → Some (a, b) ≡ found_as f → f ≡ found a b
unfolding found_as
pair_is none a b e = let z : ◌≡◌ {A = ℕ} 0 1 = cc in absurd (omega arith)
pair_is (found c d) a b e =
    let p : ◌≡◌ {A = ℕ × ℕ} (a, b) (c, d) = cc in
    let x = ap (λ (q : ℕ × ℕ). q.0) p in
    let y = ap (λ (q : ℕ × ℕ). q.1) p in
    cc

nothing_is : (f : Found) → None ≡ found_as f → f ≡ none
unfolding found_as
nothing_is none e = refl
nothing_is (found c d) e = let z : ◌≡◌ {A = ℕ} 0 1 = cc in absurd (omega arith)

lightest-is : (f : Found) (room : Bool) (a : ℕ) → Ok a ≡ best_as f room → (b : ℕ) × (f ≡ found a b)
unfolding best_as
lightest-is none room a e = let z : ◌≡◌ {A = ℕ} 0 1 = cc in absurd (omega arith)
lightest-is (found c d) room a e = (d, cc)

none_is : (f : Found) (room : Bool) (too : Lack) → Err too ≡ best_as f room → (f ≡ none) × (too ≡ lack_of room)
unfolding best_as
none_is none room too e = (refl, cc)
none_is (found c d) room too e = let z : ◌≡◌ {A = ℕ} 0 1 = cc in absurd (omega arith)

-- a step that the run takes next: n is its entry, and the first q clauses of its result are searched
taken : (φ : Formula) (x : rules.Next) (k : Kind) (a b : ℕ) → x ≡ step k a b → (n : ℕ) → n ≡ entry k a b → (q : ℕ) → SearchedTo (result_of φ k a b) q
    → ChosenAs φ x (record { next = Step n; searched = q })
unfolding next_as
taken φ x k a b e n h q s = rw e (record { next = ap Step h; searched = s })

module _ (E : ℕ) (φ : Formula) (k : Kind) where
  found-next : (a b : ℕ) → candidate E φ k ≡ found a b → next_from E φ k ≡ step k a b
  unfolding next_from choose_of take_found rules.next_of
  found-next a b e = rw e

  none-next : candidate E φ k ≡ none → rules.next_of (choose_of E φ (kinds_after k)) ≡ next_from E φ k
  unfolding next_from choose_of take_found
  none-next e = rw e

  -- a and b fit into an entry
  module _ (fit : fits φ ≡ true) where
    small : (a b : ℕ) → candidate E φ k ≡ found a b → (a < 2048) × (b < 2048)
    small a b e = let l = fields-of φ fit k a b (find-found E φ k a b e).listed-as in (l.a_small, l.b-small)

-- Kinds 1 to 5 -------------------------------------------------------------------------------------------------
module _ (E : ℕ) (φ : Formula) (k : Kind) (r : Option (ℕ × ℕ)) (is : r ≡ found_as (candidate E φ k)) where
  pub pair_small : fits φ ≡ true → (a b : ℕ) → r ≡ Some (a, b) → (a < 2048) × (b < 2048)
  pair_small fit a b e = small E φ k fit a b (pair_is (candidate E φ k) a b (sym e ∙ is))

  pub pair-permitted : (a b : ℕ) → r ≡ Some (a, b) → permitted φ k a b ≡ true
  pair-permitted a b e =
      wanted-permitted E φ k a b (allowed-wanted E φ k a b (find-found E φ k a b (pair_is (candidate E φ k) a b (sym e ∙ is))).counts)

  pub pair-next : (a b : ℕ) → r ≡ Some (a, b) → (n : ℕ) → n ≡ entry k a b → (q : ℕ) → SearchedTo (result_of φ k a b) q
      → ChosenAs φ (next_from E φ k) (record { next = Step n; searched = q })
  pair-next a b e = taken φ (next_from E φ k) k a b (found-next E φ k a b (pair_is (candidate E φ k) a b (sym e ∙ is)))

  pub nothing-found : r ≡ None → candidate E φ k ≡ none
  nothing-found e = nothing_is (candidate E φ k) (sym e ∙ is)

  pub nothing-next : r ≡ None → (x : Chosen) → ChosenAs φ (rules.next_of (choose_of E φ (kinds_after k))) x → ChosenAs φ (next_from E φ k) x
  nothing-next e x h = rw (none-next E φ k (nothing-found e)) at h

-- Kinds 6 and 7 ------------------------------------------------------------------------------------------------
module _ (E : ℕ) (φ : Formula) (k : Kind) (r : Result ℕ Lack) (is : r ≡ best_of E φ k) where
  best-found : (a : ℕ) → r ≡ Ok a → (b : ℕ) × (candidate E φ k ≡ found a b)
  unfolding best_of
  best-found a e = lightest-is (candidate E φ k) (any_of_kind E φ k) a (sym e ∙ is)

  pub best-small : fits φ ≡ true → (a : ℕ) → r ≡ Ok a → a < 2048
  best-small fit a e = let f = best-found a e in (small E φ k fit a f.0 f.1).0

  -- its b is 0
  pub best-next : costly k ≡ true → (a : ℕ) → r ≡ Ok a → (n : ℕ) → n ≡ entry k a 0 → (q : ℕ) → SearchedTo (result_of φ k a 0) q
      → ChosenAs φ (next_from E φ k) (record { next = Step n; searched = q })
  unfolding candidate
  best-next dear a e =
      let f = best-found a e in
      let z : f.0 ≡ 0 = (found-lightest _ _ _ a f.0 (rw dear at f.1)).no-b in
      taken φ (next_from E φ k) k a 0 (found-next E φ k a 0 (f.1 ∙ ap (found a) z))

  pub best_none : (too : Lack) → r ≡ Err too → (candidate E φ k ≡ none) × (too ≡ lack_of (any_of_kind E φ k))
  unfolding best_of
  best_none too e = none_is (candidate E φ k) (any_of_kind E φ k) too (sym e ∙ is)

  pub best-later : (too : Lack) → r ≡ Err too → (x : Chosen) → ChosenAs φ (rules.next_of (choose_of E φ (kinds_after k))) x
      → ChosenAs φ (next_from E φ k) x
  best-later too e x h = rw (none-next E φ k (best_none too e).0) at h

-- "OUT OF ROOM exactly if a kind 6 or 7 step failed only for room" ----------------------------------------------
any-never : {A : Type 0} (f : A → Bool) (l : List A) → ((x : A) → f x ≡ false) → any_of f l ≡ false
unfolding any_of
any-never f [] h = refl
any-never f (x ∷ l) h = rw (h x) (any-never f l h)

module _ (E : ℕ) (φ : Formula) where
  -- the kinds before need no room
  free : (k : Kind) → costly k ≡ false → any_of (λ a. any_of (blocked_call E φ k a) (seconds φ k)) (firsts φ k) ≡ false
  unfolding blocked_call
  free k e = any-never _ (firsts φ k) (λ a. any-never _ (seconds φ k) (λ b. rw e (and-false (wanted E φ k a b))))
    where
      and-false : (x : Bool) → (x && false) ≡ false
      and-false true = refl
      and-false false = refl

  dear : (k : Kind) → uses_b k ≡ false → any_of (λ a. any_of (blocked_call E φ k a) (seconds φ k)) (firsts φ k) ≡ any_of_kind E φ k
  unfolding any_of_kind seconds any_of
  dear k e = ap (λ (f : ℕ → Bool). any_of f (firsts φ k)) (fun_ext (λ a. rw e (or-false (blocked_call E φ k a 0))))

  blocked-is : (any_of_kind E φ resolve || any_of_kind E φ expand) ≡ any_blocked E φ
  unfolding any_blocked any_of costly uses_b
  blocked-is =
      sym (rw (free unit refl, free pure refl, free subsume refl, free strengthen refl, free equality refl, dear resolve refl, dear expand refl) (ap (λ x. any_of_kind E φ resolve || x) (or-false (any_of_kind E φ expand))))

  over-searched : (b : Bool) → SearchedAfter φ (rules.next_of (stuck b)) 0
  unfolding rules.next_of
  over-searched true = tt
  over-searched false = tt

  pub stuck-next : (x : Next) → x ≡ stuck_as (any_of_kind E φ resolve || any_of_kind E φ expand)
      → ChosenAs φ (rules.next_of (choose_of E φ (kinds_after expand))) (record { next = x; searched = 0 })
  unfolding stuck_as choose_of kinds_after
  stuck-next x h =
      record { next = h ∙ ap (λ (y : Bool). next_as (rules.next_of (stuck y))) blocked-is; searched = over-searched (any_blocked E φ) }

-- no clause, by their number
no-clause : (cs : List (List ℕ)) → length cs ≡ 0 → no_clause cs ≡ true
unfolding no_clause
no-clause [] h = refl
no-clause (c ∷ cs) h = absurd (omega arith)

some-clause : (cs : List (List ℕ)) → (length cs ≡ 0 → ⊥) → no_clause cs ≡ false
unfolding no_clause
some-clause [] h = absurd (h refl)
some-clause (c ∷ cs) h = refl

module _ (E : ℕ) (φ : Formula) where
  -- At each point ------------------------------------------------------------------------------------------------
  pub next-false : empty_clause φ.clauses ≡ true → ChosenAs φ (rules.next E φ) (record { next = next_as (over false_end); searched = 0 })
  unfolding rules.next
  next-false e = rw e (record { next = refl; searched = tt })

  pub next-true : empty_clause φ.clauses ≡ false → length φ.clauses ≡ 0 → ChosenAs φ (rules.next E φ) (record { next = next_as (over true_end); searched = 0 })
  unfolding rules.next
  next-true e h = rw (e, no-clause φ.clauses h) (record { next = refl; searched = tt })

  pub next-chosen : empty_clause φ.clauses ≡ false → (length φ.clauses ≡ 0 → ⊥) → next_from E φ unit ≡ rules.next E φ
  unfolding rules.next next_from kinds_after choose
  next-chosen e h = rw (e, some-clause φ.clauses h)

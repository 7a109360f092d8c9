-- Which steps count in a run, and which of them it takes (document 01, "The run").
-- Assumes nothing.
use Rattle.std.specs.Prelude.{ℕ, ◌+◌, Bool, true, false, ◌&&◌, ◌||◌, not, cond, List, [], ◌∷◌, map, ltb, leb, length}
use Rattle.meaning.specs.Lists.{any_of, up_from}
use Rattle.meaning.specs.Formula.{Formula, var}
use Rattle.meaning.specs.WellFormed.{weight, fits}
use Rattle.rules.specs.Entry.{Kind, unit, pure, subsume, strengthen, equality, resolve, expand, uses_b, Call, bad, call, read_entry}
use Rattle.rules.specs.Step.{permitted, result_of}

-- Which steps count ------------------------------------------------------------------------------------------
-- kinds 6 and 7: they count only where the result fits, and take the least resulting weight
unfoldable pub costly : Kind → Bool
costly unit = false
costly pure = false
costly subsume = false
costly strengthen = false
costly equality = false
costly resolve = true
costly expand = true

-- "Kind 6 counts only where the weight falls, kind 7 only where it falls or rises by at most E": from the old weight to the new
unfoldable pub light : ℕ → Kind → ℕ → ℕ → Bool
light E unit old new = true
light E pure old new = true
light E subsume old new = true
light E strengthen old new = true
light E equality old new = true
light E resolve old new = ltb new old
light E expand old new = leb new (old + E)

-- permitted, and light enough for the run
unfoldable pub wanted : ℕ → Formula → Kind → ℕ → ℕ → Bool
wanted E φ k a b = permitted φ k a b && light E k (weight φ) (weight (result_of φ k a b))

-- the step counts: "both count only where the result fits"
unfoldable pub allowed_call : ℕ → Formula → Kind → ℕ → ℕ → Bool
allowed_call E φ k a b = wanted E φ k a b && (not (costly k) || fits (result_of φ k a b))

-- "a kind 6 or 7 step failed only for room"
unfoldable pub blocked_call : ℕ → Formula → Kind → ℕ → ℕ → Bool
blocked_call E φ k a b = wanted E φ k a b && (costly k && not (fits (result_of φ k a b)))

-- the same, by the entry: no order of steps is spoken of here
unfoldable pub on_call : (Kind → ℕ → ℕ → Bool) → Call → Bool
on_call f bad = false
on_call f (call k a b) = f k a b

unfoldable pub allowed : ℕ → Formula → ℕ → Bool
allowed E φ e = on_call (allowed_call E φ) (read_entry e)

unfoldable pub blocked : ℕ → Formula → ℕ → Bool
blocked E φ e = on_call (blocked_call E φ) (read_entry e)

-- Where it looks ---------------------------------------------------------------------------------------------
-- the clauses' indices, and the variables from left to right
unfoldable pub indices : Formula → List ℕ
indices φ = up_from 0 (length φ.clauses)

unfoldable pub variables : Formula → List ℕ
variables φ = map var φ.prefix

-- "Kinds 1, 2 take the lowest clause index, the leftmost variable; 3 to 5 the lowest a, then b": the a and the b of a kind, in
-- the order in which it takes them
unfoldable pub firsts : Formula → Kind → List ℕ
firsts φ unit = indices φ
firsts φ pure = variables φ
firsts φ subsume = indices φ
firsts φ strengthen = indices φ
firsts φ equality = indices φ
firsts φ resolve = variables φ
firsts φ expand = variables φ

unfoldable pub seconds : Formula → Kind → List ℕ
seconds φ k = cond (uses_b k) (indices φ) (0 ∷ [])

-- Which one it takes -----------------------------------------------------------------------------------------
pub data Found : Type 0 where
  none : Found
  found : ℕ → ℕ → Found

unfoldable pub or_else : Found → Found → Found
or_else none later = later
or_else (found a b) later = found a b

-- the first b, the first a and b, in the order of the lists
unfoldable pub first_b : (ℕ → Bool) → ℕ → List ℕ → Found
first_b t a [] = none
first_b t a (b ∷ bs) = let later = first_b t a bs in cond (t b) (found a b) later

unfoldable pub first_pair : (ℕ → ℕ → Bool) → List ℕ → List ℕ → Found
first_pair t [] bs = none
first_pair t (a ∷ l) bs = let later = first_pair t l bs in or_else (first_b (t a) a bs) later

-- "take the least resulting weight, then the leftmost"
unfoldable pub lighter : (ℕ → ℕ) → ℕ → Found → Found
lighter w a none = found a 0
lighter w a (found c d) = cond (leb (w a) (w c)) (found a 0) (found c d)

unfoldable pub lightest : (ℕ → Bool) → (ℕ → ℕ) → List ℕ → Found
lightest t w [] = none
lightest t w (a ∷ l) = cond (t a) (lighter w a (lightest t w l)) (lightest t w l)

-- the candidate of a kind
unfoldable pub candidate : ℕ → Formula → Kind → Found
candidate E φ k =
    cond (costly k) (lightest (λ a. allowed_call E φ k a 0) (λ a. weight (result_of φ k a 0)) (firsts φ k))
    (first_pair (allowed_call E φ k) (firsts φ k) (seconds φ k))

abbrev pub kinds : List Kind
kinds = unit ∷ pure ∷ subsume ∷ strengthen ∷ equality ∷ resolve ∷ expand ∷ []

-- some step failed only for room
unfoldable pub any_blocked : ℕ → Formula → Bool
any_blocked E φ = any_of (λ k. any_of (λ a. any_of (blocked_call E φ k a) (seconds φ k)) (firsts φ k)) kinds

-- the step that is taken; or none, and whether one failed only for room
pub data Choice : Type 0 where
  take_step : Kind → ℕ → ℕ → Choice
  stuck : Bool → Choice

unfoldable pub take_found : Kind → Found → Choice → Choice
take_found k none later = later
take_found k (found a b) later = take_step k a b

unfoldable pub choose_of : ℕ → Formula → List Kind → Choice
choose_of E φ [] = stuck (any_blocked E φ)
choose_of E φ (k ∷ ks) = let later = choose_of E φ ks in take_found k (candidate E φ k) later

-- "take the first kind in the order 1 to 7 with a candidate"
unfoldable pub choose : ℕ → Formula → Choice
choose E φ = choose_of E φ kinds

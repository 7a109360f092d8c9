-- The replay of a log, entry by entry: what is left of the log, replayed from the formula so far, makes the whole replay.
-- Assumes nothing.
use Prim.Native.Nat.{ℕ, suc, ◌+◌, ◌-◌, ◌*◌, ◌/◌, ◌%◌, ◌<◌, ◌≤◌}
use native.Mathlib.Omega.{arith}
use native.Mathlib.Nat.{zero-add}
use mathlib.Core.Path.{◌≡◌, refl, sym, ap, ◌∙◌}
use mathlib.Core.Bool.{Bool, not}
use mathlib.Core.List.{List, [], ◌∷◌}
use lib.ListN.{length, take, drop, length-drop, drop_of_length-le}
use lib.Seq.{drop-drop}
use Rattle.meaning.specs.Formula.{Formula}
use Rattle.rules.specs.Entry.{byte_entry, LogRead, bad_length, entries, one_more, read_log}
use Rattle.rules.specs.Step.{Refusal, StepAnswer, refused, stepped, step_of}
use Rattle.rules.specs.Run.{Stop, all_applied, refused_by, Replayed, replayed_none, one_applied, replay_on, replay, replay_read, replay_bytes}
use Rattle.table.specs.Table.{counts_of}
use Rattle.table.specs.declared.Counts.{Counts}
use Rattle.table.proofs.ListLaws.{tail-mid}
use Rattle.apply.specs.Applied.{Lends, Lent, Moves, refused_as, stepping_as}
use Rattle.std.specs.Prelude.{Some, None, Result, Ok, Err}
use Rattle.apply.specs.declared.Refusal as told
use Rattle.apply.specs.declared.Refusal.TheVariants.{BadEntry}
use Rattle.course.specs.Course.{stop_as, side_from, Here, ReplayedAs}
use Rattle.course.proofs.HereLaws.{here-lends, here-lent, here-side, here-stepped, here-refused}

-- Logs -------------------------------------------------------------------------------------------------------
-- a log of whole entries is read, any other is not
pub record Read (bs : List ℕ) : Type 0 where
  pub list : List ℕ
  pub is : read_log bs ≡ entries list

more-read : (a b c d : ℕ) (bs : List ℕ) → Read bs → Read (a ∷ b ∷ c ∷ d ∷ bs)
unfolding read_log one_more
more-read a b c d bs k = record { list = byte_entry a b c d ∷ k.list; is = ap (one_more (byte_entry a b c d)) k.is }

pub whole-read : (bs : List ℕ) → length bs % 4 ≡ 0 → Read bs
unfolding read_log
whole-read [] h = record { list = []; is = refl }
whole-read (a ∷ []) h = absurd (omega arith)
whole-read (a ∷ b ∷ []) h = absurd (omega arith)
whole-read (a ∷ b ∷ c ∷ []) h = absurd (omega arith)
whole-read (a ∷ b ∷ c ∷ d ∷ bs) h = more-read a b c d bs (whole-read bs (omega arith))

pub odd-bytes : (bs : List ℕ) → (length bs % 4 ≡ 0 → ⊥) → read_log bs ≡ bad_length
unfolding read_log one_more
odd-bytes [] h = absurd (h refl)
odd-bytes (a ∷ []) h = refl
odd-bytes (a ∷ b ∷ []) h = refl
odd-bytes (a ∷ b ∷ c ∷ []) h = refl
odd-bytes (a ∷ b ∷ c ∷ d ∷ bs) h = ap (one_more (byte_entry a b c d)) (odd-bytes bs (λ k. h (omega arith)))

-- the log from the next entry on
next-part : (n : ℕ) (log : List ℕ) → drop (4 * (n + 1)) log ≡ drop 4 (drop (4 * n) log)
next-part n log = let e : 4 * (n + 1) ≡ 4 * n + 4 = omega arith in rw e (sym (drop-drop 4 (4 * n) log))

-- there is an entry
pub entry-there : (n : ℕ) (log : List ℕ) → n < length log / 4 → 4 ≤ length (take (length log - 4 * n) (drop (4 * n) log))
entry-there n log h = rw (tail-mid log (4 * n), length-drop (4 * n) log) (omega arith)

-- the first entry of a log, and the rest
record Front (l es : List ℕ) (e : ℕ) : Type 0 where
  rest : List ℕ
  whole : es ≡ e ∷ rest
  after : read_log (drop 4 l) ≡ entries rest

abbrev FirstEntry : List ℕ → ℕ → Type 0
FirstEntry l e = (a b c d : ℕ) (rest : List ℕ) → l ≡ (a ∷ b ∷ c ∷ d ∷ rest) → e ≡ byte_entry a b c d

front : (l es : List ℕ) (e : ℕ) → 4 ≤ length l → read_log l ≡ entries es → FirstEntry l e → Front l es e
unfolding read_log one_more
front [] es e h k is = absurd (omega arith)
front (a ∷ []) es e h k is = absurd (omega arith)
front (a ∷ b ∷ []) es e h k is = absurd (omega arith)
front (a ∷ b ∷ c ∷ []) es e h k is = absurd (omega arith)
front (a ∷ b ∷ c ∷ d ∷ bs) es e h k is = go (read_log bs) refl k
  where
    go : (x : LogRead) → read_log bs ≡ x → one_more (byte_entry a b c d) x ≡ entries es → Front (a ∷ b ∷ c ∷ d ∷ bs) es e
    go bad_length i j = absurd (let z : ◌≡◌ {A = ℕ} 0 1 = cc in omega arith)
    go (entries ds) i j =
        let q : es ≡ byte_entry a b c d ∷ ds = cc in
        record { rest = ds; whole = q ∙ ap (λ (x : ℕ). x ∷ ds) (sym (is a b c d bs refl)); after = i }

-- The replay so far --------------------------------------------------------------------------------------------
-- n entries more were applied
unfoldable pub applied_more : ℕ → Replayed → Replayed
applied_more n r = record { stop = r.stop; formula = r.formula; applied = n + r.applied }

none_more : (r : Replayed) → r ≡ applied_more 0 r
unfolding applied_more
none_more r = rw (zero-add r.applied)

one-more : (n : ℕ) (r : Replayed) → applied_more n (one_applied r) ≡ applied_more (n + 1) r
unfolding applied_more one_applied
one-more n r = let e : n + suc r.applied ≡ n + 1 + r.applied = omega arith in rw e

more-none : (n : ℕ) (x : Stop) (ψ : Formula) → applied_more n (replayed_none x ψ) ≡ record { stop = x; formula = ψ; applied = n }
unfolding applied_more replayed_none
more-none n x ψ = let e : n + 0 ≡ n = omega arith in ap (λ (m : ℕ). record { stop = x; formula = ψ; applied = m }) e

side-next : (s : Bool) (n : ℕ) → side_from s (n + 1) ≡ not (side_from s n)
unfolding side_from
side-next s n = let e : n + 1 ≡ suc n = omega arith in rw e

-- n entries of the log are applied; what is left, replayed from the formula so far, makes the whole
pub record Along (φ : Formula) (log : List ℕ) (s : Bool) (n : ℕ) (a b : List ℕ) (d : Counts) : Type 0 where
  pub formula : Formula
  pub left : List ℕ
  pub here : Here formula (side_from s n) a b d
  pub reads : read_log (drop (4 * n) log) ≡ entries left
  pub whole : replay_bytes φ log ≡ applied_more n (replay formula left)

-- before the first entry
module _ {φ : Formula} {s : Bool} {a b : List ℕ} {d : Counts} (h : Here φ s a b d) (log : List ℕ) where
  pub along-start : length log % 4 ≡ 0 → Along φ log s 0 a b d
  unfolding side_from replay_bytes replay_read
  along-start e =
      let k = whole-read log e in
      record { formula = φ; left = k.list; here = h; reads = k.is; whole = rw k.is (none_more (replay φ k.list)) }

  -- a length that is no multiple of 4
  pub along-bad : (length log % 4 ≡ 0 → ⊥) → ReplayedAs (replay_bytes φ log) s (record { stop = Some BadEntry; counts = d; applied = 0 }) a b
  unfolding side_from stop_as refused_as replay_bytes replay_read replayed_none
  along-bad e = rw (odd-bytes log e) (record { stop = refl; applied = refl; here = h })

module _ {φ : Formula} {log : List ℕ} {s : Bool} {n : ℕ} {a b : List ℕ} {d : Counts} (k : Along φ log s n a b d) where
  pub along-lent : Lent a b d
  along-lent = here-lent k.here

  -- it ends here
  over : (x : Stop) {a' b' : List ℕ} → replay k.formula k.left ≡ replayed_none x k.formula
      → Here k.formula (side_from s n) a' b' d
      → ReplayedAs (replay_bytes φ log) s (record { stop = stop_as x; counts = d; applied = n }) a' b'
  over x e h =
      rw (k.whole ∙ ap (applied_more n) e ∙ more-none n x k.formula) (record { stop = refl; applied = refl; here = h })

  -- nothing is left
  pub along-end : length log % 4 ≡ 0 → n ≡ length log / 4 → ReplayedAs (replay_bytes φ log) s (record { stop = None; counts = d; applied = length log / 4 }) a b
  unfolding stop_as read_log replay
  along-end e f =
      let q : read_log [] ≡ entries k.left = rw (drop_of_length-le log {i = 4 * n} (omega arith)) at k.reads in
      let z : k.left ≡ [] = cc in
      rw f at (over all_applied (ap (replay k.formula) z) k.here)

  -- the next entry
  module _ (more : n < length log / 4)
      {e : ℕ} (is : FirstEntry (take (length log - 4 * n) (drop (4 * n) log)) e)
      {r : Result Counts told.Refusal} {a' b' : List ℕ} (m : (χ : Formula) → Lends χ a b d → Moves χ e d.second r a' b') where
    at_front : Front (drop (4 * n) log) k.left e
    at_front = front (drop (4 * n) log) k.left e (omega (arith, length-drop (4 * n) log)) k.reads (rw (tail-mid log (4 * n)) at is)

    moved : Moves k.formula e d.second r a' b'
    moved = m k.formula (here-lends k.here)

    -- by the answer of the step
    answered : (x : StepAnswer) → step_of k.formula e ≡ x → r ≡ stepping_as x (not (side_from s n))
    answered x i =
        moved.answer ∙ ap (stepping_as (step_of k.formula e)) (ap not (here-side k.here))
        ∙ ap (λ y. stepping_as y (not (side_from s n))) i

    first-replayed : (x : StepAnswer) → step_of k.formula e ≡ x
        → replay k.formula k.left ≡ replay_on (λ ψ. replay ψ at_front.rest) k.formula x
    unfolding replay
    first-replayed x i = ap (replay k.formula) at_front.whole ∙ ap (replay_on (λ ψ. replay ψ at_front.rest) k.formula) i

    pub along-stepped : (d' : Counts) → r ≡ Ok d' → Along φ log s (n + 1) a' b' d'
    unfolding stepping_as replay_on
    along-stepped d' q = go (step_of k.formula e) refl
      where
        go : (x : StepAnswer) → step_of k.formula e ≡ x → Along φ log s (n + 1) a' b' d'
        go (refused x) i = let j : Ok d' ≡ Err (refused_as x) = sym q ∙ answered (refused x) i in let z : ◌≡◌ {A = ℕ} 0 1 = cc in absurd (omega arith)
        go (stepped χ) i =
            let j : Ok d' ≡ Ok (counts_of χ (not (side_from s n))) = sym q ∙ answered (stepped χ) i in
            let same : d' ≡ counts_of χ (not (side_from s n)) = cc in
            record {
              formula = χ;
              left = at_front.rest;
              here = rw (side-next s n, same) (here-stepped k.here i moved);
              reads = ap read_log (next-part n log) ∙ at_front.after;
              whole = k.whole ∙ ap (applied_more n) (first-replayed (stepped χ) i) ∙ one-more n (replay χ at_front.rest);
            }

    stops : (y : Refusal) → step_of k.formula e ≡ refused y
        → ReplayedAs (replay_bytes φ log) s (record { stop = Some (refused_as y); counts = d; applied = n }) a' b'
    unfolding stop_as replay_on
    stops y i = over (refused_by y) (first-replayed (refused y) i) (here-refused k.here i moved)

    pub along-refused : (x : told.Refusal) → r ≡ Err x
        → ReplayedAs (replay_bytes φ log) s (record { stop = Some x; counts = d; applied = n }) a' b'
    unfolding stepping_as
    along-refused x q = go (step_of k.formula e) refl
      where
        go : (y : StepAnswer) → step_of k.formula e ≡ y
            → ReplayedAs (replay_bytes φ log) s (record { stop = Some x; counts = d; applied = n }) a' b'
        go (refused y) i =
            let j : Err x ≡ Err (refused_as y) = sym q ∙ answered (refused y) i in
            let same : x ≡ refused_as y = cc in
            rw same (stops y i)
        go (stepped χ) i = let j : Err x ≡ Ok (counts_of χ (not (side_from s n))) = sym q ∙ answered (stepped χ) i in let z : ◌≡◌ {A = ℕ} 0 1 = cc in absurd (omega arith)

-- Two outcomes of one exported call that conform coincide: the contracts settle the number, the tables, the record, the log, the
-- output and the values of a reason. Of the two calls for the literals this is plain: their contracts are equations.
-- Assumes nothing.
use Prim.Native.Nat.{ℕ}
use mathlib.Core.Path.{◌≡◌, refl, sym, ap, ◌∙◌}
use mathlib.Core.List.{List}
use Rattle.table.specs.declared.Counts.{Counts}
use Rattle.replaying.specs.Stepping.{step_number}
use Rattle.meaning.proofs.Basics.{by_cases}
use Rattle.exports.specs.Records.{side_known, record_of}
use Rattle.exports.specs.Calls.{Refused, RefusedWith, ReadCall, Write, WriteCall, Step, StepCall, Run, RunCall, Replay, ReplayCall, Reason, NoReason, ReasonCall}

-- the numbers, the tables and the records of two outcomes
pub record Same (n m : ℕ) (a a₂ b b₂ l l₂ : List ℕ) : Type 0 where
  pub number : n ≡ m
  pub first : a ≡ a₂
  pub second : b ≡ b₂
  pub left : l ≡ l₂

-- with a log, an output, or the values of a reason
pub record SameWith (n m : ℕ) (a a₂ b b₂ l l₂ x x₂ : List ℕ) : Type 0 where
  pub same : Same n m a a₂ b b₂ l l₂
  pub bytes : x ≡ x₂

pub reads-coincide : {text a b : List ℕ} {n m : ℕ} {a' a₂ b' b₂ l' l₂ : List ℕ} → ReadCall text a b n a' b' l' → ReadCall text a b m a₂ b₂ l₂ → Same n m a' a₂ b' b₂ l' l₂
reads-coincide x y =
    let f = x.face in
    let g = y.face in
    record { number = cc; first = cc; second = cc; left = cc }

module _ (a b l : List ℕ) (n m : ℕ) (a' a₂ b' b₂ l' l₂ : List ℕ) where
  refusals : Refused a b l n a' b' l' → Refused a b l m a₂ b₂ l₂ → Same n m a' a₂ b' b₂ l' l₂
  refusals x y = record { number = cc; first = cc; second = cc; left = cc }

  -- a step, by its entry
  module _ (entry : ℕ) where
    steps : Step a b l entry n a' b' l' → Step a b l entry m a₂ b₂ l₂ → Same n m a' a₂ b' b₂ l' l₂
    steps x y =
        let f = x.face in
        let g = y.face in
        record { number = x.number ∙ (ap step_number (f.answer ∙ sym g.answer) ∙ sym y.number); first = cc; second = cc; left = x.left ∙ (ap (λ (c : Counts). record_of c 0) (f.counts ∙ sym g.counts) ∙ sym y.left) }

    pub steps-coincide : StepCall a b l entry n a' b' l' → StepCall a b l entry m a₂ b₂ l₂ → Same n m a' a₂ b' b₂ l' l₂
    steps-coincide x y =
        by_cases (side_known l) (λ e. steps (rw e at x) (rw e at y)) (λ e. refusals (rw e at x) (rw e at y))

  -- a replay
  module _ (log : List ℕ) where
    replays : Replay a b l log n a' b' l' → Replay a b l log m a₂ b₂ l₂ → Same n m a' a₂ b' b₂ l' l₂
    replays x y =
        let f = x.face in
        let g = y.face in
        record { number = cc; first = cc; second = cc; left = cc }

    pub replays-coincide : ReplayCall a b l log n a' b' l' → ReplayCall a b l log m a₂ b₂ l₂ → Same n m a' a₂ b' b₂ l' l₂
    replays-coincide x y =
        by_cases (side_known l) (λ e. replays (rw e at x) (rw e at y)) (λ e. refusals (rw e at x) (rw e at y))

  -- a reason, by its variable and the allowance; its values are left as p' and as p₂
  module _ (v E : ℕ) (p' p₂ : List ℕ) where
    reasons : Reason a b l v E n a' b' l' p' → Reason a b l v E m a₂ b₂ l₂ p₂ → SameWith n m a' a₂ b' b₂ l' l₂ p' p₂
    reasons x y =
        let f = x.face in
        let g = y.face in
        record { same = record { number = cc; first = cc; second = cc; left = cc }; bytes = cc }

    no-reasons : NoReason a b l n a' b' l' p' → NoReason a b l m a₂ b₂ l₂ p₂ → SameWith n m a' a₂ b' b₂ l' l₂ p' p₂
    no-reasons x y = record { same = refusals x.refused y.refused; bytes = cc }

    pub reasons-coincide : ReasonCall a b l v E n a' b' l' p' → ReasonCall a b l v E m a₂ b₂ l₂ p₂ → SameWith n m a' a₂ b' b₂ l' l₂ p' p₂
    reasons-coincide x y =
        by_cases (side_known l) (λ e. reasons (rw e at x) (rw e at y)) (λ e. no-reasons (rw e at x) (rw e at y))

  -- a log or an output z, which is left as z' and as z₂
  module _ (z z' z₂ : List ℕ) where
    refusals-with : RefusedWith a b l z n a' b' l' z' → RefusedWith a b l z m a₂ b₂ l₂ z₂ → SameWith n m a' a₂ b' b₂ l' l₂ z' z₂
    refusals-with x y = record { same = refusals x.refused y.refused; bytes = cc }

    -- a run
    module _ (E limit : ℕ) where
      runs : Run a b l E limit z n a' b' l' z' → Run a b l E limit z m a₂ b₂ l₂ z₂ → SameWith n m a' a₂ b' b₂ l' l₂ z' z₂
      runs x y =
          let f = x.face in
          let g = y.face in
          record { same = record { number = cc; first = cc; second = cc; left = cc }; bytes = cc }

      pub runs-coincide : RunCall a b l E limit z n a' b' l' z' → RunCall a b l E limit z m a₂ b₂ l₂ z₂ → SameWith n m a' a₂ b' b₂ l' l₂ z' z₂
      runs-coincide x y =
          by_cases (side_known l) (λ e. runs (rw e at x) (rw e at y)) (λ e. refusals-with (rw e at x) (rw e at y))

-- writing touches no table
module _ (a b l : List ℕ) (n m : ℕ) (l' l₂ z z' z₂ : List ℕ) where
  writes : Write a b l z n l' z' → Write a b l z m l₂ z₂ → SameWith n m a a b b l' l₂ z' z₂
  writes x y =
      let f = x.face in
      let g = y.face in
      record { same = record { number = cc; first = refl; second = refl; left = cc }; bytes = cc }

  pub writes-coincide : WriteCall a b l z n l' z' → WriteCall a b l z m l₂ z₂ → SameWith n m a a b b l' l₂ z' z₂
  writes-coincide x y =
      by_cases (side_known l) (λ e. writes (rw e at x) (rw e at y)) (λ e. refusals-with a b l n m a a b b l' l₂ z z' z₂ (rw e at x) (rw e at y))

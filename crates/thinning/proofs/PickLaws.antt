-- The clauses that a test picks are flagged, one after the other.
-- Assumes nothing.
use Prim.Native.Nat.{ℕ, ◌+◌, ◌*◌, ◌≤◌, ◌<◌}
use mathlib.Core.Path.{◌≡◌, refl, ap, ◌∙◌}
use mathlib.Core.Bool.{Bool, true, false, cond}
use mathlib.Core.List.{List, []}
use lib.ListN.{length, get_or, replicate}
use native.Mathlib.Omega.{arith}
use borrow.Author.Count.{below_none, below_more}
use Rattle.flags.specs.Flags.{flag, raised}
use Rattle.flags.proofs.FlagLaws.{flag-none, flag-own, flag-other}
use Rattle.thinning.specs.Thin.{Picks}
use Rattle.thinning.specs.Going.{Picking}
use Rattle.thinning.proofs.GoingLaws.{zeros-length, raised-length}

-- One flag more, where b tells so -----------------------------------------------------------------------------------
module _ (w : List ℕ) (i : ℕ) where
  if-length : (b : Bool) → length (cond b (raised w i) w) ≡ length w
  if-length true = raised-length w i
  if-length false = refl

  module _ (within : i < 64 * length w) where
    if-own : (b : Bool) → flag w i ≡ false → flag (cond b (raised w i) w) i ≡ b
    if-own true n = flag-own w i within
    if-own false n = n

    if-other : (b : Bool) (j : ℕ) → (j ≡ i → ⊥) → flag (cond b (raised w i) w) j ≡ flag w j
    if-other true j n = flag-other w i within j n
    if-other false j n = refl

-- The clauses before clause i -------------------------------------------------------------------------------------------
module _ (f : List ℕ → Bool) (cs : List (List ℕ)) (few : length cs ≤ 2047) (w : List ℕ) where
  pub picking-start : w ≡ replicate 32 0 → Picking f cs w 0
  picking-start z =
      record {
        words = zeros-length w z;
        before = below_none _;
        none = λ j h n. ap (λ (x : List ℕ). flag x j) z ∙ flag-none 32 j (omega arith);
      }

  module _ (i : ℕ) (g : Picking f cs w i) where
    -- x is clause i, and b tells whether it is picked
    pub picking-turn : i < length cs → (x : List ℕ) → x ≡ get_or cs i [] → {b : Bool} → b ≡ f x → {v : List ℕ} → v ≡ cond b (raised w i) w → Picking f cs v (i + 1)
    picking-turn h x is {b} tells {v} q =
        let within : i < 64 * length w = omega (arith, g.words) in
        rw q (record {
          words = if-length w i b ∙ g.words;
          before = below_more _ i
              (λ j n. if-other w i within b j (λ e. omega arith) ∙ g.before j n)
              (if-own w i within b (g.none i h (omega arith)) ∙ tells ∙ ap f is);
          none = λ j m n. if-other w i within b j (λ e. omega arith) ∙ g.none j m (omega arith);
        })

    pub picking-end : length cs ≤ i → Picks f cs w
    picking-end h = record { each = λ j n. g.before j (omega arith) }

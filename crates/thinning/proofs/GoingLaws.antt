-- One clause after the other: what is known of the flags at the start, after each way to go on, and at the end.
-- Assumes nothing.
use Prim.Native.Nat.{ℕ, ◌+◌, ◌*◌, ◌≤◌, ◌<◌}
use mathlib.Core.Path.{◌≡◌, sym, ap, subst, ◌∙◌}
use mathlib.Core.Bool.{Bool, true, false}
use mathlib.Core.List.{List, []}
use lib.Dec.{eqb}
use lib.ListN.{length, get_or, replicate, length-set, length-replicate}
use native.Mathlib.Omega.{arith}
use borrow.Author.Count.{below_none, below_more}
use Rattle.meaning.specs.Lists.{keep_if, has, same}
use Rattle.table.specs.Ranks.{last_by, stays_by}
use Rattle.meaning.proofs.Basics.{by_cases, clash, false_of, eqb-true, eqb-false}
use Rattle.meaning.proofs.Lists.{same-path}
use Rattle.flags.specs.Flags.{flag, raised}
use Rattle.flags.proofs.FlagLaws.{flag-none, flag-own, flag-other}
use Rattle.thinning.specs.Thin.{firm, free_of, StoodFor, Thinned}
use Rattle.thinning.specs.Going.{Thinning, StandIn, Going}

pub zeros-length : (w : List ℕ) → w ≡ replicate 32 0 → length w ≡ 32
zeros-length w z = ap length z ∙ length-replicate {A = ℕ} 32 0

-- One flag more ---------------------------------------------------------------------------------------------------
pub raised-length : (w : List ℕ) (i : ℕ) → length (raised w i) ≡ length w
unfolding raised
raised-length w i = simp length-set

module _ (w : List ℕ) (i : ℕ) (within : i < 64 * length w) where
  pub raised_keeps : (j : ℕ) → flag w j ≡ true → flag (raised w i) j ≡ true
  raised_keeps j f =
      by_cases (eqb j i)
      (λ e. ap (flag (raised w i)) (eqb-true j i e) ∙ flag-own w i within)
      (λ e. flag-other w i within j (eqb-false j i e) ∙ f)

  raised-before : (j : ℕ) → flag (raised w i) j ≡ false → flag w j ≡ false
  raised-before j f = false_of (flag w j) (λ t. clash (raised_keeps j t) f)

  -- what holds of each flagged number, and of the one more
  raised_all : (P : ℕ → Type 0) (n : ℕ) → ((j : ℕ) → j < n → flag w j ≡ true → P j) → P i → (j : ℕ) → j < n → flag (raised w i) j ≡ true → P j
  raised_all P n all here j h f =
      by_cases (eqb j i)
      (λ e. subst P (sym (eqb-true j i e)) here)
      (λ e. all j h (sym (flag-other w i within j (eqb-false j i e)) ∙ f))

-- Which clauses are flagged -----------------------------------------------------------------------------------------
module _ (ranks : List ℕ) (e k o : ℕ) (cs : List (List ℕ)) (few : length cs ≤ 2047) where
  pub thinning-start : (w : List ℕ) → w ≡ replicate 32 0 → Thinning ranks e k o cs w 0
  thinning-start w z =
      record {
        words = zeros-length w z;
        taken = λ j h f. clash f (ap (λ (x : List ℕ). flag x j) z ∙ flag-none 32 j (omega arith));
        left = below_none _;
      }

  module _ (w : List ℕ) (i : ℕ) (g : Thinning ranks e k o cs w i) where
    -- clause i is not flagged
    past : (flag w i ≡ false → has k (get_or cs i []) ≡ true → StoodFor ranks e o cs w i) → Thinning ranks e k o cs w (i + 1)
    past here =
        record {
          words = g.words;
          taken = λ j h f. let t = g.taken j h f in (omega (arith, t.0), t.1);
          left = below_more _ i g.left here;
        }

    pub thinning-left : StoodFor ranks e o cs w i → Thinning ranks e k o cs w (i + 1)
    thinning-left s = past (λ f p. s)

    -- clause i is flagged
    module _ (h : i < length cs) where
      within : i < 64 * length w
      within = omega (arith, g.words)

      more : (j : ℕ) → StoodFor ranks e o cs w j → StoodFor ranks e o cs (raised w i) j
      more j s =
          record {
            index = s.index;
            earlier = s.earlier;
            flagged = raised_keeps w i within s.index s.flagged;
            same = s.same;
            one = s.one;
            other = s.other;
          }

      flagged : has k (get_or cs i []) ≡ true → Thinning ranks e k o cs (raised w i) (i + 1)
      flagged p =
          record {
            words = raised-length w i ∙ g.words;
            taken = raised_all w i within (λ j. (j < i + 1) × (has k (get_or cs j []) ≡ true)) (length cs)
                (λ j h f. let t = g.taken j h f in (omega (arith, t.0), t.1)) (omega arith, p);
            left = below_more _ i
                (λ j h f p. more j (g.left j h (raised-before w i within j f) p))
                (λ f p. clash (flag-own w i within) f);
          }

    -- x is clause i, and b tells whether it has k
    module _ (x : List ℕ) (is : x ≡ get_or cs i []) {b : Bool} (tells : b ≡ has k x) where
      pub thinning-flagged : i < length cs → b ≡ true → Thinning ranks e k o cs (raised w i) (i + 1)
      thinning-flagged h p = flagged h (ap (has k) (sym is) ∙ sym tells ∙ p)

  pub thinned : (w : List ℕ) (i : ℕ) → Thinning ranks e k o cs w i → length cs ≤ i → Thinned ranks e k o cs w
  thinned w i g h = record { taken = λ j n f. (g.taken j n f).1; left = λ j n f p. g.left j (omega arith) f p }

-- Clause j has this firm part.
pub stand-in : {ranks : List ℕ} {e : ℕ} {cs : List (List ℕ)} {m : List ℕ} {i : ℕ} {part : List ℕ} (j : ℕ) → j < i → flag m j ≡ true → {r : Bool} → r ≡ same (firm ranks e (get_or cs j [])) part → r ≡ true → StandIn ranks e cs m i part
stand-in {ranks} {e} {cs} {m} {i} {part} j h f is t =
    record { index = j; earlier = h; flagged = f; same = same-path (firm ranks e (get_or cs j [])) part (sym is ∙ t) }

-- Which may stand in --------------------------------------------------------------------------------------------------
module _ (ranks : List ℕ) (e k o : ℕ) (cs : List (List ℕ)) (few : length cs ≤ 2047) where
  pub going_start : (w m : List ℕ) → w ≡ replicate 32 0 → m ≡ replicate 32 0 → Going ranks e k o cs w m 0
  going_start w m y z =
      let none : (j : ℕ) → j < length cs → flag m j ≡ false = λ j h. ap (λ (x : List ℕ). flag x j) z ∙ flag-none 32 j (omega arith) in
      record {
        thinning = thinning-start ranks e k o cs few w y;
        standing = record {
          words = zeros-length m z;
          flagged = λ j h f. clash f (none j h);
          free = λ j h f. clash f (none j h);
        };
      }

  -- x is clause i, and b tells whether it has k
  module _ (w m : List ℕ) (i : ℕ) (g : Going ranks e k o cs w m i) (x : List ℕ) (is : x ≡ get_or cs i []) {b : Bool} (tells : b ≡ has k x) where
    module _ (h : i < length cs) where
      in_kept : i < 64 * length w
      in_kept = omega (arith, g.thinning.words)

      in-standing : i < 64 * length m
      in-standing = omega (arith, g.standing.words)

      pub going-flagged : b ≡ true → Going ranks e k o cs (raised w i) m (i + 1)
      going-flagged p =
          record {
            thinning = thinning-flagged ranks e k o cs few w i g.thinning x is tells h p;
            standing = record {
              words = g.standing.words;
              flagged = λ j n f. raised_keeps w i in_kept j (g.standing.flagged j n f);
              free = g.standing.free;
            };
          }

      -- d is the place by which its literals stay
      module _ (d : ℕ) (by : d ≡ last_by ranks e x) (free : free_of ranks e o cs x ≡ true) where
        pub going-standing : b ≡ true → Going ranks e k o cs (raised w i) (raised m i) (i + 1)
        going-standing p =
            record {
              thinning = thinning-flagged ranks e k o cs few w i g.thinning x is tells h p;
              standing = record {
                words = raised-length m i ∙ g.standing.words;
                flagged = raised_all m i in-standing (λ j. flag (raised w i) j ≡ true) (length cs)
                    (λ j n f. raised_keeps w i in_kept j (g.standing.flagged j n f)) (flag-own w i in_kept);
                free = raised_all m i in-standing (λ j. free_of ranks e o cs (get_or cs j []) ≡ true) (length cs)
                    g.standing.free (ap (free_of ranks e o cs) (sym is) ∙ free);
              };
            }

        pub going-left : StandIn ranks e cs m i (keep_if (stays_by ranks d) x) → Going ranks e k o cs w m (i + 1)
        unfolding firm
        going-left s =
            let n : s.index < length cs = omega (arith, s.earlier) in
            record {
              thinning = thinning-left ranks e k o cs few w i g.thinning (record {
                index = s.index;
                earlier = s.earlier;
                flagged = g.standing.flagged s.index n s.flagged;
                same = s.same ∙ rw (by, is);
                one = g.standing.free s.index n s.flagged;
                other = ap (free_of ranks e o cs) (sym is) ∙ free;
              });
              standing = g.standing;
            }

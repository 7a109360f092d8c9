-- What comes before the variable is looked at: the verdict, the run's next entry, or that no step of kinds 1 to 5 can be taken.
-- Assumes nothing.
use mathlib.Core.Path.{◌≡◌, refl, sym, ◌∙◌, ap}
use Prim.Native.Nat.{ℕ, ◌≤◌}
use native.Mathlib.Omega.{arith}
use mathlib.Core.Bool.{Bool, true, false, ◌||◌, cond, true≢false, false≢true}
use lib.Dec.{eqb, ltb}
use borrow.Author.Tests.{ltb-true}
use Rattle.meaning.specs.Formula.{Formula}
use Rattle.meaning.specs.Game.{empty_clause, no_clause}
use Rattle.meaning.specs.WellFormed.{well_formed, fits}
use Rattle.rules.specs.Entry.{Kind, unit, pure, subsume, strengthen, equality, resolve, expand, code, uses_b, entry, call, read_entry}
use Rattle.rules.specs.Step.{permitted}
use Rattle.rules.specs.Choice.{costly, light, wanted, allowed_call, on_call, allowed, none, candidate, Choice, take_step, stuck, choose}
use Rattle.rules.specs.Run.{true_end, false_end, over, next_of, next}
use Rattle.rules.proofs.Ahead.{left_of, pair_before, ahead}
use Rattle.rules.proofs.First.{First, choose-first}
use Rattle.reasons.specs.Statement.{NoVerdict, NextEntry, Quiet}
use Rattle.meaning.proofs.Basics.{clash, false_of, or_l, or_r, eqb-true, eqb-eq}
use Rattle.rules.proofs.Entries.{read-entry, entry_read, code-inj}
use Rattle.rules.proofs.Permitted.{wanted-permitted, allowed-wanted, pure-says}
use Rattle.rules.proofs.Choose.{Used, Listed, listed, fields-of, find_none}
use Rattle.rules.proofs.Chosen.{takes-fields, stuck-none}
use Rattle.reasons.proofs.Places.{same_place}
use Rattle.reasons.proofs.Indices.{neither-less}

-- Kinds 1 to 5 ---------------------------------------------------------------------------------------------------
pub low-cheap : (k : Kind) → code k ≤ 5 → costly k ≡ false
unfolding code costly
low-cheap unit h = refl
low-cheap pure h = refl
low-cheap subsume h = refl
low-cheap strengthen h = refl
low-cheap equality h = refl
low-cheap resolve h = absurd (omega arith)
low-cheap expand h = absurd (omega arith)

pub cheap-low : (k : Kind) → costly k ≡ false → code k ≤ 5
unfolding code costly
cheap-low unit h = omega arith
cheap-low pure h = omega arith
cheap-low subsume h = omega arith
cheap-low strengthen h = omega arith
cheap-low equality h = omega arith
cheap-low resolve h = absurd (true≢false h)
cheap-low expand h = absurd (true≢false h)

pub costly-high : (k : Kind) → costly k ≡ true → 6 ≤ code k
unfolding code costly
costly-high unit h = absurd (false≢true h)
costly-high pure h = absurd (false≢true h)
costly-high subsume h = absurd (false≢true h)
costly-high strengthen h = absurd (false≢true h)
costly-high equality h = absurd (false≢true h)
costly-high resolve h = omega arith
costly-high expand h = omega arith

-- a permitted step of these kinds counts; where b is not used, with b = 0
low-counts : (E : ℕ) (φ : Formula) (k : Kind) (a b : ℕ) → code k ≤ 5 → permitted φ k a b ≡ true → (d : ℕ) × Used k d × (allowed_call E φ k a d ≡ true)
unfolding code allowed_call wanted permitted light costly uses_b
low-counts E φ unit a b l h = (0, refl, rw h)
low-counts E φ pure a b l h = (0, refl, rw h)
low-counts E φ subsume a b l h = (b, refl, rw h)
low-counts E φ strengthen a b l h = (b, refl, rw h)
low-counts E φ equality a b l h = (b, refl, rw h)
low-counts E φ resolve a b l h = absurd (omega arith)
low-counts E φ expand a b l h = absurd (omega arith)

-- What counts has an entry that counts
pub counts-entry : (E : ℕ) (φ : Formula) → fits φ ≡ true → (k : Kind) (a b : ℕ) → Used k b → allowed_call E φ k a b ≡ true
    → (read_entry (entry k a b) ≡ call k a b) × (allowed E φ (entry k a b) ≡ true)
unfolding allowed on_call
counts-entry E φ f k a b u h =
    let l : Listed φ k a b = listed φ k a b u (wanted-permitted E φ k a b (allowed-wanted E φ k a b h)) in
    let r : read_entry (entry k a b) ≡ call k a b = read-entry k a b (fields-of φ f k a b l) in
    (r, rw r h)

-- so where no entry of kinds 1 to 5 counts none is permitted
none-permitted : (E : ℕ) (φ : Formula) → fits φ ≡ true → ((e : ℕ) (k : Kind) (a b : ℕ) → read_entry e ≡ call k a b → code k ≤ 5 → allowed E φ e ≡ false)
    → (k : Kind) (a b : ℕ) → code k ≤ 5 → permitted φ k a b ≡ false
none-permitted E φ f n k a b l =
    false_of _
    (λ h. let c : (d : ℕ) × Used k d × (allowed_call E φ k a d ≡ true) = low-counts E φ k a b l h in
    let r : (read_entry (entry k a c.0) ≡ call k a c.0) × (allowed E φ (entry k a c.0) ≡ true) = counts-entry E φ f k a c.0 c.1 c.2 in
    clash r.1 (n _ k a c.0 r.0 l))

-- a call that counts is permitted
pub entry-permitted : (E : ℕ) (φ : Formula) (e : ℕ) (k : Kind) (a b : ℕ) → read_entry e ≡ call k a b → allowed E φ e ≡ true → permitted φ k a b ≡ true
unfolding allowed on_call
entry-permitted E φ e k a b r h = wanted-permitted E φ k a b (allowed-wanted E φ k a b (rw r at h))

-- No verdict -----------------------------------------------------------------------------------------------------
-- what is next where there is no verdict is the choice's
pub open_next : (E : ℕ) (φ : Formula) → NoVerdict φ → next E φ ≡ next_of (choose E φ)
unfolding next
open_next E φ n = rw (n.none-empty, n.some-clause)

pub verdict-or : (E : ℕ) (φ : Formula) → (next E φ ≡ over true_end → ⊥) → (next E φ ≡ over false_end → ⊥) → NoVerdict φ
unfolding next
verdict-or E φ t f = go (empty_clause φ.clauses) (no_clause φ.clauses) refl refl t f
  where
    go : (s r : Bool) → empty_clause φ.clauses ≡ s → no_clause φ.clauses ≡ r
        → (cond s (over false_end) (cond r (over true_end) (next_of (choose E φ))) ≡ over true_end → ⊥)
        → (cond s (over false_end) (cond r (over true_end) (next_of (choose E φ))) ≡ over false_end → ⊥)
        → NoVerdict φ
    go true r a b t f = absurd (f refl)
    go false true a b t f = absurd (t refl)
    go false false a b t f = record { some-clause = b; none-empty = a }

-- No step of kinds 1 to 5 ----------------------------------------------------------------------------------------
pub stuck-quiet : (E : ℕ) (φ : Formula) → fits φ ≡ true → NoVerdict φ → (r : Bool) → choose E φ ≡ stuck r → Quiet φ
stuck-quiet E φ f n r h = record { no-verdict = n; none = none-permitted E φ f (λ e k a b c l. stuck-none E φ r h e) }

pub costly-quiet : (E : ℕ) (φ : Formula) → well_formed φ ≡ true → fits φ ≡ true → NoVerdict φ → (k : Kind) (a b : ℕ) → choose E φ ≡ take_step k a b → costly k ≡ true
    → Quiet φ
costly-quiet E φ w f n k a b h c =
    let s : First E φ k a b = choose-first E φ w f k a b h in
    let high : 6 ≤ code k = costly-high k c in
    record { no-verdict = n; none = none-permitted E φ f (λ e j c d r l. s.lowest-kind e j c d r (omega arith)) }

-- by the candidates of the choice, for code that looks for these kinds only
pub candidates-quiet : (E : ℕ) (φ : Formula) → NoVerdict φ → ((k : Kind) → code k ≤ 5 → candidate E φ k ≡ none) → Quiet φ
candidates-quiet E φ n c =
    record {
      no-verdict = n;
      none = λ k a b l. false_of _ (λ h. let d : (d : ℕ) × Used k d × (allowed_call E φ k a d ≡ true) = low-counts E φ k a b l h in clash d.2 (find_none E φ k (c k l) a d.0 d.1));
    }

-- The next entry -------------------------------------------------------------------------------------------------
pub next-true : (E : ℕ) (φ : Formula) → well_formed φ ≡ true → fits φ ≡ true → NoVerdict φ → (k : Kind) (a b : ℕ) → choose E φ ≡ take_step k a b → costly k ≡ false
    → NextEntry E φ (entry k a b)
next-true E φ w f n k a b h c =
    record { no-verdict = n; kind = k; a = a; b = b; calls = read-entry k a b (takes-fields E φ f k a b h); of-1-to-5 = cheap-low k c; first = choose-first E φ w f k a b h }

-- of two steps of a kind neither of which is ahead of the other
unused : (b d : ℕ) → (false || eqb b 0) ≡ true → (false || eqb d 0) ≡ true → b ≡ d
unused b d x y = eqb-true b 0 x ∙ sym (eqb-true d 0 y)

neither-pair : (a b c d : ℕ) → pair_before a b c d ≡ false → pair_before c d a b ≡ false → (a ≡ c) × (b ≡ d)
unfolding pair_before
neither-pair a b c d x y =
    let e : a ≡ c = neither-less a c (or_l (ltb a c) _ x) (or_l (ltb c a) _ y) in
    (e, neither-less b d (rw (eqb-eq e) at (or_r (ltb a c) _ x)) (rw (eqb-eq (sym e)) at (or_r (ltb c a) _ y)))

neither-ahead : (φ : Formula) (k : Kind) → code k ≤ 5 → (a b c d : ℕ) → Used k b → Used k d → permitted φ k a b ≡ true → permitted φ k c d ≡ true
    → ahead φ k a b c d ≡ false
    → ahead φ k c d a b ≡ false
    → (a ≡ c) × (b ≡ d)
unfolding code uses_b permitted ahead left_of
neither-ahead φ unit l a b c d u v p q x y = (neither-less a c x y, unused b d u v)
neither-ahead φ pure l a b c d u v p q x y = (same_place φ.prefix a c (pure-says φ a p).inside (pure-says φ c q).inside x y, unused b d u v)
neither-ahead φ subsume l a b c d u v p q x y = neither-pair a b c d x y
neither-ahead φ strengthen l a b c d u v p q x y = neither-pair a b c d x y
neither-ahead φ equality l a b c d u v p q x y = neither-pair a b c d x y
neither-ahead φ resolve l a b c d u v p q x y = absurd (omega arith)
neither-ahead φ expand l a b c d u v p q x y = absurd (omega arith)

module _ (E : ℕ) (φ : Formula) where
  -- two steps that are both first are one
  same_kind : (k j : Kind) (a b c d : ℕ) → read_entry (entry k a b) ≡ call k a b → read_entry (entry j c d) ≡ call j c d → First E φ k a b → First E φ j c d → k ≡ j
  same_kind k j a b c d x y r s =
      code-inj k j (neither-less (code k) (code j)
      (false_of _ (λ l. clash r.counts (s.lowest-kind _ k a b x (ltb-true _ _ l))))
      (false_of _ (λ l. clash s.counts (r.lowest-kind _ j c d y (ltb-true _ _ l)))))

  same_step : (k : Kind) → code k ≤ 5 → (a b c d : ℕ) → read_entry (entry k a b) ≡ call k a b → read_entry (entry k c d) ≡ call k c d → First E φ k a b → First E φ k c d
      → (a ≡ c) × (b ≡ d)
  same_step k l a b c d x y r s =
      neither-ahead φ k l a b c d (entry_read _ k a b x).fields.b-used (entry_read _ k c d y).fields.b-used
      (entry-permitted E φ _ k a b x r.counts)
      (entry-permitted E φ _ k c d y s.counts)
      (false_of _ (λ h. clash r.counts (s.none_ahead _ a b x h)))
      (false_of _ (λ h. clash s.counts (r.none_ahead _ c d y h)))

  same_first : (k j : Kind) → code k ≤ 5 → (a b c d : ℕ) → read_entry (entry k a b) ≡ call k a b → read_entry (entry j c d) ≡ call j c d → First E φ k a b → First E φ j c d
      → take_step j c d ≡ take_step k a b
  same_first k j l a b c d x y r s =
      let e : j ≡ k = sym (same_kind k j a b c d x y r s) in
      let z = same_step k l a b c d x (rw e at y) r (rw e at s) in
      let p : a ≡ c = z.0 in
      let q : b ≡ d = z.1 in
      cc

  pub next-only : well_formed φ ≡ true → fits φ ≡ true → (e : ℕ) (r : NextEntry E φ e) → choose E φ ≡ take_step r.kind r.a r.b
  next-only w f e r = go (choose E φ) refl
    where
      is : entry r.kind r.a r.b ≡ e
      is = (entry_read e r.kind r.a r.b r.calls).number

      go : (c : Choice) → choose E φ ≡ c → choose E φ ≡ take_step r.kind r.a r.b
      go (stuck s) h = clash r.first.counts (stuck-none E φ s h _)
      go (take_step j c d) h =
          h ∙ same_first r.kind j r.of-1-to-5 r.a r.b c d (ap read_entry is ∙ r.calls) (read-entry j c d (takes-fields E φ f j c d h)) r.first (choose-first E φ w f j c d h)

-- The reason of a variable where there is no verdict and no step of kinds 1 to 5: it satisfies its statement, and no other reason
-- satisfies its own. Assumes nothing.
use mathlib.Core.Path.{◌≡◌, refl, sym, ◌∙◌, ap, subst}
use Prim.Native.Nat.{ℕ, ◌+◌, ◌<◌, ◌≤◌}
use native.Mathlib.Omega.{arith}
use mathlib.Core.Bool.{Bool, true, false, ◌&&◌, ◌||◌, not}
use borrow.Author.Tests.{lt-ltb, le-ltb, leb-true, leb-false}
use Rattle.meaning.specs.Formula.{Formula, mentions, existential, universal}
use Rattle.meaning.specs.WellFormed.{well_formed, fits, weight}
use Rattle.rules.specs.Entry.{Kind, unit, pure, subsume, strengthen, equality, resolve, expand, code, uses_b, entry, call, read_entry}
use Rattle.rules.specs.Step.{permitted, result_of}
use Rattle.rules.specs.Choice.{costly, light, wanted, allowed_call, on_call, allowed}
use Rattle.reasons.specs.Reason.{Limit, first_limit, own_entry, too_far_right, not_lighter, between, too_heavy, over_limit, far_clause, far_variable, universal_after, existential_after, why_existential, why_universal, why_left}
use Rattle.reasons.specs.Statement.{Quiet, OwnEntry, TooFarRight, NotLighter, Between, TooHeavy, PassesFirst, OverLimit, Says}
use Rattle.meaning.proofs.Basics.{by_cases, clash, false_of}
use Rattle.meaning.proofs.Prefix.{one-kind}
use Rattle.meaning.proofs.Parts.{good_of}
use Rattle.rules.proofs.Entries.{entry_read}
use Rattle.rules.proofs.Place.{Place, place}
use Rattle.rules.proofs.Permitted.{resolve-says, expand-says}
use Rattle.reasons.proofs.Limits.{limit-true, limit-only}
use Rattle.reasons.proofs.Nexts.{counts-entry, entry-permitted}
use Rattle.reasons.proofs.Far.{far-true, OnlyFar, far-only}
use Rattle.reasons.proofs.Between.{between-true, OnlyBetween, between-only}

-- Weights --------------------------------------------------------------------------------------------------------
no-fall : (E m n : ℕ) → light E resolve m n ≡ false → m ≤ n
unfolding light
no-fall E m n h = let k : (n < m → ⊥) = λ l. clash (lt-ltb n m l) h in omega arith

not-light : (E m n : ℕ) → m ≤ n → light E resolve m n ≡ false
unfolding light
not-light E m n h = le-ltb n m h

rise : (E m n : ℕ) → light E expand m n ≡ false → m + E < n
unfolding light
rise E m n h = leb-false n (m + E) h

too-heavy : (E m n : ℕ) → m + E < n → light E expand m n ≡ false
unfolding light
too-heavy E m n h = false_of _ (λ l. let k : n ≤ m + E = leb-true n (m + E) l in omega arith)

-- The step of kind 6 or 7 counts exactly if it is permitted, light enough and fits ---------------------------------
parts : (E : ℕ) (φ : Formula) (k : Kind) (v : ℕ) → costly k ≡ true → (t r : Bool) → permitted φ k v 0 ≡ t → light E k (weight φ) (weight (result_of φ k v 0)) ≡ r
    → allowed_call E φ k v 0 ≡ ((t && r) && fits (result_of φ k v 0))
unfolding allowed_call wanted
parts E φ k v c t r x y = rw (c, x, y)

-- What the definition gives, by what the step is: it counts; it is not permitted; it is not light enough; it only does not fit.
-- Code goes by these -----------------------------------------------------------------------------------------------
module _ (E : ℕ) (φ : Formula) (v : ℕ) where
  pub existential-counts : allowed_call E φ resolve v 0 ≡ true → why_existential E φ v ≡ own_entry (entry resolve v 0)
  unfolding why_existential
  existential-counts h = rw h

  pub existential-far : permitted φ resolve v 0 ≡ false → why_existential E φ v ≡ too_far_right (far_clause φ v) (far_variable φ v) (universal_after φ v)
  unfolding why_existential costly
  existential-far p = rw (parts E φ resolve v refl false _ p refl, p)

  pub existential-heavy : permitted φ resolve v 0 ≡ true → light E resolve (weight φ) (weight (result_of φ resolve v 0)) ≡ false
      → why_existential E φ v ≡ not_lighter (weight φ) (weight (result_of φ resolve v 0))
  unfolding why_existential costly
  existential-heavy p l = rw (parts E φ resolve v refl true false p l, p, l)

  pub existential-limit : permitted φ resolve v 0 ≡ true → light E resolve (weight φ) (weight (result_of φ resolve v 0)) ≡ true → fits (result_of φ resolve v 0) ≡ false
      → why_existential E φ v ≡ over_limit (first_limit (result_of φ resolve v 0))
  unfolding why_existential costly
  existential-limit p l f = rw (parts E φ resolve v refl true true p l, p, l, f)

  pub universal-counts : allowed_call E φ expand v 0 ≡ true → why_universal E φ v ≡ own_entry (entry expand v 0)
  unfolding why_universal
  universal-counts h = rw h

  pub universal-between : permitted φ expand v 0 ≡ false → why_universal E φ v ≡ between (existential_after φ v) (universal_after φ (existential_after φ v))
  unfolding why_universal costly
  universal-between p = rw (parts E φ expand v refl false _ p refl, p)

  pub universal-heavy : permitted φ expand v 0 ≡ true → light E expand (weight φ) (weight (result_of φ expand v 0)) ≡ false
      → why_universal E φ v ≡ too_heavy (weight φ) (weight (result_of φ expand v 0))
  unfolding why_universal costly
  universal-heavy p l = rw (parts E φ expand v refl true false p l, p, l)

  pub universal-limit : permitted φ expand v 0 ≡ true → light E expand (weight φ) (weight (result_of φ expand v 0)) ≡ true → fits (result_of φ expand v 0) ≡ false
      → why_universal E φ v ≡ over_limit (first_limit (result_of φ expand v 0))
  unfolding why_universal costly
  universal-limit p l f = rw (parts E φ expand v refl true true p l, p, l, f)

module _ (E : ℕ) (φ : Formula) (w : well_formed φ ≡ true) (v : ℕ) where
  -- The reason is true -----------------------------------------------------------------------------------------------
  own : fits φ ≡ true → Quiet φ → (k : Kind) → 6 ≤ code k → (uses_b k || true) ≡ true → allowed_call E φ k v 0 ≡ true → OwnEntry E φ v (entry k v 0)
  own f quiet k high u h =
      let r : (read_entry (entry k v 0) ≡ call k v 0) × (allowed E φ (entry k v 0) ≡ true) = counts-entry E φ f k v 0 u h in
      record { quiet = quiet; kind = k; calls = r.0; of-6-or-7 = high; counts = r.1 }

  existential-true : fits φ ≡ true → Quiet φ → existential φ.prefix v ≡ true → Says E φ v (why_existential E φ v)
  unfolding code uses_b costly
  existential-true f quiet e =
      by_cases (allowed_call E φ resolve v 0)
      (λ a. subst (Says E φ v) (sym (existential-counts E φ v a)) (own f quiet resolve (omega arith) refl a))
      (λ a. by_cases (permitted φ resolve v 0) (λ b. by_cases (light E resolve (weight φ) (weight (result_of φ resolve v 0))) (narrow a b) (heavy b)) (λ b. subst (Says E φ v) (sym (existential-far E φ v b)) (far-true φ w v quiet e b)))
    where
      heavy : permitted φ resolve v 0 ≡ true → light E resolve (weight φ) (weight (result_of φ resolve v 0)) ≡ false → Says E φ v (why_existential E φ v)
      heavy b c = subst (Says E φ v) (sym (existential-heavy E φ v b c)) (record { quiet = quiet; may = b; before = refl; after = refl; no-fall = no-fall E _ _ c })

      narrow : allowed_call E φ resolve v 0 ≡ false → permitted φ resolve v 0 ≡ true → light E resolve (weight φ) (weight (result_of φ resolve v 0)) ≡ true → Says E φ v (why_existential E φ v)
      narrow a b c =
          let full : fits (result_of φ resolve v 0) ≡ false = sym (parts E φ resolve v refl true true b c) ∙ a in
          subst (Says E φ v) (sym (existential-limit E φ v b c full)) (record { quiet = quiet; kind = resolve; of-6-or-7 = omega arith; may = b; light-enough = c; passes = limit-true _ full })

  universal-true : fits φ ≡ true → Quiet φ → universal φ.prefix v ≡ true → Says E φ v (why_universal E φ v)
  unfolding code uses_b costly
  universal-true f quiet e =
      by_cases (allowed_call E φ expand v 0)
      (λ a. subst (Says E φ v) (sym (universal-counts E φ v a)) (own f quiet expand (omega arith) refl a))
      (λ a. by_cases (permitted φ expand v 0) (λ b. by_cases (light E expand (weight φ) (weight (result_of φ expand v 0))) (narrow a b) (heavy b)) (λ b. subst (Says E φ v) (sym (universal-between E φ v b)) (between-true φ w v quiet e b)))
    where
      heavy : permitted φ expand v 0 ≡ true → light E expand (weight φ) (weight (result_of φ expand v 0)) ≡ false → Says E φ v (why_universal E φ v)
      heavy b c = subst (Says E φ v) (sym (universal-heavy E φ v b c)) (record { quiet = quiet; may = b; before = refl; after = refl; rise = rise E _ _ c })

      narrow : allowed_call E φ expand v 0 ≡ false → permitted φ expand v 0 ≡ true → light E expand (weight φ) (weight (result_of φ expand v 0)) ≡ true → Says E φ v (why_universal E φ v)
      narrow a b c =
          let full : fits (result_of φ expand v 0) ≡ false = sym (parts E φ expand v refl true true b c) ∙ a in
          subst (Says E φ v) (sym (universal-limit E φ v b c full)) (record { quiet = quiet; kind = expand; of-6-or-7 = omega arith; may = b; light-enough = c; passes = limit-true _ full })

  exists-else : mentions φ.prefix v ≡ true → universal φ.prefix v ≡ false → existential φ.prefix v ≡ true
  exists-else m e = let at : Place φ.prefix v = place φ.prefix v (good_of φ w) m in at.exists-is ∙ ap not (sym at.forall-is ∙ e)

  pub left-true : fits φ ≡ true → Quiet φ → mentions φ.prefix v ≡ true → Says E φ v (why_left E φ v)
  unfolding why_left
  left-true f quiet m = by_cases (universal φ.prefix v) (λ e. rw e (universal-true f quiet e)) (λ e. rw e (existential-true f quiet (exists-else m e)))

  -- The only one -------------------------------------------------------------------------------------------------------
  of-existential : existential φ.prefix v ≡ true → why_left E φ v ≡ why_existential E φ v
  unfolding why_left
  of-existential e = rw (one-kind φ.prefix (good_of φ w) v e)

  of-universal : universal φ.prefix v ≡ true → why_left E φ v ≡ why_universal E φ v
  unfolding why_left
  of-universal e = rw e

  resolved : permitted φ resolve v 0 ≡ true → why_left E φ v ≡ why_existential E φ v
  unfolding permitted
  resolved h = of-existential (resolve-says φ v h).exists

  expanded : permitted φ expand v 0 ≡ true → why_left E φ v ≡ why_universal E φ v
  unfolding permitted
  expanded h = of-universal (expand-says φ v h).forall

  pub own-only : (e : ℕ) → OwnEntry E φ v e → why_left E φ v ≡ own_entry e
  unfolding code
  own-only e s = go s.kind s.of-6-or-7 s.calls
    where
      call-counts : (k : Kind) → read_entry e ≡ call k v 0 → allowed_call E φ k v 0 ≡ true
      call-counts k r = unfold allowed on_call in (rw r at s.counts)

      go : (k : Kind) → 6 ≤ code k → read_entry e ≡ call k v 0 → why_left E φ v ≡ own_entry e
      go unit h r = absurd (omega arith)
      go pure h r = absurd (omega arith)
      go subsume h r = absurd (omega arith)
      go strengthen h r = absurd (omega arith)
      go equality h r = absurd (omega arith)
      go resolve h r =
          resolved (entry-permitted E φ e resolve v 0 r s.counts)
          ∙ (existential-counts E φ v (call-counts resolve r) ∙ ap own_entry (entry_read e resolve v 0 r).number)
      go expand h r =
          expanded (entry-permitted E φ e expand v 0 r s.counts)
          ∙ (universal-counts E φ v (call-counts expand r) ∙ ap own_entry (entry_read e expand v 0 r).number)

  pub far-reason : (i y u : ℕ) → TooFarRight φ v i y u → why_left E φ v ≡ too_far_right i y u
  far-reason i y u s =
      let o : OnlyFar φ w v i y u = far-only φ w v i y u s in
      of-existential s.exists ∙ (existential-far E φ v o.forbidden ∙ rw (o.clause, o.variable, o.universal))

  pub lighter-reason : (m n : ℕ) → NotLighter φ v m n → why_left E φ v ≡ not_lighter m n
  lighter-reason m n s =
      let l : weight φ ≤ weight (result_of φ resolve v 0) = rw (s.before, s.after) at s.no-fall in
      resolved s.may ∙ (existential-heavy E φ v s.may (not-light E _ _ l) ∙ rw (← s.before, ← s.after))

  pub between-reason : (e u : ℕ) → Between φ v e u → why_left E φ v ≡ between e u
  between-reason e u s =
      let o : OnlyBetween φ w v e u = between-only φ w v e u s in
      of-universal s.forall ∙ (universal-between E φ v o.forbidden ∙ rw (o.exists, o.forall))

  pub heavy-reason : (m n : ℕ) → TooHeavy E φ v m n → why_left E φ v ≡ too_heavy m n
  heavy-reason m n s =
      let l : weight φ + E < weight (result_of φ expand v 0) = rw (s.before, s.after) at s.rise in
      expanded s.may ∙ (universal-heavy E φ v s.may (too-heavy E _ _ l) ∙ rw (← s.before, ← s.after))

  pub limit-reason : (l : Limit) → OverLimit E φ v l → why_left E φ v ≡ over_limit l
  unfolding code
  limit-reason l s = go s.kind s.of-6-or-7 s.may s.light-enough s.passes
    where
      go : (k : Kind) → 6 ≤ code k → permitted φ k v 0 ≡ true → light E k (weight φ) (weight (result_of φ k v 0)) ≡ true → PassesFirst (result_of φ k v 0) l → why_left E φ v ≡ over_limit l
      go unit h p q f = absurd (omega arith)
      go pure h p q f = absurd (omega arith)
      go subsume h p q f = absurd (omega arith)
      go strengthen h p q f = absurd (omega arith)
      go equality h p q f = absurd (omega arith)
      go resolve h p q f = let o = limit-only (result_of φ resolve v 0) l f in resolved p ∙ (existential-limit E φ v p q o.0 ∙ ap over_limit o.1)
      go expand h p q f = let o = limit-only (result_of φ expand v 0) l f in expanded p ∙ (universal-limit E φ v p q o.0 ∙ ap over_limit o.1)

-- The theorems of request 2: "names the reason, and prove it true and the only one". Assumes nothing.
use mathlib.Core.Path.{◌≡◌, refl, sym, ◌∙◌, ap}
use Prim.Native.Nat.{ℕ}
use native.Mathlib.Omega.{arith}
use mathlib.Core.Bool.{Bool, true, false, cond, false≢true}
use mathlib.Core.List.{List, [], ◌∷◌}
use Rattle.meaning.specs.Lists.{any_of}
use Rattle.meaning.specs.Formula.{Formula, mentions}
use Rattle.meaning.specs.Game.{empty_clause, no_clause}
use Rattle.meaning.specs.WellFormed.{well_formed, fits}
use Rattle.rules.specs.Entry.{Kind, entry}
use Rattle.rules.specs.Choice.{costly, Choice, take_step, stuck, choose}
use Rattle.rules.specs.Run.{true_end, false_end, finished, out_of_room, Next, over, step, next_of, next}
use Rattle.reasons.specs.Reason.{Reason, verdict, next_entry, own_entry, too_far_right, not_lighter, between, too_heavy, over_limit, why_left, reason_at, reason_of}
use Rattle.reasons.specs.Statement.{NoVerdict, NextEntry, Quiet, Says}
use Rattle.meaning.proofs.Basics.{clash}
use Rattle.rules.proofs.Next.{over-step, next-step, next-over}
use Rattle.rules.proofs.Chosen.{choose-takes}
use Rattle.rules.proofs.Permitted.{wanted-permitted, allowed-wanted}
use Rattle.rules.proofs.Entries.{entry_read}
use Rattle.reasons.proofs.Nexts.{cheap-low, open_next, verdict-or, stuck-quiet, costly-quiet, next-true, next-only, low-cheap}
use Rattle.reasons.proofs.Left.{left-true, own-only, far-reason, lighter-reason, between-reason, heavy-reason, limit-reason}

empty-none : (cs : List (List ℕ)) → no_clause cs ≡ true → empty_clause cs ≡ false
unfolding no_clause empty_clause any_of
empty-none [] h = refl
empty-none (c ∷ cs) h = absurd (false≢true h)

never : ◌≡◌ {A = ℕ} 0 1 → ⊥
never z = omega arith

module _ (E : ℕ) (φ : Formula) (v : ℕ) where
  -- where there is no verdict and no step of kinds 1 to 5, the variable is looked at
  pub quiet-left : Quiet φ → reason_of E φ v ≡ why_left E φ v
  unfolding reason_of reason_at next_of
  quiet-left q = ap (reason_at E φ v) (open_next E φ q.no-verdict) ∙ go (choose E φ) refl
    where
      by_kind : (k : Kind) (a b : ℕ) → choose E φ ≡ take_step k a b → (s : Bool) → costly k ≡ s → cond s (why_left E φ v) (next_entry (entry k a b)) ≡ why_left E φ v
      by_kind k a b h true c = refl
      by_kind k a b h false c = clash (wanted-permitted E φ k a b (allowed-wanted E φ k a b (choose-takes E φ k a b h).counts)) (q.none k a b (cheap-low k c))

      go : (c : Choice) → choose E φ ≡ c → reason_at E φ v (next_of c) ≡ why_left E φ v
      go (take_step k a b) h = by_kind k a b h (costly k) refl
      go (stuck true) h = refl
      go (stuck false) h = refl

module _ (E : ℕ) (φ : Formula) (w : well_formed φ ≡ true) (f : fits φ ≡ true) (v : ℕ) where
  -- True -----------------------------------------------------------------------------------------------------------
  -- where what is next is no verdict
  open_at : (x : Next) → next E φ ≡ x → (x ≡ over true_end → ⊥) → (x ≡ over false_end → ⊥) → NoVerdict φ
  open_at x h t u = verdict-or E φ (λ e. t (sym h ∙ e)) (λ e. u (sym h ∙ e))

  -- The reason given for a variable of the prefix satisfies its statement.
  pub reason-true : mentions φ.prefix v ≡ true → Says E φ v (reason_of E φ v)
  unfolding reason_of reason_at
  reason-true m = go (next E φ) refl
    where
      by_kind : (k : Kind) (a b : ℕ) → next E φ ≡ step k a b → (s : Bool) → costly k ≡ s → Says E φ v (cond s (why_left E φ v) (next_entry (entry k a b)))
      by_kind k a b h true c = left-true E φ w v f (costly-quiet E φ w f (open_at _ h (λ e. over-step _ k a b (sym e)) (λ e. over-step _ k a b (sym e))) k a b (next-step E φ k a b h) c) m
      by_kind k a b h false c = next-true E φ w f (open_at _ h (λ e. over-step _ k a b (sym e)) (λ e. over-step _ k a b (sym e))) k a b (next-step E φ k a b h) c

      go : (x : Next) → next E φ ≡ x → Says E φ v (reason_at E φ v x)
      go (over true_end) h = next-over E φ true_end h
      go (over false_end) h = next-over E φ false_end h
      go (over finished) h = left-true E φ w v f (stuck-quiet E φ f (open_at _ h (λ e. never (cc)) (λ e. never (cc))) false (next-over E φ finished h)) m
      go (over out_of_room) h = left-true E φ w v f (stuck-quiet E φ f (open_at _ h (λ e. never (cc)) (λ e. never (cc))) true (next-over E φ out_of_room h)) m
      go (step k a b) h = by_kind k a b h (costly k) refl

  -- The only one -----------------------------------------------------------------------------------------------------
  next-is : (e : ℕ) → NextEntry E φ e → reason_of E φ v ≡ next_entry e
  unfolding reason_of reason_at next_of
  next-is e r =
      ap (reason_at E φ v) (open_next E φ r.no-verdict)
      ∙ (ap (λ (c : Choice). reason_at E φ v (next_of c)) (next-only E φ w f e r)
      ∙ (ap (λ (s : Bool). cond s (why_left E φ v) (next_entry (entry r.kind r.a r.b))) (low-cheap r.kind r.of-1-to-5) ∙ ap next_entry (entry_read e r.kind r.a r.b r.calls).number))

  verdict-is : (b : Bool) → Says E φ v (verdict b) → reason_of E φ v ≡ verdict b
  unfolding reason_of reason_at next
  verdict-is true h = rw (empty-none φ.clauses h, h)
  verdict-is false h = rw h

  -- A reason whose statement holds is the one given.
  pub reason-is : (r : Reason) → Says E φ v r → reason_of E φ v ≡ r
  reason-is (verdict b) s = verdict-is b s
  reason-is (next_entry e) s = next-is e s
  reason-is (own_entry e) s = quiet-left E φ v s.quiet ∙ own-only E φ w v e s
  reason-is (too_far_right i y u) s = quiet-left E φ v s.quiet ∙ far-reason E φ w v i y u s
  reason-is (not_lighter m n) s = quiet-left E φ v s.quiet ∙ lighter-reason E φ w v m n s
  reason-is (between e u) s = quiet-left E φ v s.quiet ∙ between-reason E φ w v e u s
  reason-is (too_heavy m n) s = quiet-left E φ v s.quiet ∙ heavy-reason E φ w v m n s
  reason-is (over_limit l) s = quiet-left E φ v s.quiet ∙ limit-reason E φ w v l s

  -- No two different reasons satisfy theirs.
  pub reason-only : (r s : Reason) → Says E φ v r → Says E φ v s → r ≡ s
  reason-only r s x y = sym (reason-is r x) ∙ reason-is s y

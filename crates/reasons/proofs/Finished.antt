-- Reasons where a run ended: in a FINISHED or OUT OF ROOM formula each names what keeps the variable; OUT OF ROOM is where one of them
-- is a limit. And what the first two reasons are: a verdict is the truth, a next entry is what the run logs. Assumes nothing.
use mathlib.Core.Path.{◌≡◌, refl, ◌∙◌, ap, subst}
use Prim.Native.Nat.{ℕ, suc, ◌≤◌}
use native.Mathlib.Omega.{arith}
use mathlib.Core.Bool.{Bool, true, false, cond, not, ◌&&◌, false≢true}
use mathlib.Core.List.{List, [], ◌∷◌}
use Rattle.meaning.specs.Formula.{Formula, mentions, universal}
use Rattle.meaning.specs.Game.{truth, is_true, no_clause}
use Rattle.meaning.specs.WellFormed.{well_formed, fits, weight}
use Rattle.rules.specs.Entry.{Kind, unit, pure, subsume, strengthen, equality, resolve, expand, code, uses_b, entry, Call, bad, call, read_entry}
use Rattle.rules.specs.Step.{permitted, result_of}
use Rattle.rules.specs.Choice.{costly, light, wanted, allowed_call, blocked_call, on_call, allowed, blocked, stuck, choose}
use Rattle.rules.specs.Run.{End, true_end, false_end, finished, out_of_room, ended, over, step, next_of, next, logged, onward, run_from}
use Rattle.reasons.specs.Reason.{Limit, Reason, over_limit, first_limit, why_existential, why_universal, why_left, reason_at, reason_of}
use Rattle.reasons.specs.Statement.{Verdict, NextEntry, Quiet, OverLimit, Says, keeps}
use Rattle.meaning.proofs.Basics.{by_cases, clash, false_of, and_l, and_r, eqb-true}
use Rattle.meaning.proofs.Verdict.{none_true, empty-clause-false}
use Rattle.rules.proofs.Chosen.{stuck-none, stuck-room, stuck-blocked}
use Rattle.rules.proofs.Entries.{read-entry, entry_read}
use Rattle.rules.proofs.Kept.{Kept}
use Rattle.rules.proofs.Next.{next-over}
use Rattle.rules.proofs.Runs.{run-rest, run-kept}
use Rattle.meaning.proofs.Prefix.{exists-mentioned, forall-mentioned}
use Rattle.rules.proofs.Choose.{Used, Listed, listed, fields-of}
use Rattle.rules.proofs.Permitted.{resolve-says, expand-says, blocked-wanted, blocked-full}
use Rattle.reasons.proofs.Limits.{limit-true, limit-only}
use Rattle.reasons.proofs.Nexts.{counts-entry, costly-high, open_next, verdict-or, stuck-quiet, next-only}
use Rattle.reasons.proofs.Reasons.{reason-true, reason-is}

-- an end that is no verdict: FINISHED or OUT OF ROOM
unfoldable pub without-verdict : End → Bool
without-verdict true_end = false
without-verdict false_end = false
without-verdict finished = true
without-verdict out_of_room = true

module _ (E : ℕ) (φ : Formula) (f : fits φ ≡ true) (v : ℕ) where
  -- where no entry counts, the variable's own does not
  uncounted : ((e : ℕ) → allowed E φ e ≡ false) → (k : Kind) → uses_b k ≡ false → allowed_call E φ k v 0 ≡ false
  uncounted n k u = false_of _ (λ h. clash (counts-entry E φ f k v 0 (rw u) h).1 (n (entry k v 0)))

  -- of the other reasons each keeps it
  after-entry : (t r : Bool) (a b c : Reason) → keeps a ≡ true → keeps b ≡ true → keeps c ≡ true → keeps (cond (not t) a (cond (not r) b c)) ≡ true
  after-entry false r a b c x y z = x
  after-entry true false a b c x y z = y
  after-entry true true a b c x y z = z

  existential-keeps : ((e : ℕ) → allowed E φ e ≡ false) → keeps (why_existential E φ v) ≡ true
  unfolding why_existential keeps uses_b
  existential-keeps n = rw (uncounted n resolve refl) (after-entry (permitted φ resolve v 0) (light E resolve (weight φ) (weight (result_of φ resolve v 0))) _ _ _ refl refl refl)

  universal-keeps : ((e : ℕ) → allowed E φ e ≡ false) → keeps (why_universal E φ v) ≡ true
  unfolding why_universal keeps uses_b
  universal-keeps n = rw (uncounted n expand refl) (after-entry (permitted φ expand v 0) (light E expand (weight φ) (weight (result_of φ expand v 0))) _ _ _ refl refl refl)

  left-keeps : ((e : ℕ) → allowed E φ e ≡ false) → keeps (why_left E φ v) ≡ true
  unfolding why_left
  left-keeps n = by_cases (universal φ.prefix v) (λ e. rw e (universal-keeps n)) (λ e. rw e (existential-keeps n))

  -- In a FINISHED or OUT OF ROOM formula the reason is neither a verdict nor an entry.
  pub left-reason : (e : End) → without-verdict e ≡ true → next E φ ≡ over e → keeps (reason_of E φ v) ≡ true
  unfolding without-verdict reason_of reason_at
  left-reason true_end o h = absurd (false≢true o)
  left-reason false_end o h = absurd (false≢true o)
  left-reason finished o h = rw h (left-keeps (stuck-none E φ false (next-over E φ finished h)))
  left-reason out_of_room o h = rw h (left-keeps (stuck-none E φ true (next-over E φ out_of_room h)))

-- So in the formula that a run leaves at FINISHED or OUT OF ROOM every variable left has a reason that is no entry.
pub run-left : (E n : ℕ) (φ : Formula) → well_formed φ ≡ true → fits φ ≡ true → (e : End) → without-verdict e ≡ true → (run_from E n φ).outcome ≡ ended e
    → (v : ℕ)
    → mentions (run_from E n φ).final.prefix v ≡ true
    → Says E (run_from E n φ).final v (reason_of E (run_from E n φ).final v) × (keeps (reason_of E (run_from E n φ).final v) ≡ true)
run-left E n φ w f e o h v m =
    let k : Kept φ (run_from E n φ).final = run-kept E n φ w f in
    (reason-true E _ k.well k.room v m, left-reason E _ k.room v e o (run-rest E n φ e h))

-- Limits ---------------------------------------------------------------------------------------------------------
high-costly : (k : Kind) → 6 ≤ code k → (costly k ≡ true) × (uses_b k ≡ false)
unfolding code costly uses_b
high-costly unit h = absurd (omega arith)
high-costly pure h = absurd (omega arith)
high-costly subsume h = absurd (omega arith)
high-costly strengthen h = absurd (omega arith)
high-costly equality h = absurd (omega arith)
high-costly resolve h = (refl, refl)
high-costly expand h = (refl, refl)

no-b : (k : Kind) (d : ℕ) → costly k ≡ true → Used k d → d ≡ 0
no-b k d c u = eqb-true d 0 (rw (high-costly k (costly-high k c)).1 at u)

costly-inside : (φ : Formula) (k : Kind) (v : ℕ) → costly k ≡ true → permitted φ k v 0 ≡ true → mentions φ.prefix v ≡ true
unfolding costly permitted
costly-inside φ unit v c h = absurd (false≢true c)
costly-inside φ pure v c h = absurd (false≢true c)
costly-inside φ subsume v c h = absurd (false≢true c)
costly-inside φ strengthen v c h = absurd (false≢true c)
costly-inside φ equality v c h = absurd (false≢true c)
costly-inside φ resolve v c h = exists-mentioned φ.prefix v (resolve-says φ v h).exists
costly-inside φ expand v c h = forall-mentioned φ.prefix v (expand-says φ v h).forall

blocked-costly : (E : ℕ) (φ : Formula) (k : Kind) (a b : ℕ) → blocked_call E φ k a b ≡ true → costly k ≡ true
unfolding blocked_call
blocked-costly E φ k a b h = search (and_l, and_r)

never : ◌≡◌ {A = ℕ} 0 1 → ⊥
never z = omega arith

module _ (E : ℕ) (φ : Formula) (w : well_formed φ ≡ true) (f : fits φ ≡ true) where
  -- a step whose reason is a limit failed only for room
  limit-blocks : (v : ℕ) (l : Limit) (s : OverLimit E φ v l) → blocked E φ (entry s.kind v 0) ≡ true
  unfolding blocked on_call blocked_call wanted
  limit-blocks v l s =
      let c : (costly s.kind ≡ true) × (uses_b s.kind ≡ false) = high-costly s.kind s.of-6-or-7 in
      let i : Listed φ s.kind v 0 = listed φ s.kind v 0 (rw c.1) s.may in
      rw (read-entry s.kind v 0 (fields-of φ f s.kind v 0 i), s.may, s.light-enough, c.0, (limit-only _ l s.passes).0)

  -- At FINISHED no variable's reason is a limit.
  pub finished-no-limit : next E φ ≡ over finished → (v : ℕ) → mentions φ.prefix v ≡ true → (l : Limit) → reason_of E φ v ≡ over_limit l → ⊥
  finished-no-limit h v m l e =
      let s : OverLimit E φ v l = subst (Says E φ v) e (reason-true E φ w f v m) in
      false≢true (stuck-blocked E φ false (next-over E φ finished h) (entry s.kind v 0) (limit-blocks v l s))

  -- a step that fails only for room: the limit is its variable's reason
  blocked-limit : Quiet φ → (k : Kind) (v : ℕ) → blocked_call E φ k v 0 ≡ true → (mentions φ.prefix v ≡ true) × (reason_of E φ v ≡ over_limit (first_limit (result_of φ k v 0)))
  unfolding wanted
  blocked-limit quiet k v h =
      let c : costly k ≡ true = blocked-costly E φ k v 0 h in
      let i : (permitted φ k v 0 && light E k (weight φ) (weight (result_of φ k v 0))) ≡ true = blocked-wanted E φ k v 0 h in
      let p : permitted φ k v 0 ≡ true = and_l _ _ i in
      let s : OverLimit E φ v (first_limit (result_of φ k v 0)) =
      record { quiet = quiet; kind = k; of-6-or-7 = costly-high k c; may = p; light-enough = and_r (permitted φ k v 0) _ i; passes = limit-true _ (blocked-full E φ k v 0 h) } in
      (costly-inside φ k v c p, reason-is E φ w f v (over_limit (first_limit (result_of φ k v 0))) s)

  -- At OUT OF ROOM one variable's is.
  pub room-limit : next E φ ≡ over out_of_room → (v : ℕ) × (l : Limit) × (mentions φ.prefix v ≡ true) × (reason_of E φ v ≡ over_limit l)
  room-limit h = go (read_entry b.0) refl (unfold blocked in b.1)
    where
      c : choose E φ ≡ stuck true
      c = next-over E φ out_of_room h

      b : (e : ℕ) × (blocked E φ e ≡ true)
      b = stuck-room E φ f c

      quiet : Quiet φ
      quiet = stuck-quiet E φ f (verdict-or E φ (λ e. never (cc)) (λ e. never (cc))) true c

      go : (x : Call) → read_entry b.0 ≡ x → on_call (blocked_call E φ) (read_entry b.0) ≡ true → (v : ℕ) × (l : Limit) × (mentions φ.prefix v ≡ true) × (reason_of E φ v ≡ over_limit l)
      go bad r i = absurd (unfold on_call in (false≢true (rw r at i)))
      go (call k v d) r i =
          let j : blocked_call E φ k v d ≡ true = unfold on_call in (rw r at i) in
          let z : d ≡ 0 = no-b k d (blocked-costly E φ k v d j) (entry_read _ k v d r).fields.b-used in
          let s = blocked-limit quiet k v (rw z at j) in
          (v, first_limit (result_of φ k v 0), s.0, s.1)

-- What the verdict and the next entry are ------------------------------------------------------------------------

no-clause : (cs : List (List ℕ)) → no_clause cs ≡ true → cs ≡ []
unfolding no_clause
no-clause [] h = refl
no-clause (c ∷ cs) h = absurd (false≢true h)

-- A verdict is the truth of the formula.
pub verdict-truth : (φ : Formula) (b : Bool) → Verdict φ b → is_true φ ≡ b
unfolding is_true
verdict-truth φ true h = ap (λ (cs : List (List ℕ)). truth φ.prefix cs (λ _. false)) (no-clause φ.clauses h) ∙ none_true φ.prefix (λ _. false)
verdict-truth φ false h = empty-clause-false φ.prefix φ.clauses h (λ _. false)

-- The next entry is the first that a run logs.
pub next-logged : (E n : ℕ) (φ : Formula) → well_formed φ ≡ true → fits φ ≡ true → (e : ℕ) → NextEntry E φ e → (es : List ℕ) × ((run_from E (suc n) φ).log ≡ e ∷ es)
unfolding run_from onward logged next_of
next-logged E n φ w f e r =
    let x : next E φ ≡ step r.kind r.a r.b = open_next E φ r.no-verdict ∙ ap next_of (next-only E φ w f e r) in
    let rest : List ℕ = (run_from E n (result_of φ r.kind r.a r.b)).log in
    (rest, rw x (ap (λ (k : ℕ). k ∷ rest) (entry_read e r.kind r.a r.b r.calls).number))

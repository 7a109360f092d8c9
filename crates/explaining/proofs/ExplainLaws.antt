-- The ways out of a question after a variable: refused, or as the reason says.
-- Assumes nothing.
use mathlib.Core.Path.{◌≡◌, refl, sym, ap, ◌∙◌}
use mathlib.Core.Bool.{Bool, true, false}
use mathlib.Core.List.{List}
use Prim.Native.Nat.{ℕ, ◌<◌, ◌≤◌}
use borrow.Author.Tests.{le-leb, lt-leb}
use lib.ListN.{take}
use Rattle.judging.specs.declared.Unfit.{Unfit}
use Rattle.std.specs.Prelude.{Ok, Err}
use Rattle.explaining.specs.declared.explains.ReasonAnswer.TheVariants as says
use Rattle.meaning.specs.Formula.{Formula, mentions}
use Rattle.reasons.specs.Reason.{of_variables, of_clauses, of_literals, Reason, verdict, next_entry, own_entry, too_far_right, not_lighter, between, too_heavy, over_limit, reason_of}
use Rattle.table.specs.Table.{Holds}
use Rattle.judging.specs.Check.{Asked, asked}
use Rattle.table.specs.declared.Counts.{Counts}
use Rattle.reasoning.specs.Whys.{limit_as, why_as}
use Rattle.reasoning.specs.declared.Why.{Why}
use Rattle.apply.specs.Applied.{Stands}
use Rattle.table.proofs.HoldLaws.{prefix-is}
use Rattle.standing.specs.Standing.{formula_in, first_for, second_for}
use Rattle.explaining.specs.Explaining.{unfit_answer, limit_answer, reason_answer, answer_there, answer_on, looks, refuses, heard_of, heard_for, heard_in, answer_for, first_after, second_after, Explains, why_back}
use Rattle.explaining.specs.declared.explains.ReasonAnswer.{ReasonAnswer}
use Rattle.explaining.specs.declared.explains.Reasoned.{Reasoned}

reason-back : (x : Reason) → why_back (why_as x) ≡ reason_answer x
unfolding why_back why_as limit_as reason_answer limit_answer
reason-back (verdict true) = refl
reason-back (verdict false) = refl
reason-back (next_entry e) = refl
reason-back (own_entry e) = refl
reason-back (too_far_right i y u) = refl
reason-back (not_lighter m n) = refl
reason-back (between e u) = refl
reason-back (too_heavy m n) = refl
reason-back (over_limit of_variables) = refl
reason-back (over_limit of_clauses) = refl
reason-back (over_limit of_literals) = refl

-- The variable is in the prefix, or not: b says so of the table's own prefix -------------------------------------
module _ {φ : Formula} {t : List ℕ} {c : Counts} (h : Holds φ t c) (v : ℕ) (b : Bool) (said : b ≡ mentions (take c.variables t) v) where
  there-is : mentions φ.prefix v ≡ b
  there-is = sym (said ∙ ap (λ (p : List ℕ). mentions p v) (prefix-is h))

  pub there : b ≡ true → mentions φ.prefix v ≡ true
  there e = there-is ∙ e

  pub answer-there : (E : ℕ) → b ≡ true → (w : Why) → w ≡ why_as (reason_of E φ v) → (r : ReasonAnswer) → r ≡ why_back w → r ≡ answer_on φ v E
  unfolding answer_on answer_there
  answer-there E e w i r q = rw (there e) (q ∙ (ap why_back i ∙ reason-back (reason_of E φ v)))

  pub answer-absent : (E : ℕ) → b ≡ false → says.NotPermitted ≡ answer_on φ v E
  unfolding answer_on answer_there
  answer-absent E e = rw (there-is ∙ e)

-- The call ---------------------------------------------------------------------------------------------------------
module _ (a b : List ℕ) (c : Counts) (v E : ℕ) (s : Asked) (q : s ≡ asked a b c) where
  refused : (x : ReasonAnswer) → heard_in a b c E ≡ refuses x → (r : Reasoned) → r ≡ record { answer = x; counts = c } → Explains a b c v E r a b
  unfolding answer_for first_after second_after
  refused x h r e = record { given = e ∙ rw h; first = rw h; second = rw h }

  pub explains-unfit : (u : Unfit) → s ≡ Err u → (r : Reasoned) → r ≡ record { answer = unfit_answer u; counts = c } → Explains a b c v E r a b
  unfolding heard_in heard_for
  explains-unfit u k r e = refused (unfit_answer u) (ap (λ x. heard_for x E) (sym q ∙ k)) r e

  pub explains-allowance : s ≡ Ok tt → 1000 < E → (r : Reasoned) → r ≡ record { answer = says.Allowance; counts = c } → Explains a b c v E r a b
  unfolding heard_in heard_for heard_of
  explains-allowance k l r e = refused says.Allowance (ap (λ x. heard_for x E) (sym q ∙ k) ∙ ap heard_of (lt-leb E 1000 l)) r e

  pub explains-given : s ≡ Ok tt → E ≤ 1000 → (x : ReasonAnswer) (a' b' : List ℕ)
      → (x ≡ answer_on (formula_in a b c) v E) × Stands (formula_in a b c) c.second a' b'
      → (r : Reasoned) → r ≡ record { answer = x; counts = c } → Explains a b c v E r a' b'
  unfolding heard_in heard_for heard_of answer_for first_after second_after first_for second_for
  explains-given k l x a' b' m r e =
      let h : heard_in a b c E ≡ looks = ap (λ x. heard_for x E) (sym q ∙ k) ∙ ap heard_of (le-leb E 1000 l) in
      record { given = e ∙ rw (h, m.0); first = rw h m.1.first; second = rw h m.1.second }

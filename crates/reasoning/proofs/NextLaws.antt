-- The reason by what the run does next: a verdict, an entry of kinds 1 to 5, or by the variable.
-- Assumes nothing.
use Prim.Native.Nat.{ℕ, ◌/◌, ◌≤◌, ◌<◌}
use mathlib.Core.Path.{◌≡◌, refl, sym, ap, ◌∙◌}
use mathlib.Core.Bool.{true, false}
use native.Mathlib.Omega.{arith}
use Rattle.meaning.specs.Formula.{Formula}
use Rattle.meaning.specs.WellFormed.{well_formed, fits}
use Rattle.rules.specs.Entry.{Kind, code, entry}
use Rattle.rules.specs.Choice.{costly}
use Rattle.rules.specs.Run as rules
use Rattle.rules.specs.Run.{true_end, false_end, finished, out_of_room, over, step}
use Rattle.choice.specs.Chosen.{end_as, next_as}
use Rattle.choice.specs.declared.End.TheVariants as end
use Rattle.choice.specs.declared.Next.{Next}
use Rattle.choice.specs.declared.Next.TheVariants as next
use Rattle.reasons.specs.Reason.{why_left, reason_at, reason_of}
use Rattle.reasons.specs.Statement.{Quiet}
use Rattle.meaning.proofs.Basics.{by_cases}
use Rattle.rules.proofs.Entries.{Fields, code-range}
use Rattle.rules.proofs.Next.{over-step, next-step, next-over}
use Rattle.rules.proofs.Chosen.{takes-fields}
use Rattle.reasons.proofs.Nexts.{low-cheap, cheap-low, verdict-or, stuck-quiet, costly-quiet}
use Rattle.reasons.proofs.Reasons.{quiet-left}
use Rattle.reasoning.specs.Whys.{why_as}
use Rattle.reasoning.specs.declared.Why.{Why}
use Rattle.reasoning.specs.declared.Why.TheVariants.{True, False, NextEntry}

-- Back from the code's answers ---------------------------------------------------------------------------------------
never : ◌≡◌ {A = ℕ} 0 1 → ⊥
never z = omega arith

end_is : (x e : rules.End) → end_as x ≡ end_as e → x ≡ e
unfolding end_as
end_is true_end true_end h = refl
end_is true_end false_end h = absurd (never cc)
end_is true_end finished h = absurd (never cc)
end_is true_end out_of_room h = absurd (never cc)
end_is false_end true_end h = absurd (never cc)
end_is false_end false_end h = refl
end_is false_end finished h = absurd (never cc)
end_is false_end out_of_room h = absurd (never cc)
end_is finished true_end h = absurd (never cc)
end_is finished false_end h = absurd (never cc)
end_is finished finished h = refl
end_is finished out_of_room h = absurd (never cc)
end_is out_of_room true_end h = absurd (never cc)
end_is out_of_room false_end h = absurd (never cc)
end_is out_of_room finished h = absurd (never cc)
end_is out_of_room out_of_room h = refl

over-is : (x : rules.Next) (e : rules.End) → next_as x ≡ next.Over (end_as e) → x ≡ over e
unfolding next_as
over-is (over d) e h = ap over (end_is d e cc)
over-is (step k a b) e h = absurd (never cc)

pub record Taken (x : rules.Next) (n : ℕ) : Type 0 where
  pub kind : Kind
  pub a : ℕ
  pub b : ℕ
  pub is : x ≡ step kind a b
  pub entry-is : n ≡ entry kind a b

taken : (x : rules.Next) (n : ℕ) → next_as x ≡ next.Step n → Taken x n
unfolding next_as
taken (over e) n h = absurd (never cc)
taken (step k a b) n h = record { kind = k; a = a; b = b; is = refl; entry-is = cc }

-- What is next, as the code has it -------------------------------------------------------------------------------------
module _ (E : ℕ) (φ : Formula) (r : Next) (said : r ≡ next_as (rules.next E φ)) where
  over-next : (e : rules.End) → r ≡ next.Over (end_as e) → rules.next E φ ≡ over e
  over-next e h = over-is (rules.next E φ) e (sym said ∙ h)

  pub says-true : r ≡ next.Over end.True → (v : ℕ) → True ≡ why_as (reason_of E φ v)
  unfolding why_as reason_of reason_at end_as
  says-true h v = rw (over-next true_end h)

  pub says-false : r ≡ next.Over end.False → (v : ℕ) → False ≡ why_as (reason_of E φ v)
  unfolding why_as reason_of reason_at end_as
  says-false h v = rw (over-next false_end h)

  module _ (w : well_formed φ ≡ true) (f : fits φ ≡ true) where
    -- no verdict, and none of kinds 1 to 5
    pub finished-quiet : r ≡ next.Over end.Finished → Quiet φ
    unfolding end_as
    finished-quiet h =
        let n : rules.next E φ ≡ over finished = over-next finished h in
        stuck-quiet E φ f (verdict-or E φ (λ e. never (let z = sym n ∙ e in cc)) (λ e. never (let z = sym n ∙ e in cc))) false (next-over E φ finished n)

    pub roomless-quiet : r ≡ next.Over end.OutOfRoom → Quiet φ
    unfolding end_as
    roomless-quiet h =
        let n : rules.next E φ ≡ over out_of_room = over-next out_of_room h in
        stuck-quiet E φ f (verdict-or E φ (λ e. never (let z = sym n ∙ e in cc)) (λ e. never (let z = sym n ∙ e in cc))) true (next-over E φ out_of_room n)

    module _ (n : ℕ) (h : r ≡ next.Step n) where
      is-taken : Taken (rules.next E φ) n
      is-taken = taken (rules.next E φ) n (sym said ∙ h)

      -- the kind stands in the three highest bits
      kind-is : n / 536870912 ≡ code is-taken.kind
      unfolding entry
      kind-is =
          let k = is-taken in
          let g : Fields k.kind k.a k.b = takes-fields E φ f k.kind k.a k.b (next-step E φ k.kind k.a k.b k.is) in
          omega (arith, k.entry-is, (code-range k.kind).1, g.a_small, g.b-small)

      pub says-next : n / 536870912 ≤ 5 → (v : ℕ) → NextEntry n ≡ why_as (reason_of E φ v)
      unfolding why_as reason_of reason_at
      says-next l v =
          let k = is-taken in
          ap NextEntry k.entry-is ∙ rw (k.is, low-cheap k.kind (omega (arith, kind-is)))

      pub dear-quiet : 5 < n / 536870912 → Quiet φ
      dear-quiet l =
          let k = is-taken in
          costly-quiet E φ w f (verdict-or E φ (λ e. over-step _ _ _ _ (sym e ∙ k.is)) (λ e. over-step _ _ _ _ (sym e ∙ k.is))) k.kind k.a k.b (next-step E φ k.kind k.a k.b k.is) dear
        where
          dear : costly is-taken.kind ≡ true
          dear = by_cases (costly is-taken.kind) (λ t. t) (λ t. absurd (let m = cheap-low is-taken.kind t in omega (arith, kind-is)))

-- where the variable is looked at
pub says-left : (E : ℕ) (φ : Formula) (v : ℕ) → Quiet φ → (r : Why) → r ≡ why_as (why_left E φ v) → r ≡ why_as (reason_of E φ v)
says-left E φ v q r h = h ∙ sym (ap why_as (quiet-left E φ v q))

-- A step that counts in a run lowers the bound on its steps. Assumes nothing.
use mathlib.Core.Path.{◌≡◌, refl, ap}
use Prim.Native.Nat.{ℕ, suc, ◌+◌, ◌*◌, ◌<◌, ◌≤◌}
use native.Mathlib.Nat.{suc-mul, mul-le-mul_right}
use native.Mathlib.Omega.{arith}
use mathlib.Core.Bool.{true, false, true≢false}
use borrow.Author.Tests.{leb-true, ltb-true}
use Rattle.meaning.specs.Formula.{Formula}
use Rattle.meaning.specs.WellFormed.{weight, universals, well_formed}
use Rattle.meaning.specs.Tidy.{tidied}
use Rattle.rules.specs.Eliminate.{resolve_raw}
use Rattle.rules.specs.Entry.{Kind, unit, pure, subsume, strengthen, equality, resolve, expand}
use Rattle.rules.specs.Step.{permitted, raw_of, result_of}
use Rattle.rules.specs.Choice.{costly, light, wanted}
use Rattle.rules.specs.Run.{step_bound}
use Rattle.meaning.proofs.Basics.{and_l, and_r}
use Rattle.rules.proofs.Falls.{unit-falls, pure-falls, subsume-falls, strengthen-falls, equality-falls, tidied-falls, universals-expand}
use Rattle.rules.proofs.Room.{raw_smaller, universals-drop}

-- The weight and the bound -----------------------------------------------------------------------------------
pub cheap-falls : (φ : Formula) → well_formed φ ≡ true → (k : Kind) → costly k ≡ false → (a b : ℕ) → permitted φ k a b ≡ true
    → weight (result_of φ k a b) < weight φ
unfolding result_of raw_of permitted costly
cheap-falls φ w unit e a b h = tidied-falls φ (raw_of φ unit a b) (unit-falls φ w a h)
cheap-falls φ w pure e a b h = tidied-falls φ (raw_of φ pure a b) (pure-falls φ w a h)
cheap-falls φ w subsume e a b h = tidied-falls φ (raw_of φ subsume a b) (subsume-falls φ a b h)
cheap-falls φ w strengthen e a b h = tidied-falls φ (raw_of φ strengthen a b) (strengthen-falls φ a b h)
cheap-falls φ w equality e a b h = tidied-falls φ (raw_of φ equality a b) (equality-falls φ w a b h)
cheap-falls φ w resolve e a b h = absurd (true≢false e)
cheap-falls φ w expand e a b h = absurd (true≢false e)

-- the weight falls and the universals do not rise
falls-more : (E : ℕ) (φ ψ : Formula) → weight ψ < weight φ → universals ψ.prefix ≤ universals φ.prefix → step_bound E ψ < step_bound E φ
unfolding step_bound
falls-more E φ ψ x y = omega (arith, mul-le-mul_right (E + 1) y)

-- the weight rises by at most E and a universal goes
falls-one : (E : ℕ) (φ ψ : Formula) → weight ψ ≤ weight φ + E → suc (universals ψ.prefix) ≡ universals φ.prefix → step_bound E ψ < step_bound E φ
unfolding step_bound
falls-one E φ ψ x y = omega (arith, suc-mul (universals ψ.prefix) (E + 1), ap (λ (n : ℕ). n * (E + 1)) y)

pub bound-falls : (E : ℕ) (φ : Formula) → well_formed φ ≡ true → (k : Kind) (a b : ℕ) → wanted E φ k a b ≡ true → step_bound E (result_of φ k a b) < step_bound E φ
unfolding wanted costly light
bound-falls E φ w k a b h = go k (search and_l) (and_r (permitted φ k a b) _ h)
  where
    cheap : (k : Kind) → costly k ≡ false → permitted φ k a b ≡ true → step_bound E (result_of φ k a b) < step_bound E φ
    cheap k e p = falls-more E φ (result_of φ k a b) (cheap-falls φ w k e a b p) (unfold result_of tidied in (raw_smaller φ k e a b).universals)

    go : (k : Kind) → permitted φ k a b ≡ true → light E k (weight φ) (weight (result_of φ k a b)) ≡ true → step_bound E (result_of φ k a b) < step_bound E φ
    go unit p l = cheap unit refl p
    go pure p l = cheap pure refl p
    go subsume p l = cheap subsume refl p
    go strengthen p l = cheap strengthen refl p
    go equality p l = cheap equality refl p
    go resolve p l = falls-more E φ (result_of φ resolve a b) (ltb-true _ _ l) (unfold result_of tidied raw_of resolve_raw in universals-drop a φ.prefix)
    go expand p l = falls-one E φ (result_of φ expand a b) (leb-true _ _ l) (unfold result_of tidied raw_of in universals-expand φ w a (unfold permitted in p))

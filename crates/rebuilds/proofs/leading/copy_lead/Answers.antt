-- The loop's invariant: what is left of the clauses goes on from what is in the target, and all clauses of the target are among those of
-- the source before this one.
-- Assumes nothing.
use Prim.Native.Nat.{ℕ}
use mathlib.Core.Path.{◌≡◌, refl, sym, subst, ◌∙◌}
use lib.ListN.{take, drop}
use native.Mathlib.Omega.{arith}
use Rattle.table.specs.Table.{decode}
use Rattle.table.proofs.HoldLaws.{held, count-clauses}
use Rattle.filter.proofs.ApartLaws.{apart_none}
use Rattle.filter.proofs.AmongLaws.{among_none, among-other, among-covers}
use Rattle.filter.specs.Filter.{CoversBut}
use Rattle.recipes.specs.Recipe.{raws_by}
use Rattle.rebuilds.specs.Raws.{Going}
use Rattle.rebuilds.specs.Lead.{Led}
use Rattle.rebuilds.proofs.BuildLaws.{going_start}
use Rattle.rebuilds.proofs.RawLaws.{ready-as, one_left, all-next, all-full}
use Rattle.rebuilds.proofs.LeftLaws.{lasting}
use Rattle.rebuilds.proofs.LeadLaws.{among_next, copied-built, copied-among, upto-same}
use Rattle.rebuilds.proofs.leading.copy_lead.Goals as goal

pub returns-then-d-gt0-clause-led : goal.returns-then-d-gt0-clause-led
unfolding Led
returns-then-d-gt0-clause-led c = λ φ ψ h k. going_start ψ _ _ _ k

pub returns-then-d-gt0-clause-covers_after : goal.returns-then-d-gt0-clause-covers_after
returns-then-d-gt0-clause-covers_after c = λ i e f q k. upto-same (decode c.args.source.now c.args.c).clauses _ _ (apart_none k) i e q

pub loop-i-init : goal.loop-i-init
loop-i-init c = (refl, among_none c.requires.held_target.holds (omega (arith, c.if-d-gt0.false)), λ φ ψ h k. going_start ψ _ _ _ k)

-- a clause that is not taken
pub loop-i-preserved-then-not-is_taken : goal.loop-i-preserved-then-not-is_taken
loop-i-preserved-then-not-is_taken c = (
  c.loop-i.invariant.0,
  among_next c.requires.held.holds c.loop-i.i (omega arith) _ c.clause_at-clause.ensures (among-other c.loop-i.invariant.1 _),
  λ φ ψ h q. let g = c.loop-i.invariant.2 φ ψ h q in
      all-next _ _ ψ φ.clauses _ _ _ c.loop-i.i g (omega (arith, count-clauses h)) _ (c.clause_at-clause.ensures φ h) _ _
      (one_left _ _ g.holds _ _ _ (c.is_taken.ensures _ (ready-as q c.requires.ready g.holds g.prefix)) c.if-not-is_taken.true) _ refl,
)

-- one that changes
pub returns-then-not-is_left-clause-led : goal.returns-then-not-is_left-clause-led
unfolding Led
returns-then-not-is_left-clause-led c = c.loop-i.invariant.2

pub returns-then-not-is_left-clause-covers_after : goal.returns-then-not-is_left-clause-covers_after
returns-then-not-is_left-clause-covers_after c = λ i e f q k. upto-same (decode c.args.source.now c.args.c).clauses _ _ (among-covers c.loop-i.invariant.1 f k.long) i e q

pub push_clause-requires : goal.push_clause-requires
push_clause-requires c = held (c.loop-i.invariant.2 c.requires.held.formula c.requires.held_target.formula c.requires.held.holds c.requires.held_target.holds).holds

-- one that is copied
pub returns-in_err-next-clause-led : goal.returns-in_err-next-clause-led
unfolding Led
returns-in_err-next-clause-led c = rw c.from_residual.ensures (λ φ ψ h q. let g = c.loop-i.invariant.2 φ ψ h q in
    let l = lasting h c.loop-i.i (omega arith) _ c.clause_at-clause.ensures q c.requires.shrunk.0 c.requires.shrunk.1 g.formula.prefix g.prefix in
    let b = copied-built _ _ g.holds c.loop-i.invariant.1 _ _ _ (c.is_taken.ensures _ (ready-as q c.requires.ready g.holds g.prefix)) l c.if-not-is_taken.false (sym c.is_left.ensures ∙ c.if-not-is_left.false) _ _ (c.push_clause.ensures g.formula g.holds) in
    all-full _ _ ψ φ.clauses _ _ _ c.loop-i.i g (omega (arith, count-clauses h)) _ (c.clause_at-clause.ensures φ h) _ _ b c.in_err-next.was)

pub loop-i-preserved : goal.loop-i-preserved
loop-i-preserved c =
    let h = c.requires.held.holds in
    let q = c.requires.held_target.holds in
    let g = c.loop-i.invariant.2 c.requires.held.formula c.requires.held_target.formula h q in
    let l = lasting h c.loop-i.i (omega arith) _ c.clause_at-clause.ensures q c.requires.shrunk.0 c.requires.shrunk.1 g.formula.prefix g.prefix in (
      c.push_clause.auto.t ∙ c.loop-i.invariant.0,
      among_next h c.loop-i.i (omega arith) _ c.clause_at-clause.ensures (copied-among _ _ g.holds c.loop-i.invariant.1 _ _ _ (c.is_taken.ensures _ (ready-as q c.requires.ready g.holds g.prefix)) l c.if-not-is_taken.false (sym c.is_left.ensures ∙ c.if-not-is_left.false) _ _ (c.push_clause.ensures g.formula g.holds) _ c.in_ok-next.was),
      λ φ ψ h q. let g = c.loop-i.invariant.2 φ ψ h q in
          let l = lasting h c.loop-i.i (omega arith) _ c.clause_at-clause.ensures q c.requires.shrunk.0 c.requires.shrunk.1 g.formula.prefix g.prefix in
          all-next _ _ ψ φ.clauses _ _ _ c.loop-i.i g (omega (arith, count-clauses h)) _ (c.clause_at-clause.ensures φ h) _ _
          (copied-built _ _ g.holds c.loop-i.invariant.1 _ _ _ (c.is_taken.ensures _ (ready-as q c.requires.ready g.holds g.prefix)) l c.if-not-is_taken.false (sym c.is_left.ensures ∙ c.if-not-is_left.false) _ _ (c.push_clause.ensures g.formula g.holds)) _ c.in_ok-next.was,
    )

pub returns-clause-led : goal.returns-clause-led
unfolding Led
returns-clause-led c =
    let e : c.loop-i.i ≡ c.args.c.clauses = omega arith in
    λ φ ψ h q. subst (λ (n : ℕ). Going ψ (raws_by c.args.which c.args.turn ψ.prefix 0 φ.clauses) (raws_by c.args.which c.args.turn ψ.prefix n (drop n φ.clauses)) c.args.d.second c.loop-i.target c.loop-i.e) e (c.loop-i.invariant.2 φ ψ h q)

pub returns-clause-covers_after : goal.returns-clause-covers_after
returns-clause-covers_after c =
    let e : c.loop-i.i ≡ c.args.c.clauses = omega arith in
    λ i d f q k. upto-same (decode c.args.source.now c.args.c).clauses _ _ (subst (λ (n : ℕ). CoversBut (take n (decode c.args.source.now c.args.c).clauses) c.loop-i.target c.loop-i.e f) e (among-covers c.loop-i.invariant.1 f k.long)) i d q

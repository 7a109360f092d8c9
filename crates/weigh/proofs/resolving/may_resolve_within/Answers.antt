-- As resolve_permitted, but only the clauses that the index lists are looked at.
-- Assumes nothing.
use mathlib.Core.Path.{refl, sym, ◌∙◌}
use Rattle.rules.specs.Eliminate.{resolve_permitted}
use Rattle.meaning.proofs.Basics.{clash}
use Rattle.meaning.proofs.Prefix.{exists-mentioned}
use Rattle.permits.specs.Places.{place_of}
use Rattle.permits.proofs.AndLaws.{and_none}
use Rattle.permits.proofs.PlaceLaws.{entries-of}
use Rattle.permits.proofs.SideLaws.{resolve-is, resolve-large}
use Rattle.weigh.proofs.ResolvStart.{sides-second, sides-none, first-there}
use Rattle.weigh.proofs.resolving.may_resolve_within.Goals as goal
use Rattle.weigh.proofs.resolving.may_resolve_within.Goals.{then-is_existential, else-is_existential}

pub returns-then-a-gt-VARIABLES : goal.returns-then-a-gt-VARIABLES
returns-then-a-gt-VARIABLES c = λ φ g. resolve-large φ _ (entries-of φ g.well g.holds.fitting) c.if-a-gt-VARIABLES.true

pub returns-then-side_near : goal.returns-then-side_near
returns-then-side_near c = λ φ g.
    let i = c.is_existential.ensures φ.prefix g.ranked (entries-of φ g.well g.holds.fitting) in
    elim c.if-is_existential.branch [
      | then-is_existential w ↦ resolve-is φ g.well c.args.a (place_of φ.prefix c.args.a) refl φ.prefix refl _ i w.if-is_existential.true c.args.n
          (first-there φ c.args.a c.args.n (c.requires.first_universal φ g) (exists-mentioned φ.prefix c.args.a (sym i ∙ w.if-is_existential.true))) _
          (sides-second φ c.args.a _ _ _ (w.side_near.ensures φ g) (sym w.value-is ∙ c.if-side_near.true) (c.side_near-then-side_near.ensures φ g))
      | else-is_existential w ↦ clash (sym w.value-is ∙ c.if-side_near.true) w.if-is_existential.false
    ]

pub returns-else-side_near : goal.returns-else-side_near
unfolding resolve_permitted
returns-else-side_near c = λ φ g.
    let i = c.is_existential.ensures φ.prefix g.ranked (entries-of φ g.well g.holds.fitting) in
    elim c.if-is_existential.branch [
      | then-is_existential w ↦ c.if-side_near.false ∙ resolve-is φ g.well c.args.a (place_of φ.prefix c.args.a) refl φ.prefix refl _ i w.if-is_existential.true c.args.n
          (first-there φ c.args.a c.args.n (c.requires.first_universal φ g) (exists-mentioned φ.prefix c.args.a (sym i ∙ w.if-is_existential.true))) _
          (sides-none φ c.args.a _ _ (w.side_near.ensures φ g) (sym w.value-is ∙ c.if-side_near.false))
      | else-is_existential w ↦ c.if-side_near.false ∙ and_none _ _ _ i w.if-is_existential.false
    ]

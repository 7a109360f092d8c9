-- By the table that the record names.
-- Assumes nothing.
use Rattle.apply.proofs.StartLaws.{lends-second, lends_first}
use Rattle.course.proofs.StepLaws.{searched-second, searched-first, stands-second, stands-first}
use Rattle.course.proofs.between.choose_between.Goals as goal

pub choose-requires : goal.choose-requires
choose-requires c = let k = searched-second c.requires.0 c.requires.1 c.if-c.true in (k.0, k.1, c.requires.2)

pub returns-then-c : goal.returns-then-c
returns-then-c c =
    λ φ l.
    let h = lends-second l c.if-c.true in
    (c.choose.ensures.next_value φ h l.well, (λ i a b. c.choose.ensures.searched_to φ i a b h l.well), stands-second l c.choose.ensures.spare_after c.if-c.true)

pub choose-requires-2 : goal.choose-requires-2
choose-requires-2 c = let k = searched-first c.requires.0 c.requires.1 c.if-c.false in (k.0, k.1, c.requires.2)

pub returns : goal.returns
returns c =
    λ φ l.
    let h = lends_first l c.if-c.false in
    (c.choose-2.ensures.next_value φ h l.well, (λ i a b. c.choose-2.ensures.searched_to φ i a b h l.well), stands-first l c.choose-2.ensures.spare_after c.if-c.false)

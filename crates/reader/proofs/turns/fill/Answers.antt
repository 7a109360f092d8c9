-- The invariant: what is read so far is a state of reading, and it is held. The measure is what is left of the text.
-- Assumes nothing.
use mathlib.Core.Path.{refl, sym, ◌∙◌}
use native.Mathlib.Omega.{arith}
use Rattle.scan.proofs.Tokens.{found}
use Rattle.reader.proofs.TurnLaws.{filling-start, filling-judge, filling-end, turn-ready, turn-stop, turn_on}
use Rattle.reader.proofs.turns.fill.Goals as goal

pub loop-a-init : goal.loop-a-init
loop-a-init c = (filling-start _ _ c.skip_preamble-at.ensures _ c.new-r.ensures c.requires.tracks, refl, refl)

pub slice_bounds-read_word-count : goal.slice_bounds-read_word-count
slice_bounds-read_word-count c = let f = found _ _ _ _ (sym c.next_token.ensures ∙ c.in-Some.is) in omega arith

pub slice_bounds-read_word-start : goal.slice_bounds-read_word-start
slice_bounds-read_word-start c = let f = found _ _ _ _ (sym c.next_token.ensures ∙ c.in-Some.is) in omega arith

pub slice_bounds-read_word-end : goal.slice_bounds-read_word-end
slice_bounds-read_word-end c = let f = found _ _ _ _ (sym c.next_token.ensures ∙ c.in-Some.is) in omega arith

pub judge-mv-requires : goal.judge-mv-requires
judge-mv-requires c = filling-judge _ _ _ _ _ _ _ c.loop-a.invariant.0

pub apply-requires : goal.apply-requires
apply-requires c = turn-ready _ _ _ _ _ _ _ c.loop-a.invariant.0 _ _ (sym c.next_token.ensures ∙ c.in-Some.is) _ _ c.read_word-w.ensures c.judge-mv.ensures

pub returns-in-Err : goal.returns-in-Err
returns-in-Err c =
    turn-stop _ _ _ _ _ _ _ c.loop-a.invariant.0
    _ _ (sym c.next_token.ensures ∙ c.in-Some.is) _ _ c.read_word-w.ensures c.judge-mv.ensures _ _ _ _ _ c.apply.ensures
    c.requires.text_len_bound _ c.in-Err.is

pub loop-a-smaller : goal.loop-a-smaller
loop-a-smaller c =
    let f = found _ _ _ _ (sym c.next_token.ensures ∙ c.in-Some.is) in
    omega arith

pub loop-a-preserved : goal.loop-a-preserved
loop-a-preserved c = (
  turn_on _ _ _ _ _ _ _ c.loop-a.invariant.0
      _ _ (sym c.next_token.ensures ∙ c.in-Some.is) _ _ c.read_word-w.ensures c.judge-mv.ensures _ _ _ _ _ c.apply.ensures
      _ c.in-Ok.is,
  c.apply.auto.table ∙ c.loop-a.invariant.1,
  c.apply.auto.marks ∙ c.loop-a.invariant.2,
)

pub returns : goal.returns
returns c =
    filling-end _ _ _ _ _ _ _ c.loop-a.invariant.0 c.requires.text_len_bound
    (sym c.next_token.ensures ∙ c.in_default.is) _ c.conclude.ensures

-- P1 to P10 hold of the definitions: both sides of every row of the table are computed. Assumes nothing.
use mathlib.Core.Path.{◌≡◌, refl}
use mathlib.Core.List.{map}
use Rattle.meaning.specs.Lists.{all_of, any_of, keep_if, has, part_of, without, same, first_passing, up_from}
use Rattle.meaning.specs.Formula.{plain, negated, var, odd, opposite, is_var, mentions, drop_var, existential, universal, right_of, any_exist}
use Rattle.meaning.specs.Game.{with_value, lit_true, clause_true, all_true, choice, game, truth, is_true, empty_clause, no_clause}
use Rattle.meaning.specs.Tidy.{insert_new, ascending, both_phases, stays, reduce, tidy_sorted, tidy, add_tidied, build_on, build, tidied}
use Rattle.meaning.specs.WellFormed.{literals, fits, weight}
use Rattle.rules.specs.Simplify.{clause_at, is_clause, without_lit, assign, becomes_true, unit_clause, unit_permitted, unit_raw, occurs, pure_permitted, pure_lit, pure_raw, subsume_permitted, replace_at, subsume_raw, strengthens, strengthen_permitted, strengthen_lit, strengthen_raw, opposite_pair, equality_permitted, replace_lit, replaced, equality_of, equality_raw}
use Rattle.rules.specs.Eliminate.{with_lit, without_var, from_universal, avoids, near_side, resolve_permitted, resolvents_of, resolvents, resolve_raw, all_exist, universals_first, expand_permitted, inner, fresh, rename_var, rename_lit, touching, others, expand_with, expand_raw}
use Rattle.rules.specs.Entry.{code, uses_b, entry, kind_at, call_of, read_entry, entry_bytes}
use Rattle.rules.specs.Step.{permitted, raw_of, result_of, refusal_number, in_room, step_call, step_of}
use Rattle.rules.specs.Choice.{costly, light, wanted, allowed_call, on_call, indices, variables, firsts, seconds, or_else, first_b, first_pair, lighter, lightest, candidate, take_found, choose_of, choose}
use Rattle.rules.specs.Run.{end_number, outcome_number, next_of, next, ran_nothing, logged, halt, onward, run_from, run}
use Rattle.qdimacs.specs.Bytes.{is_blank, is_solid, is_digit, span, tokens_from, preamble, tokens, value, is_numeral}
use Rattle.qdimacs.specs.Words.{number_of, letter_of, word_of, variable_of, plain_of, literal_of}
use Rattle.qdimacs.specs.Decide.{on_p, on_cnf, on_m, on_c, on_variable, on_literal, on_line, decide}
use Rattle.qdimacs.specs.Read.{start, after_clause, passes_literals, act, move_of, on_token, on_tokens, complete, finish, as_written, tidied_answer, read}
use Rattle.qdimacs.specs.Write.{digits, decimal, letter, largest, line_rest, prefix_lines, literal_text, clause_line, clause_lines, header, write}
use Rattle.qdimacs.proofs.Quoted.{bytes_of}
use Rattle.edges.specs.Edges.{Row, on_step, on_run, on_formula, on_answer, ask, table}

pub edges : map (λ (r : Row). ask r.question r.text) table ≡ map (λ (r : Row). r.reply) table
unfolding on_step on_run on_formula on_answer ask table bytes_of all_of any_of keep_if has part_of without same first_passing up_from plain negated var odd opposite is_var mentions drop_var existential universal right_of any_exist with_value lit_true clause_true all_true choice game truth is_true empty_clause no_clause insert_new ascending both_phases stays reduce tidy_sorted tidy add_tidied build_on build tidied literals fits weight clause_at is_clause without_lit assign becomes_true unit_clause unit_permitted unit_raw occurs pure_permitted pure_lit pure_raw subsume_permitted replace_at subsume_raw strengthens strengthen_permitted strengthen_lit strengthen_raw opposite_pair equality_permitted replace_lit replaced equality_of equality_raw with_lit without_var from_universal avoids near_side resolve_permitted resolvents_of resolvents resolve_raw all_exist universals_first expand_permitted inner fresh rename_var rename_lit touching others expand_with expand_raw code uses_b entry kind_at call_of read_entry entry_bytes permitted raw_of result_of refusal_number in_room step_call step_of costly light wanted allowed_call on_call indices variables firsts seconds or_else first_b first_pair lighter lightest candidate take_found choose_of choose end_number outcome_number next_of next ran_nothing logged halt onward run_from run is_blank is_solid is_digit span tokens_from preamble tokens value is_numeral number_of letter_of word_of variable_of plain_of literal_of on_p on_cnf on_m on_c on_variable on_literal on_line decide start after_clause passes_literals act move_of on_token on_tokens complete finish as_written tidied_answer read digits decimal letter largest line_rest prefix_lines literal_text clause_line clause_lines header write
edges = refl

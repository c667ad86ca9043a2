-- The definitions yield the tables: one theorem over the whole table of cases, of which the first part is `protocol`'s; the calls with several
-- plans, the plans of Five by count, and each op of Six.
use mathlib.Core.Path.{◌≡◌, refl, sym, ap, ◌∙◌}
use mathlib.Core.Bool.{true}
use mathlib.Core.List.{List, ◌++◌, map, map-append}
use lib.Dec.{leb}
use lib.ListN.{length}
use Rattle.protocol.specs.Format.{record_from, records_from, record_count, records, row_in, known, step_of, size_in, sleepers_in, steps_in, count_from, plan_in}
use Rattle.protocol.specs.Refusals.{any_of, length_rule, plan_rule, barrier_record_rule, sleep_record_rule, operands_outside, step_rule, later_rule, record_rule, skip_rule}
use Rattle.protocol.specs.Refusals.{check_skips, check_records, accepted, check}
use Rattle.protocol.specs.Pages.{page, no_copies, load_byte, load_word, store_byte, store_word, commit_from}
use Rattle.protocol.specs.Steps.{new_worker, own_step}
use Rattle.protocol.specs.Rounds.{keep, queue_of, member, remove, rule_of, freed, apply, new_round}
use Rattle.protocol.specs.Turns.{start, all_arrived, can, move, turn, play}
use Rattle.protocol.specs.RoundRun.{total, run_up, fence, token, rounds_from}
use Rattle.protocol.specs.Sum.{sum_of}
use Rattle.protocol.specs.Report.{log_bytes, all_final, end_of, fate_byte, report_bytes}
use Rattle.protocol.specs.Calls.{Reply, memory_length, run_verdict, lent_log, run}
use Rattle.protocol.specs.Listing.{cycles}
use Rattle.protocol.specs.Batch.{length_at, begins_at, file_at, part_at, part_as, batch_verdict, run_plans, run_all}
use Rattle.protocol.proofs.Table.{Case, turns_for, padded, lent_to, round_reply, yields, expected, expects, cases}
use Rattle.protocol.proofs.Worked.{computed_by, computed, all-worked}
use Rattle.protocol.proofs.Cases.{cases-hold}
use Rattle.cases.proofs.Requested.{requested, counted_cases, yields_counted}
use Rattle.cases.proofs.BatchTable.{joined, batch_lent, batch_left, yields_all, expects_all, batches}
use Rattle.cases.proofs.PointTable.{points}
use Rattle.cases.proofs.UnnamedTable.{unnamed}

-- the plans of the requests that are not among `protocol`'s cases
abbrev rows : List Case
rows = requested ++ unnamed

fit : map (λ (c : Case). leb (length c.lent) memory_length) rows ≡ map (λ (c : Case). true) rows
unfolding requested unnamed
fit = refl

accept : map (λ (c : Case). check c.file) rows ≡ map (λ (c : Case). accepted) rows
unfolding record_from records_from record_count records row_in known step_of size_in sleepers_in steps_in count_from plan_in any_of length_rule plan_rule
    barrier_record_rule sleep_record_rule operands_outside step_rule later_rule record_rule skip_rule check_skips check_records check requested unnamed
accept = refl

compute : map computed rows ≡ map expected rows
unfolding record_from records_from record_count records row_in known step_of size_in sleepers_in steps_in count_from plan_in any_of length_rule plan_rule
    barrier_record_rule sleep_record_rule operands_outside step_rule later_rule record_rule skip_rule check_skips check_records check page no_copies load_byte load_word store_byte store_word
    commit_from new_worker own_step keep queue_of member remove rule_of freed apply new_round start all_arrived can move turn play total run_up fence token
    rounds_from sum_of log_bytes all_final end_of fate_byte report_bytes run_verdict lent_log run cycles turns_for padded lent_to round_reply computed_by expected requested unnamed
compute = refl

-- the whole table
abbrev pub all_cases : List Case
all_cases = cases ++ rows

pub all-cases-hold : map yields all_cases ≡ map expects all_cases
all-cases-hold =
    map-append yields cases rows
    ∙ ap (λ (rs : List (List Reply)). rs ++ map yields rows) cases-hold
    ∙ ap (λ (rs : List (List Reply)). map expects cases ++ rs) (all-worked rows fit accept compute)
    ∙ sym (map-append expects cases rows)

pub batches-hold : map yields_all batches ≡ map expects_all batches
unfolding record_from records_from record_count records row_in known step_of size_in sleepers_in steps_in count_from plan_in any_of length_rule plan_rule
    barrier_record_rule sleep_record_rule operands_outside step_rule later_rule record_rule skip_rule check_skips check_records check page no_copies load_byte load_word store_byte store_word
    commit_from new_worker own_step keep queue_of member rule_of freed apply new_round start all_arrived can move turn play total
    sum_of log_bytes all_final end_of fate_byte report_bytes run_verdict lent_log run cycles padded
    length_at begins_at file_at part_at part_as batch_verdict run_plans run_all joined batch_lent batch_left yields_all expects_all batches
batches-hold = refl

pub points-hold : map yields points ≡ map expects points
unfolding record_from records_from record_count records row_in known step_of size_in sleepers_in steps_in count_from plan_in any_of length_rule plan_rule
    barrier_record_rule sleep_record_rule operands_outside step_rule later_rule record_rule skip_rule check_skips check_records check page no_copies load_byte load_word store_byte store_word
    new_worker own_step keep member start all_arrived can move turn play
    sum_of log_bytes all_final end_of fate_byte report_bytes run_verdict lent_log run turns_for padded lent_to yields expected expects points
points-hold = refl

pub counted-hold : map yields_counted counted_cases ≡ map expects counted_cases
unfolding record_from records_from record_count records row_in known step_of size_in sleepers_in steps_in count_from plan_in page no_copies store_byte store_word
    commit_from new_worker own_step keep queue_of member rule_of freed apply new_round start all_arrived can move turn play total run_up fence token
    rounds_from sum_of log_bytes all_final end_of fate_byte report_bytes lent_log cycles turns_for padded lent_to expected expects counted_cases yields_counted
counted-hold = refl

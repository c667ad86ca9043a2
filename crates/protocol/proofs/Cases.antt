-- Cases 1 to 10 and those behind them, and the addresses that plans name: the definitions yield the tables.
use mathlib.Core.Path.{◌≡◌, refl}
use mathlib.Core.Bool.{true}
use mathlib.Core.List.{map}
use lib.Dec.{leb}
use lib.ListN.{length}
use Rattle.protocol.specs.Format.{record_from, records_from, record_count, records, row_in, known, step_of, size_in, sleepers_in, steps_in, count_from, plan_in}
use Rattle.protocol.specs.Refusals.{any_of, length_rule, plan_rule, barrier_record_rule, sleep_record_rule, operands_outside, step_rule, later_rule, record_rule, skip_rule}
use Rattle.protocol.specs.Refusals.{check_skips, check_records, accepted, check}
use Rattle.protocol.specs.Pages.{page, no_copies, load_byte, load_word, store_byte, store_word, commit_from}
use Rattle.protocol.specs.Steps.{new_worker, own_step}
use Rattle.protocol.specs.Rounds.{keep, queue_of, member, remove, rule_of, freed, apply, new_round}
use Rattle.protocol.specs.Turns.{start, all_arrived, can, move, turn, play}
use Rattle.protocol.specs.RoundRun.{total, run_up, fence, token, rounds_from}
use Rattle.protocol.specs.Sum.{sum_of}
use Rattle.protocol.specs.Report.{log_bytes, all_final, end_of, fate_byte, report_bytes}
use Rattle.protocol.specs.Named.{named}
use Rattle.protocol.specs.Calls.{memory_length, run_verdict, lent_log, run}
use Rattle.protocol.specs.Listing.{cycles}
use Rattle.protocol.proofs.Table.{Case, turns_for, padded, lent_to, round_reply, yields, expected, expects, cases}
use Rattle.protocol.proofs.Worked.{computed_by, computed, all-worked}
use Rattle.protocol.proofs.NamedTable.{Names, named_in, naming}

fit : map (λ (c : Case). leb (length c.lent) memory_length) cases ≡ map (λ (c : Case). true) cases
unfolding cases
fit = refl

accept : map (λ (c : Case). check c.file) cases ≡ map (λ (c : Case). accepted) cases
unfolding record_from records_from record_count records row_in known step_of size_in sleepers_in steps_in count_from plan_in any_of length_rule plan_rule
    barrier_record_rule sleep_record_rule operands_outside step_rule later_rule record_rule skip_rule check_skips check_records check cases
accept = refl

compute : map computed cases ≡ map expected cases
unfolding record_from records_from record_count records row_in known step_of size_in sleepers_in steps_in count_from plan_in any_of length_rule plan_rule
    barrier_record_rule sleep_record_rule operands_outside step_rule later_rule record_rule skip_rule check_skips check_records check page no_copies load_byte load_word store_byte store_word
    commit_from new_worker own_step keep queue_of member remove rule_of freed apply new_round start all_arrived can move turn play total run_up fence token
    rounds_from sum_of log_bytes all_final end_of fate_byte report_bytes run_verdict lent_log run cycles turns_for padded lent_to round_reply computed_by expected cases
compute = refl

pub cases-hold : map yields cases ≡ map expects cases
cases-hold = all-worked cases fit accept compute

pub naming-holds : map named_in naming ≡ map (λ (c : Names). c.addresses) naming
unfolding record_from records_from record_count records row_in known step_of size_in sleepers_in steps_in count_from plan_in any_of keep named named_in naming
naming-holds = refl

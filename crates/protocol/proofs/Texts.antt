-- What is printed: the definitions yield case 1's text byte by byte, that of a stuck plan, case 6, and a refusal.
use mathlib.Core.Path.{◌≡◌, refl}
use mathlib.Core.List.{[], ◌∷◌, map}
use Rattle.protocol.specs.Format.{record_from, records_from, record_count, records, row_in, known, step_of, size_in, sleepers_in, steps_in, count_from, plan_in}
use Rattle.protocol.specs.Refusals.{any_of, length_rule, plan_rule, barrier_record_rule, sleep_record_rule, operands_outside, step_rule, later_rule}
use Rattle.protocol.specs.Refusals.{record_rule, skip_rule, check_skips, check_records, check}
use Rattle.protocol.specs.Pages.{page, no_copies, load_byte, load_word, store_byte, store_word, commit_from}
use Rattle.protocol.specs.Steps.{new_worker, own_step}
use Rattle.protocol.specs.Rounds.{keep, queue_of, rule_of, member, freed, apply, new_round}
use Rattle.protocol.specs.Turns.{start, all_arrived, can, move, turn, play}
use Rattle.protocol.specs.RoundRun.{total}
use Rattle.protocol.specs.Report.{all_final, end_of}
use Rattle.protocol.specs.Listing.{cycles, ascii, digits_in, decimal, line, record_line, log_lines, end_line, refusal_line, listing}
use Rattle.protocol.proofs.Table.{race, waiter}

pub texts-hold :
    map listing (race ∷ waiter ∷ [] ∷ [])
    ≡ map ascii (
    "1 0 38 0 255\n1 1 38 0 255\nfinished 12\n"
    ∷ "1 0 32 0 1\n1 0 34 0 255\nstuck 3\n"
    ∷ "refused 1 0\n"
    ∷ []
    )
unfolding record_from records_from record_count records row_in known step_of size_in sleepers_in steps_in count_from plan_in any_of length_rule plan_rule
    barrier_record_rule sleep_record_rule operands_outside step_rule later_rule record_rule skip_rule check_skips check_records check page no_copies load_byte load_word store_byte store_word
    commit_from new_worker own_step keep queue_of rule_of member freed apply new_round start all_arrived can move turn play total all_final end_of cycles
    digits_in decimal line record_line log_lines end_line refusal_line listing
texts-hold = refl

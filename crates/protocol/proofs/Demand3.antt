-- Demand 3, of the definitions: the outcome does not hang on who moved first.
use Prim.Native.Nat.{ℕ}
use native.Mathlib.Omega.{arith}
use mathlib.Core.Path.{◌≡◌, subst⁻¹}
use mathlib.Core.Bool.{true}
use mathlib.Core.List.{List}
use Rattle.protocol.specs.Format.{Plan, plan_of}
use Rattle.protocol.specs.Refusals.{accepted, check}
use Rattle.protocol.specs.Rounds.{Entry, State}
use Rattle.protocol.specs.Turns.{workers_of, start, play, moving_turns, ended}
use Rattle.protocol.specs.RoundRun.{round_run}
use Rattle.protocol.specs.Demands.{Demand3, Prefix}
use Rattle.protocol.proofs.Sound.{Sound}
use Rattle.protocol.proofs.Accepted.{sound-file}
use Rattle.protocol.proofs.Confluence.{Machine, Laws, play as played, play-same_end, play-log_prefix, play-counts, play-falls, cycles-end}
use Rattle.protocol.proofs.Invariant.{Inv}
use Rattle.protocol.proofs.Laws.{start-inv, start-measure}
use Rattle.protocol.proofs.Obeys.{machine, same-play, same-moving, laws-hold}
use Rattle.protocol.proofs.ByRounds.{Ends, by-rounds}

-- by the laws, and because the round-by-round run is one run of moves to the end
pub demand3 : (plan : Plan) → Sound plan → (memory turns : List ℕ) → Demand3 plan memory turns
unfolding start
demand3 plan sound memory turns =
    record {
      same_end = subst⁻¹ (λ (t : State). ended t ≡ true → t ≡ end) same (play-same_end m (Inv plan) n laws s end e.moves i e.run e.end turns);
      log_prefix =
          subst⁻¹ (λ (t : State). Prefix t.log end.log) same
          (play-log_prefix m (Inv plan) n laws s end e.moves i e.run e.end turns);
      moves_counted =
          subst⁻¹ (λ (t : State). t.moves ≡ moving_turns plan s turns) same
          (omega (arith, play-counts m (Inv plan) n laws s i turns, same-moving plan s turns));
      moves_bounded = omega (arith, play-falls m (Inv plan) n laws s i turns, same-moving plan s turns, start-measure plan memory);
      cycles_end =
          λ c.
          subst⁻¹ (λ (t : State). ended t ≡ true) same
          (cycles-end m (Inv plan) n laws c s i (omega (arith, start-measure plan memory)));
      round_run_ends = e.end;
    }
  where
    m : Machine State Entry
    m = machine plan

    n : ℕ
    n = workers_of plan

    laws : Laws m (Inv plan) n
    laws = laws-hold plan sound

    s : State
    s = start plan memory

    end : State
    end = round_run plan memory

    i : Inv plan s
    i = start-inv plan memory sound

    e : Ends plan s end
    e = by-rounds plan laws memory i

    same : play plan s turns ≡ played m s turns
    same = same-play plan s turns

-- Demand 3, closed: for every file that the check accepts, every starting memory and every list of turns.
pub demand3-file : (file : List ℕ) → check file ≡ accepted → (memory turns : List ℕ) → Demand3 (plan_of file) memory turns
demand3-file file ok memory turns = demand3 (plan_of file) (sound-file file ok) memory turns

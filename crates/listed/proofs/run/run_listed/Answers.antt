-- `run_listed`: the turns end the plan.
use mathlib.Core.Path.{refl, ap, ◌∙◌}
use Prim.Native.Nat.{ℕ}
use lib.ListN.{length, length-replicate}
use Rattle.protocol.specs.Calls.{memory_length}
use Rattle.listed.proofs.Ended.{ran-to-end}
use Rattle.listed.proofs.run.run_listed.Goals as goal

pub returns : goal.returns
returns c =
    ran-to-end _ _ _ _ _ c.tampermauve_run.ensures
    (record {
      zeros = c.requires.zero_memory;
      fits = record { memory = ap length c.requires.zero_memory ∙ length-replicate {A = ℕ} memory_length 0; log = c.requires.whole_log; report = c.requires.whole_report; work = refl };
      full = c.write_turns-count.ensures.listed;
    })

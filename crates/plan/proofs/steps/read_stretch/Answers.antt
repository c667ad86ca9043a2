-- `plan::steps::read_stretch` meets its contract: each record that is passed over is a step of the worker, and its operands keep their rule.
use Rattle.std.proofs.Common.{arith, option_copied, ℕ, ap, ◌∙◌, sym}
use mathlib.Core.Path.{subst⁻¹}
use native.Mathlib.Decide.{ℕ_discrete}
use Rattle.plan.specs.Answer.{rule_as}
use Rattle.plan.specs.Reading.{file_of}
use Rattle.plan.specs.Stepping.{PlainStep}
use Rattle.plan.proofs.Recorded.{decoded-at}
use Rattle.plan.proofs.Limited.{is_known}
use Rattle.plan.proofs.steps.read_stretch.Goals as goal

pub loop-i-preserved : goal.loop-i-preserved
loop-i-preserved c =
    let inv = c.loop-i.invariant in
    let here : PlainStep (file_of c.args.records.now) c.args.n c.args.sizes.now c.args.worker c.loop-i.i =
    record {
      body = c.in-Some.r;
      decoded = decoded-at _ _ (sym c.decode.ensures ∙ c.in-Some.is);
      same = c.if-r-worker.false;
      known = is_known _ _ (sym c.row_of.ensures ∙ ap option_copied c.in-Some-row_of.is);
      operands = sym c.operand_rule.ensures ∙ ap rule_as c.in-Ok.is;
    } in
    record {
      least = omega (arith, inv.least);
      most = omega (arith, c.loop-i-test.true);
      plain = λ k l m. elim (ℕ_discrete k c.loop-i.i) [
        | yes q ↦ subst⁻¹ (λ (j : ℕ). PlainStep (file_of c.args.records.now) c.args.n c.args.sizes.now c.args.worker j) q here
        | no q ↦ inv.plain k l (omega arith)
      ];
    }

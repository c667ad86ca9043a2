-- `admit`: the answer by what each test gave.
use Rattle.std.proofs.Common.{arith, sym, ◌∙◌}
use borrow.Author.Tests.{le-ltb}
use Rattle.admission.proofs.Admitting.{by-turns}
use Rattle.admission.proofs.run.admit.Goals as goal

pub returns-then-names_nobody : goal.returns-then-names_nobody
returns-then-names_nobody c =
    rw c.at-then-names_nobody.ensures
    (record {
      verdict = by-turns c.args.file.now c.args.turns.now c.args.lent (sym c.misfit.ensures ∙ c.if-misfit.false) (le-ltb _ _ (omega (arith, c.if-turns-gt-TURNS_LIMIT.false)))
          c.in_ok-layout.ensures.verdict c.in_ok-layout.ensures.layout (sym c.names_nobody.ensures ∙ c.if-names_nobody.true);
      layout = tt;
    })

pub returns : goal.returns
returns c =
    record {
      verdict = by-turns c.args.file.now c.args.turns.now c.args.lent (sym c.misfit.ensures ∙ c.if-misfit.false) (le-ltb _ _ (omega (arith, c.if-turns-gt-TURNS_LIMIT.false)))
          c.in_ok-layout.ensures.verdict c.in_ok-layout.ensures.layout (sym c.names_nobody.ensures ∙ c.if-names_nobody.false);
      layout = c.in_ok-layout.ensures.layout;
    }

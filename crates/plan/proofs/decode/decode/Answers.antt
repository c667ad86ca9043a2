-- `plan::decode::decode` meets its contract: by the mark.
use mathlib.Core.Path.{◌∙◌, sym}
use Rattle.protocol.specs.Format.{record_from}
use Rattle.plan.proofs.Decoding.{marked-decoded, unmarked-decoded}
use Rattle.plan.proofs.decode.decode.Goals as goal

pub returns-then-word-ne-PLAN_MARK : goal.returns-then-word-ne-PLAN_MARK
unfolding record_from
returns-then-word-ne-PLAN_MARK c =
    unmarked-decoded (record_from c.args.bytes.now 0) (λ q. c.if-word-ne-PLAN_MARK.true (c.word.ensures ∙ q))

pub returns : goal.returns
unfolding record_from
returns c =
    rw c.body.ensures
    (marked-decoded (record_from c.args.bytes.now 0) (sym c.word.ensures ∙ c.if-word-ne-PLAN_MARK.false))

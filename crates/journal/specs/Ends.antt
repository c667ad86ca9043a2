-- The end of a run: the code's kinds are the definition's.
use Rattle.protocol.specs.Report as report
use Rattle.journal.specs.declared.ends.End.{End}
use Rattle.journal.specs.declared.ends.End.TheVariants.{UnderWay, Finished, Stuck}

abbrev pub end_as : End → report.End
end_as UnderWay = report.under_way
end_as Finished = report.finished
end_as Stuck = report.stuck

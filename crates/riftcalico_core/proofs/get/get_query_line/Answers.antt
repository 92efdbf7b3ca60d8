-- Without a heading the line is the text.
use Rattle.riftcalico_core.specs.QueriesSeen.{asked_seen}
use Rattle.riftcalico_core.proofs.HeadedLines.{all_refused}
use Rattle.riftcalico_core.proofs.get.get_query_line.Goals as goal

pub returns-else-job-clause-refused : goal.returns-else-job-clause-refused
returns-else-job-clause-refused c =
    all_refused c.args.job.now c.args.message.now (asked_seen c.args.query.now) c.if-job.false c.args.limit c.get_query_text.result c.get_query_text.ensures.refused

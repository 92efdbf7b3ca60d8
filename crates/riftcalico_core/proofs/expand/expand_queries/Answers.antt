-- One query more, or the first that is refused; and at the end all.
use Rattle.std.proofs.Common.{map}
use Rattle.riftcalico_core.specs.Expanded.{most_paths}
use Rattle.riftcalico_core.specs.QueriesSeen.{asked_seen}
use Rattle.riftcalico_core.proofs.ListingsAsked.{all_given, denied_at, denies_more, gives_more}
use Rattle.riftcalico_core.proofs.expand.expand_queries.Goals as goal

pub loop-index-preserved : goal.loop-index-preserved
loop-index-preserved c =
    let l = c.loop-index in
    let all = map asked_seen c.args.asked.now in
    record {
      gives = gives_more c.args.schema c.args.message.now (most_paths c.args.limit) all l.left c.in-Ok.rest c.args.asked.now l.index c.index-asked-index.result (map asked_seen l.queries.items) (map asked_seen c.in-Ok.more.items)
          (c.loop-index-test.true, c.index-asked-index.is) c.in-Ok.ensures.put l.invariant.gives;
      denies = denies_more c.args.schema c.args.message.now (most_paths c.args.limit) all l.left c.in-Ok.rest c.args.asked.now l.index c.index-asked-index.result (map asked_seen l.queries.items) (map asked_seen c.in-Ok.more.items)
          (c.loop-index-test.true, c.index-asked-index.is) c.in-Ok.ensures.put l.invariant.denies;
    }

pub returns-in-Err-clause-refused : goal.returns-in-Err-clause-refused
returns-in-Err-clause-refused c = λ memory.
    let l = c.loop-index in
    denied_at c.args.schema c.args.message.now (most_paths c.args.limit) (map asked_seen c.args.asked.now) l.left c.args.asked.now l.index c.index-asked-index.result c.in-Err.fault c.loop-index-test.true c.index-asked-index.is
    l.invariant.denies (c.in-Err.ensures.refused memory)

pub returns-clause-asked : goal.returns-clause-asked
returns-clause-asked c =
    let l = c.loop-index in
    all_given c.args.schema c.args.message.now (most_paths c.args.limit) (map asked_seen c.args.asked.now) l.left c.args.asked.now l.index (map asked_seen l.queries.items) c.loop-index-test.false l.invariant.gives

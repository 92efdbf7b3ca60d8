-- One more word is read, or it is the first that can't be.
use Rattle.std.proofs.Common.{◌∙◌, [], rules}
use Rattle.riftcalico_core.specs.Queries.{query_at}
use Rattle.riftcalico_core.specs.QueriesSeen.{query_word_seen}
use Rattle.riftcalico_core.proofs.Each.{goes_on_at, stops_at}
use Rattle.riftcalico_core.proofs.queries.read_queries.Goals as goal

pub loop-index-preserved : goal.loop-index-preserved
loop-index-preserved c =
    let e = goes_on_at query_at (λ w. w.now) query_word_seen c.args.words.now c.loop-index.index [] c.word_at.result.now c.loop-index.queries.items c.in-Ok.query
    c.loop-index-test.true c.word_at.ensures (search rules) ∙ c.loop-index.invariant in
    search (rules, e)

pub returns-in-Err-clause-read : goal.returns-in-Err-clause-read
returns-in-Err-clause-read c =
    let e = stops_at query_at (λ w. w.now) query_word_seen c.args.words.now c.loop-index.index [] c.word_at.result.now c.loop-index.queries.items c.in-Err.place
    c.loop-index-test.true c.word_at.ensures (search rules) ∙ c.loop-index.invariant in
    search (rules, e)

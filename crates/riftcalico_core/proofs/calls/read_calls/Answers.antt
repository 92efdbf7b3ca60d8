-- One more word is read, or it is the first that can't be.
use Rattle.std.proofs.Common.{◌∙◌, [], rules}
use Rattle.capnp_words.specs.Calls.{call_at}
use Rattle.capnp_words.specs.Seen.{call_text_seen}
use Rattle.riftcalico_core.proofs.Each.{goes_on_at, stops_at}
use Rattle.riftcalico_core.proofs.calls.read_calls.Goals as goal

pub loop-index-preserved : goal.loop-index-preserved
loop-index-preserved c =
    let e = goes_on_at call_at (λ w. w.now) call_text_seen c.args.words.now c.loop-index.index [] c.word_at.result.now c.loop-index.calls.items c.in-Ok.call
    c.loop-index-test.true c.word_at.ensures (search rules) ∙ c.loop-index.invariant.read in
    record { read = search (rules, e); count = search rules }

pub returns-in-Err-clause-read : goal.returns-in-Err-clause-read
returns-in-Err-clause-read c =
    let e = stops_at call_at (λ w. w.now) call_text_seen c.args.words.now c.loop-index.index [] c.word_at.result.now c.loop-index.calls.items c.in-Err.place
    c.loop-index-test.true c.word_at.ensures (search rules) ∙ c.loop-index.invariant.read in
    search (rules, e)

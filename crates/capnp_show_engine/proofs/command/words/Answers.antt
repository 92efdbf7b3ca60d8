-- The arguments yield all words, and skipping one yields those after the program's name;
-- what is collected is just what is yielded.
use Rattle.std.proofs.Common.{◌∙◌, ap}
use Rattle.std.proofs.lemmas.Iterator.{items_from_collect}
use Rattle.std.proofs.lemmas.Iterator.Adapters.{YieldsList-from_skip, YieldsList-from_vec}
use Rattle.std.specs.Iterator.Adapters.{skip_source}
use Rattle.std.specs.Vec.Iter.{into_iter_items, into_iter_len}
use Rattle.capnp_show_engine.proofs.command.words.Goals as goal

pub returns-in_ok-collect-in-Ok-clause-words : goal.returns-in_ok-collect-in-Ok-clause-words
returns-in_ok-collect-in-Ok-clause-words c =
    let all = YieldsList-from_vec {s = skip_source c.skip.result} (into_iter_items c.in-Ok.args) (ap into_iter_items c.skip.ensures.source) (ap into_iter_len c.skip.ensures.source ∙ c.in-Ok.args.rest.ok.0) in
    let after = YieldsList-from_skip {s = c.skip.result} 1 all c.skip.ensures.count in
    rw c.in-Ok.is (rw c.in_ok-collect-in-Ok.was at (items_from_collect c.collect.result c.collect.ensures.ran after))

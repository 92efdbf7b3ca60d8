-- The listing is the paths, or the step that stops it is told.
use Rattle.std.proofs.Common.{◌∙◌}
use Rattle.capnp_queries.specs.Patterns.{listing_at}
use Rattle.capnp_queries.specs.PatternsSeen.{paths_seen}
use Rattle.capnp_schema.specs.StructHandles.{number_of, set_of}
use Rattle.riftcalico_core.specs.QueriesSeen.{asked_seen}
use Rattle.riftcalico_core.proofs.ListingsAsked.{few_paths, is_listed, pattern_paths, unlisted}
use Rattle.riftcalico_core.proofs.expand.list_pattern.Goals as goal

pub returns-in-Ok-clause-listed : goal.returns-in-Ok-clause-listed
returns-in-Ok-clause-listed c =
    let q = asked_seen c.args.query.now in
    let h = rw c.deref.ensures.value at c.in-Ok.ensures.listed in
    pattern_paths c.args.schema c.args.message.now q c.requires.pattern
    ∙ is_listed (listing_at (set_of c.args.schema) (number_of c.args.schema) q.path c.args.message.now) (paths_seen c.in-Ok.paths.items) h.0 h.1

pub returns-in-Ok-clause-few : goal.returns-in-Ok-clause-few
returns-in-Ok-clause-few c =
    let q = asked_seen c.args.query.now in
    few_paths c.args.left (set_of c.args.schema) (listing_at (set_of c.args.schema) (number_of c.args.schema) q.path c.args.message.now) q c.in-Ok.paths c.requires.pattern (rw c.deref.ensures.value at c.in-Ok.ensures.listed)

pub returns-in-Err-clause-refused : goal.returns-in-Err-clause-refused
returns-in-Err-clause-refused c = λ memory.
    unlisted c.args.left c.args.schema c.args.message.now (asked_seen c.args.query.now) c.in-Err.why c.explain_listing.result c.requires.pattern (rw c.deref.ensures.value at c.in-Err.ensures.listed) memory (c.explain_listing.ensures.told memory)

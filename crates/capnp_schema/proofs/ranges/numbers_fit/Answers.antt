use Rattle.capnp_schema.specs.Entries.{lists_seen}
use Rattle.capnp_schema.proofs.RangeLemmas.{has_ranges, types_fit}
use Rattle.capnp_schema.proofs.ranges.numbers_fit.Goals as goal

pub returns : goal.returns
returns c = has_ranges (lists_seen c.args.lists.now) c.requires c.entries_fit.ensures (types_fit c.args.lists.now)

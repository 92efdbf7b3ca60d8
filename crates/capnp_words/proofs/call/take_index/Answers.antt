-- The last step that was taken is an index, or none.
use Rattle.std.proofs.Common.{Some, None}
use Rattle.capnp_words.proofs.Indexes.{taken_as}
use Rattle.capnp_words.proofs.call.take_index.Goals as goal

pub returns-in-Some-index_of : goal.returns-in-Some-index_of
returns-in-Some-index_of c = taken_as c.args.end c.args.path.steps.items c.pop.new.self.items c.in-Some.last (Some c.in-Some-index_of.index) c.in-Some.ensures.items c.in-Some-index_of.ensures

pub returns-in-None : goal.returns-in-None
returns-in-None c = taken_as c.args.end c.args.path.steps.items c.pop.new.self.items c.in-Some.last None c.in-Some.ensures.items c.in-None.ensures

use Rattle.std.proofs.Common.{arith}
use Rattle.capnp_floats.proofs.Going.{OpenFacts, open_facts}
use Rattle.capnp_floats.proofs.search.Search.advance.Goals as goal

pub overflow_mul-self : goal.overflow_mul-self
overflow_mul-self c = let f : OpenFacts c.args.self.now = open_facts c.args.self.now c.requires in omega arith

pub overflow_add-self-2 : goal.overflow_add-self-2
overflow_add-self-2 c = let f : OpenFacts c.args.self.now = open_facts c.args.self.now c.requires in omega arith

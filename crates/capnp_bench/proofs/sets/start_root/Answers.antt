-- The new struct stands at the root, with its schema's sections.
use Rattle.capnp_schema.specs.StructHandles.{number_of, set_of}
use Rattle.capnp_bench.proofs.Started.{is_started, started_fits}
use Rattle.capnp_bench.proofs.sets.start_root.Goals as goal

pub returns-clause-standing : goal.returns-clause-standing
returns-clause-standing c = record {
  planted = is_started c.init_struct.new.self c.in_ok-place.place c.in_ok-place.ensures.forest c.in_ok-place.ensures.place;
  room = started_fits c.init_struct.new.self c.in_ok-place.place c.in_ok-place.ensures.forest c.in_ok-place.ensures.place (set_of c.args.schema) (number_of c.args.schema) c.size_of-size.result c.size_of-size.ensures c.in_ok-place.ensures.tree;
}

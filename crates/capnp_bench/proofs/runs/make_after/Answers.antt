-- The struct that is started is the root.
use Rattle.std.proofs.Common.{rules}
use Rattle.capnp_schema.specs.StructHandles.{number_of, set_of}
use Rattle.capnp_bench.proofs.Started.{is_started, started_fits}
use Rattle.capnp_bench.proofs.runs.make_after.Goals as goal

pub make-requires : goal.make-requires
make-requires c = record {
  ready = record {
    stands = search rules;
    standing = record {
      planted = is_started c.init_struct.new.self c.in_ok-place.place c.in_ok-place.ensures.forest c.in_ok-place.ensures.place;
      room = started_fits c.init_struct.new.self c.in_ok-place.place c.in_ok-place.ensures.forest c.in_ok-place.ensures.place (set_of c.in-Some.schema) (number_of c.in-Some.schema) c.size_of.result c.size_of.ensures c.in_ok-place.ensures.tree;
    };
  };
}

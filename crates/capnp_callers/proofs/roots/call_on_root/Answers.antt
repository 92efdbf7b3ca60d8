-- The calls are made in the struct that the root leads to.
use Rattle.std.proofs.Common.{Result, Ok, Err, OnOk, refl}
use Rattle.capnp_wire.specs.Edits.{struct_in}
use Rattle.capnp_arena.specs.Message.{message_tree}
use Rattle.capnp_schema.specs.StructHandles.{number_of, set_of}
use Rattle.capnp_callers.proofs.RootCalls.{got_fits, is_got, left}
use Rattle.capnp_callers.proofs.roots.call_on_root.Goals as goal

pub run-requires-clause-ready : goal.run-requires-clause-ready
run-requires-clause-ready c = record {
  planted = is_got c.get_struct.new.self c.get_struct.new.self c.in_ok-place.place c.in_ok-place.place refl refl c.in_ok-place.ensures.forest c.in_ok-place.ensures.place;
  room = got_fits c.get_struct.new.self c.get_struct.new.self c.in_ok-place.place c.in_ok-place.place refl refl c.in_ok-place.ensures.forest c.in_ok-place.ensures.place
      (set_of c.args.schema) (number_of c.args.schema) c.size_of.result (struct_in (message_tree c.args.message.now)) c.size_of.ensures c.in_ok-place.ensures.tree;
}

on_ok : {A E : Type 0} {P : Type 0} (r : Result A E) → P → OnOk r P
on_ok (Ok a) p = p
on_ok (Err e) p = tt

pub returns : goal.returns
returns c =
    on_ok c.run.result
    (left c.get_struct.new.self c.get_struct.new.self c.in_ok-place.place c.in_ok-place.place refl refl c.in_ok-place.ensures.forest c.in_ok-place.ensures.place c.run.ensures.frame.planted c.run.ensures.frame.changes)

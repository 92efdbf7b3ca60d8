-- What is left are the enumerants from the next one on.
use Rattle.std.proofs.Common.{◌≡◌}
use Rattle.capnp_request.specs.Steps.Done.{between}
use Rattle.capnp_request.specs.Steps.Handles.{values_left}
use Rattle.capnp_request.specs.Steps.Nodes.{nodes_of}
use Rattle.capnp_request.specs.Steps.Numbers.{AreNumbered}
use Rattle.capnp_request.specs.Order.{enumerant_of}
use Rattle.capnp_request.specs.Reading.{each_said, enumerant_said}
use Rattle.capnp_request.specs.Steps.StructsSeen.{seen_enumerants}
use Rattle.capnp_request.specs.Work.{each_read}
use Rattle.capnp_request.proofs.Works.{ahead}
use Rattle.capnp_request.proofs.enums.enumerants_of.Given as goal

abbrev pub invariant-loop-index : goal.invariant-loop-index
invariant-loop-index l = record {
  numbers : AreNumbered l.entries;
  left : ahead (seen_enumerants l.made.items)
      (each_read (enumerant_of (nodes_of l.context.nodes.now) l.context.strict) (each_said 11 enumerant_said (values_left l.listed l.index)) (between l.entries))
      ≡ each_read (enumerant_of (nodes_of l.context.nodes.now) l.context.strict) (each_said 11 enumerant_said (values_left l.listed 0)) (between l.fn.entries);
}

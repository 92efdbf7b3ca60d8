-- So many annotations were read, each with its type.
use Rattle.std.proofs.Common.{◌≡◌, length}
use Rattle.capnp_request.specs.Steps.Bindings.{bounds}
use Rattle.capnp_request.specs.Conversion.{annotation_of}
use Rattle.capnp_request.specs.Steps.ConvertedSeen.{typed_annotations}
use Rattle.capnp_request.specs.Steps.Done.{between}
use Rattle.capnp_request.specs.Steps.Handles.{values_left}
use Rattle.capnp_request.specs.Steps.Nodes.{nodes_of}
use Rattle.capnp_request.specs.Steps.Numbers.{AreNumbered}
use Rattle.capnp_request.specs.Reading.{annotation_said, each_said}
use Rattle.capnp_request.specs.Work.{each_read}
use Rattle.capnp_request.proofs.Walks.{prefixed}
use Rattle.capnp_request.proofs.annotations.annotations_in.Given as goal

abbrev pub invariant-loop-at : goal.invariant-loop-at
invariant-loop-at l = record {
  numbers : AreNumbered l.entries;
  typed : length l.types.items ≡ length l.records.items;
  done : each_read (annotation_of (nodes_of l.context.nodes.now) l.context.strict (bounds l.inside)) (each_said 12 annotation_said (values_left l.listed 0)) (between l.fn.entries)
      ≡ prefixed (typed_annotations l.records.items l.types.items) (each_read (annotation_of (nodes_of l.context.nodes.now) l.context.strict (bounds l.inside)) (each_said 12 annotation_said (values_left l.listed l.at)) (between l.entries));
}

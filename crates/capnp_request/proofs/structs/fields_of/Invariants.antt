-- What is left are the fields from the next one on.
use Rattle.std.proofs.Common.{◌≡◌, List, length}
use Rattle.capnp_request.specs.Steps.Bindings.{bounds}
use Rattle.capnp_request.specs.Conversion.{fields_of}
use Rattle.capnp_request.specs.Steps.Done.{between}
use Rattle.capnp_request.specs.Steps.Handles.{values_left}
use Rattle.capnp_request.specs.Steps.Nodes.{nodes_of}
use Rattle.capnp_request.specs.Steps.Numbers.{AreNumbered}
use Rattle.capnp_request.specs.Reading.{each_said, field_said}
use Rattle.capnp_request.specs.Steps.StructsSeen.{AreMadeOf, seen_fields}
use Rattle.capnp_request.specs.declared.fields.ConvertedField.{ConvertedField}
use Rattle.capnp_request.proofs.Works.{ahead}
use Rattle.capnp_request.proofs.structs.fields_of.Given as goal

abbrev pub invariant-loop-index : goal.invariant-loop-index
invariant-loop-index l = record {
  numbers : AreNumbered l.entries;
  made : (fields : List ConvertedField)
      × (length fields ≡ l.index)
      × AreMadeOf l.number fields l.made
      × (ahead (seen_fields l.number 0 fields)
      (fields_of (nodes_of l.context.nodes.now) l.context.strict (bounds l.inside) l.number l.index (each_said 8 field_said (values_left l.listed l.index)) (between l.entries))
      ≡ fields_of (nodes_of l.context.nodes.now) l.context.strict (bounds l.inside) l.number 0 (each_said 8 field_said (values_left l.listed 0)) (between l.fn.entries));
}

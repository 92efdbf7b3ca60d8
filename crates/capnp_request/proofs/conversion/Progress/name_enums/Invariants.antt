-- The names of the enums so far, and what is left.
use Rattle.std.proofs.Common.{◌≡◌, drop, length}
use Rattle.capnp_request.specs.Steps.NamesMade.{texts}
use Rattle.capnp_request.specs.Steps.Nodes.{nodes_of}
use Rattle.capnp_request.specs.Steps.Numbers.{numbered_entries}
use Rattle.capnp_request.specs.Order.{enum_names}
use Rattle.capnp_request.proofs.conversion.Progress.name_enums.Given as goal

abbrev pub invariant-loop-number : goal.invariant-loop-number
invariant-loop-number l = record {
  same : l.self.made ≡ l.fn.self.made;
  names : l.self.names ≡ l.fn.self.names;
  count : length l.self.enum_names.items ≡ l.number;
  left : enum_names (nodes_of l.context.nodes.now) (drop l.number (numbered_entries l.entries).enums) (texts l.self.enum_names.items)
      ≡ enum_names (nodes_of l.context.nodes.now) (drop (length (texts l.fn.self.enum_names.items)) (numbered_entries l.entries).enums) (texts l.fn.self.enum_names.items);
}

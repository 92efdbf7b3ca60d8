-- What is left is the dotted name from the next byte on.
use Rattle.std.proofs.Common.{◌≡◌, ◌++◌, ◌≤◌, drop}
use Rattle.capnp_request.specs.Steps.Bindings.{bounds}
use Rattle.capnp_request.specs.Names.{bound_name, occurrences_of}
use Rattle.capnp_request.specs.Steps.NamesMade.{struct_names, texts}
use Rattle.capnp_request.proofs.names.append_dotted.Given as goal

abbrev pub invariant-loop-byte : goal.invariant-loop-byte
invariant-loop-byte l = (l.part ≤ l.byte-index)
    × (l.name.items ++ bound_name (struct_names l.named.structs.now) (texts l.named.enums.now) (bounds l.scopes) l.dots l.part (drop l.byte-index l.dotted)
    ≡ l.fn.name.items ++ bound_name (struct_names l.named.structs.now) (texts l.named.enums.now) (bounds l.scopes) (occurrences_of 46 l.dotted) 0 l.dotted)

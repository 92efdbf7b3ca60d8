-- What is left are the scopes from the next one on.
use Rattle.std.proofs.Common.{◌≡◌, ◌++◌, drop}
use Rattle.capnp_request.specs.Steps.Bindings.{bounds}
use Rattle.capnp_request.specs.Names.{part_bindings}
use Rattle.capnp_request.specs.Steps.NamesMade.{struct_names, texts}
use Rattle.capnp_request.proofs.names.append_part_bindings.Given as goal

abbrev pub invariant-loop-scope : goal.invariant-loop-scope
invariant-loop-scope l =
    l.name.items ++ part_bindings (struct_names l.named.structs.now) (texts l.named.enums.now) (bounds (drop l.scope-index l.scopes)) l.dots l.part
    ≡ l.fn.name.items ++ part_bindings (struct_names l.named.structs.now) (texts l.named.enums.now) (bounds l.scopes) l.dots l.part

-- What is left are the parameters from the index on.
use Rattle.std.proofs.Common.{◌≡◌, ◌++◌, ◌-◌, drop, map}
use Rattle.capnp_request.specs.Steps.Bindings.{seen_marked}
use Rattle.capnp_request.specs.Names.{more_names}
use Rattle.capnp_request.specs.Steps.NamesMade.{struct_names, texts}
use Rattle.capnp_request.proofs.names.append_others.Given as goal

abbrev pub invariant-loop-index : goal.invariant-loop-index
invariant-loop-index l =
    l.name.items ++ more_names (struct_names l.named.structs.now) (texts l.named.enums.now) (drop l.index (map seen_marked l.types)) (l.parameters - l.index)
    ≡ l.fn.name.items ++ more_names (struct_names l.named.structs.now) (texts l.named.enums.now) (drop 1 (map seen_marked l.types)) (l.parameters - 1)

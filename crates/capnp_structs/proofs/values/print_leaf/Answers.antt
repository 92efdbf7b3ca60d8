-- A value that is no struct and no list has a text, so that only memory can be wanting.
use Rattle.std.proofs.Common.{string_bytes}
use Rattle.capnp_structs.specs.Steps.Values.{shown_text}
use Rattle.capnp_structs.proofs.Stopped.{stopped_leaf}
use Rattle.capnp_structs.proofs.ValuesSaid.{leaf_there}
use Rattle.capnp_structs.proofs.values.print_leaf.Goals as goal

pub unreachable-requires : goal.unreachable-requires
unreachable-requires c = leaf_there c.args.numbers c.args.value c.in-Err.refusal.kind c.requires (c.in-Err.ensures.refused c.in_default.not-OutOfMemory c.in_default.not-TooLarge)

pub returns-in-TooLarge-clause-stopped : goal.returns-in-TooLarge-clause-stopped
returns-in-TooLarge-clause-stopped c =
    stopped_leaf c.args.limit (string_bytes c.args.out.now) (shown_text c.args.numbers c.args.value) c.in-Err.refusal.kind (λ kind e. leaf_there c.args.numbers c.args.value kind c.requires e) c.in-Err.ensures.too_long c.in-TooLarge.is

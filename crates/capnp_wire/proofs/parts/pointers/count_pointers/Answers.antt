use Rattle.std.proofs.Common.{sym}
use Rattle.capnp_wire.specs.Facts.Indexed.{tree_count_from}
use Rattle.capnp_wire.proofs.parts.pointers.count_pointers.Goals as goal

pub returns : goal.returns
returns c = sym (tree_count_from _ _ _)

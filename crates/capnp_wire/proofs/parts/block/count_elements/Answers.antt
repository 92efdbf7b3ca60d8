use Rattle.std.proofs.Common.{sym}
use Rattle.capnp_wire.specs.Facts.Indexed.{struct_count_from}
use Rattle.capnp_wire.proofs.parts.block.count_elements.Goals as goal

pub returns : goal.returns
returns c = sym (struct_count_from _ _ _)

use Rattle.std.proofs.Common.{◌∙◌, ap, sym}
use Rattle.capnp_arena.specs.Steps.Reads.{is_struct_shape}
use Rattle.capnp_arena.proofs.TreeKinds.{struct_is}
use Rattle.capnp_arena.proofs.arena.Arena.is_struct.Goals as goal

pub returns : goal.returns
returns c = c.is_struct.ensures ∙ ap is_struct_shape c.look.ensures.shape ∙ sym (struct_is _ _ c.requires)

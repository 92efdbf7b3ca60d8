use Rattle.std.proofs.Common.{◌∙◌, ap, sym}
use Rattle.capnp_arena.specs.Steps.Reads.{is_list_shape}
use Rattle.capnp_arena.proofs.TreeKinds.{list_is}
use Rattle.capnp_arena.proofs.arena.Arena.is_list.Goals as goal

pub returns : goal.returns
returns c = c.is_list.ensures ∙ ap is_list_shape c.look.ensures.shape ∙ sym (list_is _ _ c.requires)

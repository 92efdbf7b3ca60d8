use Rattle.std.proofs.Common.{◌∙◌, ap, sym}
use Rattle.capnp_arena.specs.Steps.Reads.{is_no_shape}
use Rattle.capnp_arena.proofs.TreeKinds.{null_is}
use Rattle.capnp_arena.proofs.arena.Arena.is_null.Goals as goal

pub returns : goal.returns
returns c = c.is_null.ensures ∙ ap is_no_shape c.look.ensures.shape ∙ sym (null_is _ _ c.requires)

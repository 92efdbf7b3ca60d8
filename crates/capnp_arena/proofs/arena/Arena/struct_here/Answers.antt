-- Only a struct's shape has a tree that is a struct, so the shapes of a null and of lists contradict what is required.
use Rattle.std.proofs.Common.{◌∙◌, ap, false, sym, true, ◌≡◌}
use Rattle.capnp_arena.specs.Steps.Reads.{is_struct_shape}
use Rattle.capnp_arena.proofs.TreeKinds.{struct_is}
use Rattle.capnp_arena.proofs.arena.Arena.struct_here.Goals as goal

no : false ≡ true → ⊥
no h = cc

pub unreachable-requires : goal.unreachable-requires
unreachable-requires c = no (ap is_struct_shape c.in-Null.ensures.shape ∙ sym (struct_is _ _ c.requires.forest) ∙ c.requires.there)

pub unreachable-requires-in-List : goal.unreachable-requires-in-List
unreachable-requires-in-List c = no (ap is_struct_shape c.in-List.ensures.shape ∙ sym (struct_is _ _ c.requires.forest) ∙ c.requires.there)

pub unreachable-requires-in-Composite : goal.unreachable-requires-in-Composite
unreachable-requires-in-Composite c = no (ap is_struct_shape c.in-Composite.ensures.shape ∙ sym (struct_is _ _ c.requires.forest) ∙ c.requires.there)

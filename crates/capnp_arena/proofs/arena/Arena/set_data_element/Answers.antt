-- A null or a struct has no numbers. In structs the number is the first in the element's data, so that element alone changes.
use Rattle.std.proofs.Common.{◌∙◌, ap, arith, subst, sym}
use Rattle.capnp_arena.specs.Leaves.{Leaves}
use Rattle.capnp_arena.specs.Segment.{segment}
use Rattle.capnp_wire.specs.Elements.{with_struct_element}
use Rattle.capnp_arena.specs.Forest.{tree}
use Rattle.capnp_arena.proofs.WrittenElements.{null_number, number_fits, number_struct, struct_number, struct_number_is}
use Rattle.capnp_arena.proofs.arena.Arena.set_data_element.Goals as goal

pub unreachable-requires : goal.unreachable-requires
unreachable-requires g c = null_number _ _ c.requires.forest _ _ c.requires.number (sym c.in-Null.ensures.shape)

pub unreachable-requires-in-Struct : goal.unreachable-requires-in-Struct
unreachable-requires-in-Struct g c = struct_number _ _ c.requires.forest _ _ c.requires.number _ _ _ (sym c.in-Struct.ensures.shape)

pub get_struct_at-place-requires-clause-there : goal.get_struct_at-place-requires-clause-there
get_struct_at-place-requires-clause-there g c = number_struct _ _ c.requires.forest _ _ c.requires.number _ _ _ _ (sym c.in-Composite.ensures.shape)

pub set_number-requires-clause-inside : goal.set_number-requires-clause-inside
set_number-requires-clause-inside g c =
    let l = number_fits _ _ c.requires.forest _ _ c.requires.number _ _ _ _ (sym c.in-Composite.ensures.shape) c.get_struct_at-place.result c.get_struct_at-place.ensures.planted c.get_struct_at-place.ensures.tree in
    omega (arith, l)

pub returns-in-Composite-clause-leaves : goal.returns-in-Composite-clause-leaves
returns-in-Composite-clause-leaves g c =
    subst (λ t. Leaves c.args.at t (segment c.args.self.now) (segment c.set_number.new.self))
    (ap (λ s. with_struct_element c.args.index s (tree (segment c.args.self.now) c.args.at)) c.set_number.ensures.tree
    ∙ struct_number_is _ _ c.requires.forest _ _ c.requires.number _ _ _ _ (sym c.in-Composite.ensures.shape) _ _ c.get_struct_at-place.ensures.tree)
    (c.get_struct_at-place.ensures.leaves _ c.set_number.ensures.planted c.set_number.ensures.changes)

-- The struct that was got is the one of the pointer's tree.
use Rattle.std.proofs.Common.{ap, ◌∙◌}
use Rattle.capnp_wire.specs.Defaults.{default_tree, filled_struct}
use Rattle.capnp_wire.specs.Slot.{number_at}
use Rattle.capnp_wire.specs.Tree.{StructTree}
use Rattle.capnp_arena.specs.Facts.Laws.{struct_is}
use Rattle.capnp_arena.specs.Handles.{built_pointer_tree}
use Rattle.capnp_arena.specs.Segment.{segment}
use Rattle.capnp_wire_callers.proofs.defaults.first_number_or_default.Goals as goal

pub returns : goal.returns
returns c =
    let got = c.in_ok-built.built in
    let whole = filled_struct (default_tree c.args.default) c.args.size (built_pointer_tree c.args.pointer) in
    let same = struct_is (segment got.arena.now) c.args.pointer.at got.place.start got.place.data_words got.place.pointers whole c.in_ok-built.ensures.forest c.in_ok-built.ensures.place c.in_ok-built.ensures.tree in
    c.get_data_field.ensures ∙ ap (λ (s : StructTree). number_at 8 0 s.bytes) same

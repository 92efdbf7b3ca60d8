-- A built struct has as many pointers as its place says, so the field is inside; a new tree there changes that pointer alone.
use Rattle.std.proofs.Common.{arith}
use Rattle.capnp_arena.specs.Segment.{segment}
use Rattle.capnp_arena.specs.Facts.Places.{pointer_leaves, pointers_of}
use Rattle.capnp_arena.proofs.structs.pointer_at.Goals as goal

pub get_pointer_field-requires-clause-inside : goal.get_pointer_field-requires-clause-inside
get_pointer_field-requires-clause-inside c =
    let e = pointers_of (segment c.args.arena.now) c.args.place.start c.args.place.data_words c.args.place.pointers in
    omega (arith, c.requires.inside, e)

pub returns-clause-leaves : goal.returns-clause-leaves
returns-clause-leaves c = pointer_leaves c.args.arena.now c.args.place c.args.index _ c.requires.planted c.requires.inside c.get_pointer_field.ensures.word

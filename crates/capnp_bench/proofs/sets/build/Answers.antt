-- What is written into the root's struct leaves a tree at the root.
use Rattle.capnp_arena.specs.Facts.Laws.{in_struct}
use Rattle.capnp_bench.proofs.sets.build.Goals as goal

pub write_message-requires : goal.write_message-requires
write_message-requires c =
    let p = c.in_ok-place.place in
    record { forest = (in_struct _ _ 0 p.start p.data_words p.pointers c.in_ok-place.ensures.forest c.in_ok-place.ensures.place c.fill.ensures.planted c.fill.ensures.changes).forest }

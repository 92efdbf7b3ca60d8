-- The list is made and filled below the root's first pointer, whose changes stay there; so
-- the root's struct still leads to a forest.
use Rattle.std.proofs.Common.{ap₂, ◌∙◌}
use Rattle.capnp_arena.specs.Shape.{StructIn}
use Rattle.capnp_bench.proofs.ArenaItems.{root_still}
use Rattle.capnp_bench.proofs.arena_builds.build_once.Goals as goal

pub write_message-requires : goal.write_message-requires
write_message-requires c =
    record {
      forest = root_still _ _ _ c.in_ok-root.root.start c.in_ok-root.ensures.forest
          (c.in_ok-root.ensures.place ∙ ap₂ (StructIn c.in_ok-root.root.start) c.in_ok-root.ensures.size.0 c.in_ok-root.ensures.size.1)
          c.in_ok-tag.ensures.changes c.fill_items.ensures.forest c.fill_items.ensures.changes;
    }
